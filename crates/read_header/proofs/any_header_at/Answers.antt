-- The length that is read, or why it is not. Assumes nothing.
use Rattle.std.proofs.Common.{rules, ◌≡◌, ◌/◌, ◌%◌, length, ◌<◌, false, sym, ◌∙◌, Err, get_or}
use Rattle.reading.specs.Headers.{impossible, alone}
use Rattle.read_header.proofs.Headers.{header_refused, header_within}
use Rattle.read_header.proofs.any_header_at.Goals as goal

pub returns-in_err-n : goal.returns-in_err-n
returns-in_err-n c =
    let a = c.args in
    let stopped : c.from_residual-in_err-n.result ≡ Err c.in_err-n.field-0.0 = search rules in
    let inside : a.at < length a.s.now = search rules in
    let byte : c.in_ok-b.field-0.now ≡ get_or a.s.now a.at 0 = search rules in
    let possible : impossible (get_or a.s.now a.at 0 / 16) (get_or a.s.now a.at 0 % 16) ≡ false = search rules in
    let more : alone (get_or a.s.now a.at 0 / 16) (get_or a.s.now a.at 0 % 16) ≡ false = search rules in
    stopped ∙ sym (header_refused a.out a.s.now a.at inside possible more c.in_err-n.field-0.0 (rw (← byte) c.in_err-n.ensures))

pub overflow_sub-s : goal.overflow_sub-s
overflow_sub-s c =
    let a = c.args in
    let inside : a.at < length a.s.now = search rules in
    let byte : c.in_ok-b.field-0.now ≡ get_or a.s.now a.at 0 = search rules in
    let possible : impossible (get_or a.s.now a.at 0 / 16) (get_or a.s.now a.at 0 % 16) ≡ false = search rules in
    let more : alone (get_or a.s.now a.at 0 / 16) (get_or a.s.now a.at 0 % 16) ≡ false = search rules in
    header_within a.out a.s.now a.at inside possible more c.in_ok-n.field-0 (rw (← byte) c.in_ok-n.ensures)

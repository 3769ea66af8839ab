-- `read_scalars::reads` meets its contract: by the type code, one law for each.
-- Assumes nothing.
use Prim.Native.Nat.{◌%◌}
use native.Mathlib.Omega.{arith}
use mathlib.Core.Path.{refl, ◌∙◌, ap}
use borrow.Author.Rules.{rules}
use mathlib.Core.Bool.{not}
use Rattle.ion.specs.Value.{bool_code, positive_code, negative_code, float_code, decimal_code, timestamp_code, symbol_code, string_code, clob_code}
use Rattle.ion.specs.Value.{blob_code, string}
use Rattle.ion.specs.Fields.{uint}
use Rattle.ion.specs.Text.{utf8}
use Rattle.ion.specs.Scalars.{scalar_of}
use Rattle.reading.specs.Scalars.{code_from, body_of}
use Rattle.std.specs.Prelude.{is_ok}
use Rattle.read_timestamp.proofs.Coefficients.{checked}
use Rattle.read_scalars.proofs.Bodies.{bool_reads, negative_reads, float_reads, decimal_is_read, timestamp_is_read, symbol_is_read}
use Rattle.read_scalars.proofs.Codes.{null_reads, body_reads, none_reads}
use Rattle.read_scalars.proofs.reads.Goals as goal

pub returns-then-kind-eq-NULL : goal.returns-then-kind-eq-NULL
returns-then-kind-eq-NULL c = let a = c.args in null_reads a.kind a.body.now (omega arith) c.if-kind-eq-NULL.true

pub returns-in-1 : goal.returns-in-1
unfolding code_from body_of scalar_of
returns-in-1 c = let a = c.args in bool_reads (a.kind % 16) ∙ body_reads c.args.kind c.args.body.now c.if-kind-eq-NULL.false 1 bool_code refl c.in-1.is

pub returns-in-2 : goal.returns-in-2
unfolding code_from body_of scalar_of
returns-in-2 c = body_reads c.args.kind c.args.body.now c.if-kind-eq-NULL.false 2 positive_code refl c.in-2.is

pub returns-in-3 : goal.returns-in-3
unfolding code_from body_of scalar_of
returns-in-3 c = let a = c.args in
    ap not c.is_zero.ensures ∙ negative_reads (uint a.body.now) ∙ body_reads c.args.kind c.args.body.now c.if-kind-eq-NULL.false 3 negative_code refl c.in-3.is

pub returns-in-4 : goal.returns-in-4
unfolding code_from body_of scalar_of
returns-in-4 c = let a = c.args in
    c.is_float_size.ensures ∙ float_reads a.body.now ∙ body_reads c.args.kind c.args.body.now c.if-kind-eq-NULL.false 4 float_code refl c.in-4.is

pub returns-in-5 : goal.returns-in-5
unfolding code_from body_of scalar_of
returns-in-5 c = let a = c.args in
    c.is_ok.ensures.value ∙ ap is_ok c.decimal.ensures ∙ decimal_is_read a.body.now
    ∙ body_reads c.args.kind c.args.body.now c.if-kind-eq-NULL.false 5 decimal_code refl c.in-5.is

pub returns-in-6 : goal.returns-in-6
unfolding code_from body_of scalar_of
returns-in-6 c = let a = c.args in
    c.is_timestamp.ensures ∙ timestamp_is_read a.body.now
    ∙ body_reads c.args.kind c.args.body.now c.if-kind-eq-NULL.false 6 timestamp_code refl c.in-6.is

pub returns-in-7 : goal.returns-in-7
unfolding code_from body_of scalar_of
returns-in-7 c = let a = c.args in
    c.is_ok-in-7.ensures.value ∙ ap is_ok c.symbol.ensures ∙ symbol_is_read a.body.now
    ∙ body_reads c.args.kind c.args.body.now c.if-kind-eq-NULL.false 7 symbol_code refl c.in-7.is

pub returns-in-8 : goal.returns-in-8
unfolding code_from body_of scalar_of
returns-in-8 c = let a = c.args in
    c.is_utf8.ensures ∙ checked (utf8 a.body.now) (string a.body.now) ∙ body_reads c.args.kind c.args.body.now c.if-kind-eq-NULL.false 8 string_code refl c.in-8.is

pub returns-in-9 : goal.returns-in-9
unfolding code_from body_of scalar_of
returns-in-9 c = body_reads c.args.kind c.args.body.now c.if-kind-eq-NULL.false 9 clob_code refl c.in-9.is

pub returns-in-10 : goal.returns-in-10
unfolding code_from body_of scalar_of
returns-in-10 c = body_reads c.args.kind c.args.body.now c.if-kind-eq-NULL.false 10 blob_code refl c.in-10.is

pub returns-in_default : goal.returns-in_default
returns-in_default c = let a = c.args in none_reads a.kind a.body.now c.if-kind-eq-NULL.false (omega arith) (search rules)

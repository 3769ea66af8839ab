-- `Timestamp::is_local` meets its contract: the tests in field order are the local rules of check 7.
-- Assumes nothing.
use Rattle.encoding.proofs.Rules.{offset-rules, fraction-rules}
use Rattle.timestamp.specs.Arguments.{offset_minutes, fraction_digits, fields_of}
use Rattle.timestamp.proofs.Valid.{is_local_timestamp_tests}
use Rattle.timestamp.proofs.Timestamp.is_local.Goals as goal

pub returns : goal.returns
returns c =
    let t = c.args.self in
    let o = offset_minutes t.offset in
    let x = fraction_digits t.fraction in
    rw (
      c.fraction_fits.ensures,
      fraction-rules x (fields_of t),
      c.offset_fits.ensures,
      offset-rules o (fields_of t),
      c.is_day.ensures,
      c.is_month.ensures,
      c.is_year.ensures,
      c.field_count-fields.ensures,
    )
    (is_local_timestamp_tests t.precision t.year t.month t.day t.hour t.minute t.second o x)

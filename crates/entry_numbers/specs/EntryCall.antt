-- The calls that a host makes, with their arguments as they cross: numbers of their widths and byte slices.
-- Assumes nothing.
use Rattle.std.specs.Prelude.{ℕ, ◌^◌, ◌<◌, not, List, [], ◌∷◌, eqb, ℤ, pos, negsuc, length}
use Rattle.ion.specs.Value.{list, sexp}
use Rattle.encoding.specs.Fields.{IsI64}
use Rattle.encoding.specs.Argument.{write_null, write_bool, write_i64, write_int, write_f32, write_f64, write_decimal, write_symbol, write_string, write_clob, write_blob}
use Rattle.machine.specs.Call.{sequence_type, struct_type}
use Rattle.machine.specs.Call.{Call, write, name, opening, closing, abandonment, version_marker, taking, emptying}
use Rattle.annotations.specs.Sids.{sids_of}
use Rattle.scalars.specs.Types.{type_of}
use Rattle.timestamp.specs.Arguments.{argument_of}
use Rattle.entry_numbers.specs.Lent.{type_coded, precision_numbered, offset_lent, fraction_lent}

-- the numbers of `gm_write_timestamp`, in their order
pub record TimestampNumbers : Type 0 where
  pub precision : ℕ
  pub year : ℕ
  pub month : ℕ
  pub day : ℕ
  pub hour : ℕ
  pub minute : ℕ
  pub second : ℕ
  pub known : ℕ
  pub offset : ℤ
  pub given : ℕ
  pub digits : ℕ
  pub coefficient : ℕ

-- An entry point by its name, with what it is given behind state and buffer; annotations come first. A start comes before a list of calls.
pub data EntryCall : Type 0 where
  gm_write_null gm_write_bool : List ℕ → ℕ → EntryCall
  gm_write_i64 : List ℕ → ℤ → EntryCall
  gm_write_int : List ℕ → ℕ → List ℕ → EntryCall
  gm_write_f32 gm_write_f64 : List ℕ → ℕ → EntryCall
  gm_write_decimal : List ℕ → ℕ → List ℕ → ℤ → EntryCall
  gm_write_timestamp : List ℕ → TimestampNumbers → EntryCall
  gm_write_symbol : List ℕ → ℕ → EntryCall
  gm_write_string gm_write_clob gm_write_blob : List ℕ → List ℕ → EntryCall
  gm_field_name : ℕ → EntryCall
  gm_open_list gm_open_sexp gm_open_struct : List ℕ → EntryCall
  gm_close gm_abandon gm_version_marker gm_finished gm_empty : EntryCall

-- ---- the call that each stands for. A number that says yes or no is no where it is 0.

abbrev pub call_of : EntryCall → Call
call_of (gm_write_null an code) = write (sids_of an) (write_null (type_of (type_coded code)))
call_of (gm_write_bool an value) = write (sids_of an) (write_bool (not (eqb value 0)))
call_of (gm_write_i64 an value) = write (sids_of an) (write_i64 value)
call_of (gm_write_int an negative magnitude) = write (sids_of an) (write_int (not (eqb negative 0)) magnitude)
call_of (gm_write_f32 an bits) = write (sids_of an) (write_f32 bits)
call_of (gm_write_f64 an bits) = write (sids_of an) (write_f64 bits)
call_of (gm_write_decimal an negative coefficient exponent) = write (sids_of an) (write_decimal (not (eqb negative 0)) coefficient exponent)
call_of (gm_write_timestamp an t) =
    write (sids_of an)
    (argument_of (record {
      precision = precision_numbered t.precision;
      year = t.year;
      month = t.month;
      day = t.day;
      hour = t.hour;
      minute = t.minute;
      second = t.second;
      offset = offset_lent t.known t.offset;
      fraction = fraction_lent t.given t.digits t.coefficient;
    }))
call_of (gm_write_symbol an sid) = write (sids_of an) (write_symbol sid)
call_of (gm_write_string an bytes) = write (sids_of an) (write_string bytes)
call_of (gm_write_clob an bytes) = write (sids_of an) (write_clob bytes)
call_of (gm_write_blob an bytes) = write (sids_of an) (write_blob bytes)
call_of (gm_field_name sid) = name sid
call_of (gm_open_list an) = opening (sids_of an) (sequence_type list)
call_of (gm_open_sexp an) = opening (sids_of an) (sequence_type sexp)
call_of (gm_open_struct an) = opening (sids_of an) struct_type
call_of gm_close = closing
call_of gm_abandon = abandonment
call_of gm_version_marker = version_marker
call_of gm_finished = taking
call_of gm_empty = emptying

-- ---- the types of the arguments, as the entry points declare them

abbrev pub U8 : ℕ → Type 0
U8 n = n < 2 ^ 8

abbrev pub U32 : ℕ → Type 0
U32 n = n < 2 ^ 32

abbrev pub U64 : ℕ → Type 0
U64 n = n < 2 ^ 64

abbrev pub I32 : ℤ → Type 0
I32 (pos n) = n < 2 ^ 31
I32 (negsuc n) = n < 2 ^ 31

abbrev pub AllU8 : List ℕ → Type 0
AllU8 [] = Unit {0}
AllU8 (b ∷ bs) = U8 b × AllU8 bs

-- a byte slice
abbrev pub Bytes : List ℕ → Type 0
Bytes b = AllU8 b × U64 (length b)

pub record TimestampTyped (t : TimestampNumbers) : Type 0 where
  pub precision : U8 t.precision
  pub year : U32 t.year
  pub month : U32 t.month
  pub day : U32 t.day
  pub hour : U32 t.hour
  pub minute : U32 t.minute
  pub second : U32 t.second
  pub known : U8 t.known
  pub offset : I32 t.offset
  pub given : U8 t.given
  pub digits : U32 t.digits
  pub coefficient : U64 t.coefficient

abbrev pub EntryTyped : EntryCall → Type 0
EntryTyped (gm_write_null an code) = Bytes an × U8 code
EntryTyped (gm_write_bool an value) = Bytes an × U8 value
EntryTyped (gm_write_i64 an value) = Bytes an × IsI64 value
EntryTyped (gm_write_int an negative magnitude) = Bytes an × U8 negative × Bytes magnitude
EntryTyped (gm_write_f32 an bits) = Bytes an × U32 bits
EntryTyped (gm_write_f64 an bits) = Bytes an × U64 bits
EntryTyped (gm_write_decimal an negative coefficient exponent) = Bytes an × U8 negative × Bytes coefficient × IsI64 exponent
EntryTyped (gm_write_timestamp an t) = Bytes an × TimestampTyped t
EntryTyped (gm_write_symbol an sid) = Bytes an × U64 sid
EntryTyped (gm_write_string an bytes) = Bytes an × Bytes bytes
EntryTyped (gm_write_clob an bytes) = Bytes an × Bytes bytes
EntryTyped (gm_write_blob an bytes) = Bytes an × Bytes bytes
EntryTyped (gm_field_name sid) = U64 sid
EntryTyped (gm_open_list an) = Bytes an
EntryTyped (gm_open_sexp an) = Bytes an
EntryTyped (gm_open_struct an) = Bytes an
EntryTyped gm_close = Unit {0}
EntryTyped gm_abandon = Unit {0}
EntryTyped gm_version_marker = Unit {0}
EntryTyped gm_finished = Unit {0}
EntryTyped gm_empty = Unit {0}

-- A call that a host can make: an entry point with arguments of its types.
pub record HostCall : Type 0 where
  pub entry : EntryCall
  pub typed : EntryTyped entry

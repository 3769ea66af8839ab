-- The Ion type that each case of the enum names.
-- Assumes nothing.
use Rattle.ion.specs.Value.{ion_null, ion_bool, ion_int, ion_float, ion_decimal, ion_timestamp, ion_symbol, ion_string, ion_clob, ion_blob, ion_list, ion_sexp, ion_struct}
use Rattle.ion.specs.Value.{IonType as Named}
use Rattle.scalars.specs.declared.IonType.{IonType}
use Rattle.scalars.specs.declared.IonType.TheVariants.{Null, Bool, Int, Float, Decimal, Timestamp, Symbol, String, Clob, Blob, List, Sexp, Struct}

abbrev pub type_of : IonType → Named
type_of Null = ion_null
type_of Bool = ion_bool
type_of Int = ion_int
type_of Float = ion_float
type_of Decimal = ion_decimal
type_of Timestamp = ion_timestamp
type_of Symbol = ion_symbol
type_of String = ion_string
type_of Clob = ion_clob
type_of Blob = ion_blob
type_of List = ion_list
type_of Sexp = ion_sexp
type_of Struct = ion_struct

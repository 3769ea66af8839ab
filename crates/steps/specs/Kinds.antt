-- The kind of container that each case of the enum names.
-- Assumes nothing.
use Rattle.ion.specs.Value.{list, sexp}
use Rattle.machine.specs.Call.{sequence_type, struct_type}
use Rattle.machine.specs.Call.{ContainerType as Named}
use Rattle.steps.specs.declared.ContainerType.{ContainerType}
use Rattle.steps.specs.declared.ContainerType.TheVariants.{List, Sexp, Struct}

abbrev pub kind_of : ContainerType → Named
kind_of List = sequence_type list
kind_of Sexp = sequence_type sexp
kind_of Struct = struct_type

-- The call that a clob or a blob is written by.
-- Assumes nothing.
use Rattle.encoding.specs.Argument.{Argument, write_clob, write_blob}
use Rattle.scalars.specs.declared.Lob.{Lob}
use Rattle.scalars.specs.declared.Lob.TheVariants.{Clob, Blob}

abbrev pub lob_argument : Lob → Argument
lob_argument (Clob b) = write_clob b.now
lob_argument (Blob b) = write_blob b.now

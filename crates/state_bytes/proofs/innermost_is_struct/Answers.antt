-- `state_bytes::innermost_is_struct` meets its contract: the byte is the code of the container below the depth.
-- Assumes nothing.
use Rattle.state_bytes.proofs.Laws.{struct_below}
use Rattle.state_bytes.proofs.innermost_is_struct.Goals as goal

pub returns : goal.returns
returns c u = struct_below c.args.st.now c.args.depth c.told-st c.requires u

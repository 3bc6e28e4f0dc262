-- `jxe::read_behind` meets its contract.
use Rattle.std.proofs.Common.{arith}
use borrow.Rule.Slice.PartMut.{take_put}
use Rattle.jxe.proofs.read_behind.Goals as goal

pub returns-clause-front : goal.returns-clause-front
returns-clause-front g c = take_put _ _ c.args.bytes.now _ (omega (arith, c.requires))

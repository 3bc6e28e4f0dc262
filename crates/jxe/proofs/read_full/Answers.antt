-- `jxe::read_full` meets its contract.
use Rattle.jxe.proofs.Reading.{both}
use Rattle.jxe.proofs.read_full.Goals as goal

pub loop-n-preserved : goal.loop-n-preserved
loop-n-preserved g c =
    let read = c.in_ok-more.ensures in
    (read.fits, both _ _ _ _ _ c.loop-n.bytes _ read.front c.loop-n.invariant.1 read.read)

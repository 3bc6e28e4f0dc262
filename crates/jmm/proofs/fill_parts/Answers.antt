-- `jmm::fill_parts` meets its contract.
use native.Mathlib.Omega.{arith}
use mathlib.Core.Path.{sym, ap, ◌∙◌}
use lib.ListN.{length}
use Rattle.jmm.proofs.Laid.{laid_back, filled_none, filled_more, length_filled}
use Rattle.jmm.proofs.fill_parts.Goals as goal

pub loop-s-init : goal.loop-s-init
loop-s-init c = (omega arith, sym (filled_none _ _))

pub loop-s-preserved : goal.loop-s-preserved
loop-s-preserved c =
    let room = c.requires.room in
    let len = ap length c.loop-s.invariant.1 ∙ length_filled _ _ _ (omega arith) in
    (omega arith, laid_back _ _ _ _ c.section.ensures (c.requires.sized _ (omega arith)) (omega arith) c.fill.ensures ∙ filled_more _ _ _ c.loop-s.invariant.1)

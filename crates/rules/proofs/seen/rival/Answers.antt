-- `rules::seen::rival` meets its contract.
use mathlib.Core.Path.{◌∙◌}
use Rattle.model.specs.Rules.{rival}
use Rattle.model.proofs.Ways.{fails, was_on, was_off}
use Rattle.rules.proofs.seen.rival.Goals as goal

pub returns-then-write : goal.returns-then-write
unfolding rival
returns-then-write c = rw (was_on c.write.ensures c.if-write.true, c.target.ensures, c.target-then-write.ensures)

pub returns-else-write : goal.returns-else-write
unfolding rival
returns-else-write c = c.if-write.false ∙ fails _ (was_off c.write.ensures c.if-write.false)

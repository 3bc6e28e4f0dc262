-- `justify::step::Step::stage` meets its contract.
use mathlib.Core.Path.{sym}
use borrow.Author.Tests.{eq-eqb, ne_eqb}
use Rattle.justify.specs.Found.{stage}
use Rattle.justify.proofs.Least.{least_at, least_past}
use Rattle.justify.proofs.step.Step.stage.Goals as goal

pub returns-then-d-eq0 : goal.returns-then-d-eq0
unfolding stage
returns-then-d-eq0 c = rw (eq-eqb _ _ c.if-d-eq0.true)

pub returns-then-a-size : goal.returns-then-a-size
unfolding stage
returns-then-a-size c =
    rw (ne_eqb _ _ c.if-d-eq0.false, c.in_e-a.ensures)
    (least_at _ _ _ c.args.self.now.staged.least_held (rw (c.in_e-a.ensures, c.size.ensures) at c.if-a-size.true))

pub returns-else-a-size : goal.returns-else-a-size
unfolding stage
returns-else-a-size c =
    rw (ne_eqb _ _ c.if-d-eq0.false)
    (sym (least_past _ _ (rw (c.in_e-a.ensures, c.size.ensures) at c.if-a-size.false)))

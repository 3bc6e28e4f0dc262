-- `justify::step::Step::partner23` meets its contract.
use native.Mathlib.Omega.{arith}
use mathlib.Core.Path.{sym, ◌∙◌}
use borrow.Author.Tests.{not-true}
use Rattle.std.proofs.Common.{rules, tests}
use Rattle.model.proofs.Options.{position_never}
use Rattle.model.proofs.Chains.{found_below}
use Rattle.justify.proofs.Idle.{uncommitted, calm23}
use Rattle.justify.proofs.step.Step.partner23.Goals as goal

pub returns-then-not-committed : goal.returns-then-not-committed
returns-then-not-committed c =
    position_never _ _ (λ y l. uncommitted _ _ _ _ y _ _ (sym c.committed.ensures ∙ c.if-not-committed.true))

pub returns-then-calm : goal.returns-then-calm
returns-then-calm c =
    let pre = c.requires in
    position_never _ _ (λ y l. calm23 _ _ _ _ y pre.x_bound l (not-true _ (sym pre.none_strays ∙ c.if-calm.true)))

pub returns : goal.returns
returns c = found_below _ c.size.ensures (omega arith) c.find.ensures.ran (λ x b q k. search (rules, tests))

-- `justify::step::Step::partner22` meets its contract.
use native.Mathlib.Omega.{arith}
use mathlib.Core.Path.{sym, ◌∙◌}
use borrow.Author.Tests.{not-true}
use Rattle.std.proofs.Common.{rules, tests}
use Rattle.model.proofs.Options.{position_never}
use Rattle.model.proofs.Chains.{found_below}
use Rattle.justify.proofs.Idle.{uncommitted, calm22}
use Rattle.justify.proofs.step.Step.partner22.Goals as goal

pub returns-then-not-committed : goal.returns-then-not-committed
returns-then-not-committed c =
    position_never _ _ (λ y l. uncommitted _ _ _ _ y _ _ (sym c.committed.ensures ∙ c.if-not-committed.true))

pub returns-then-not-differ : goal.returns-then-not-differ
returns-then-not-differ c =
    let pre = c.requires in
    position_never _ _
    (λ y l.
    calm22 _ _ _ _ y pre.x_bound l _ _ _ (not-true _ (sym pre.none_strays ∙ c.if-calm.true)) c.args.self.now.staged.idents.few pre.committed
    (sym c.differ.ensures ∙ c.if-not-differ.true))

pub returns : goal.returns
returns c = found_below _ c.size.ensures (omega arith) c.find.ensures.ran (λ x b q k. search (rules, tests))

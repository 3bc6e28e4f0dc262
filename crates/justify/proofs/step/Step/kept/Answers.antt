-- `justify::step::Step::kept` meets its contract.
use mathlib.Core.Path.{refl, sym}
use Rattle.std.proofs.Common.{rules, tests}
use Rattle.model.proofs.Chains.{any_below}
use Rattle.model.proofs.Search.{any_at}
use Rattle.justify.proofs.step.Step.kept.Goals as goal

pub returns-then-alike : goal.returns-then-alike
returns-then-alike c =
    sym (any_at _ _ _ (rw c.size-n.ensures at c.if-x-n.true) (rw c.alike.ensures at c.if-alike.true))

pub returns : goal.returns
returns c = any_below refl c.size-n.ensures c.any.ensures.ran (λ x b q k. search (rules, tests))

-- `justify::step::Step::partner29` meets its contract.
use native.Mathlib.Omega.{arith}
use mathlib.Core.Path.{sym, ◌∙◌}
use Rattle.std.proofs.Common.{rules, tests}
use Rattle.model.specs.Justified.{broken29}
use Rattle.model.proofs.Options.{position_never}
use Rattle.model.proofs.Chains.{found_below}
use Rattle.justify.proofs.step.Step.partner29.Goals as goal

pub returns-then-not-outside : goal.returns-then-not-outside
unfolding broken29
returns-then-not-outside c =
    position_never _ _ (λ y l. rw (sym c.outside.ensures ∙ c.if-not-outside.true))

pub returns : goal.returns
returns c = found_below _ c.size.ensures (omega arith) c.find.ensures.ran (λ x b q k. search (rules, tests))

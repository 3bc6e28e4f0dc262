-- `justify::step::Step::rule22` meets its contract.
use native.Mathlib.Omega.{arith}
use Rattle.std.proofs.Common.{rules, tests}
use Rattle.model.proofs.Checks.{checked_rule₂}
use Rattle.justify.proofs.step.Step.rule22.Goals as goal

pub returns : goal.returns
returns c =
    checked_rule₂ _ _ _ _ (omega arith) (rw c.size.ensures at c.first_pair.ensures _ (λ x y l k. search (rules, tests)))
    c.rule_of_pair.ensures

-- `justify::step::Step::rule25` meets its contract.
use native.Mathlib.Omega.{arith}
use Rattle.std.proofs.Common.{rules, tests}
use Rattle.model.proofs.Chains.{found_below}
use Rattle.model.proofs.Checks.{checked_rule}
use Rattle.justify.proofs.step.Step.rule25.Goals as goal

pub returns : goal.returns
returns c =
    checked_rule _ _ _ _ (omega arith)
    (found_below _ c.size.ensures (omega arith) c.find.ensures.ran (λ x b q k. search (rules, tests))) c.rule.ensures

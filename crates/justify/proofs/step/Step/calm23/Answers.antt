-- `justify::step::Step::calm23` meets its contract.
use mathlib.Core.Path.{refl, ap}
use mathlib.Core.Bool.{not}
use Rattle.std.proofs.Common.{rules, tests}
use Rattle.model.proofs.Chains.{any_below}
use Rattle.justify.proofs.step.Step.calm23.Goals as goal

pub returns : goal.returns
returns c = ap not (any_below refl c.size.ensures c.any.ensures.ran (λ x b q k. search (rules, tests)))

-- `edges::between` meets its contract.
use mathlib.Core.Path.{refl}
use Rattle.std.proofs.Common.{rules, tests}
use Rattle.model.proofs.Chains.{any_below}
use Rattle.edges.proofs.between.Goals as goal

pub returns : goal.returns
returns c = any_below refl refl c.any.ensures.ran (λ x b q k. search (rules, tests))

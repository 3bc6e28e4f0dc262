-- `edges::any_sw_to` meets its contract.
use mathlib.Core.Path.{refl}
use Rattle.std.proofs.Common.{rules, tests}
use Rattle.model.proofs.Chains.{any_below}
use Rattle.edges.proofs.any_sw_to.Goals as goal

pub returns : goal.returns
returns c = any_below refl c.size.ensures c.any.ensures.ran (λ x b q k. search (rules, tests))

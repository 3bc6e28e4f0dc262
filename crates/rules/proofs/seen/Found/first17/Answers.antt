-- `rules::seen::Found::first17` meets its contract.
use native.Mathlib.Omega.{arith}
use Rattle.std.proofs.Common.{rules, tests}
use Rattle.model.proofs.Chains.{found_below}
use Rattle.rules.proofs.seen.Found.first17.Goals as goal

pub returns : goal.returns
returns c = found_below _ c.size.ensures (omega arith) c.find.ensures.ran (λ x b q k. search (rules, tests))

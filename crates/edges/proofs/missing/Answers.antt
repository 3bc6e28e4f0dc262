-- `edges::missing` meets its contract.
use Prim.Native.Nat.{ℕ, ◌+◌}
use mathlib.Core.Path.{refl, ap}
use Rattle.std.proofs.Common.{rules, tests}
use Rattle.model.specs.Justified.{missing}
use Rattle.model.proofs.Chains.{any_below}
use Rattle.edges.proofs.missing.Goals as goal

pub returns : goal.returns
unfolding missing
returns c = any_below refl (ap (λ (k : ℕ). k + 1) c.justifying.ensures) c.any.ensures.ran (λ x b q k. search (rules, tests))

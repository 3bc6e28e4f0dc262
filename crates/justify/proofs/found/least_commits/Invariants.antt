-- `justify::found::least_commits` meets its contract: the entries are found for the actions before a.
use Prim.Native.Nat.{◌≤◌}
use mathlib.Core.Path.{◌≡◌}
use lib.ListN.{length}
use Rattle.model.specs.Limits.{max_actions}
use Rattle.justify.specs.Found.{Least}
use Rattle.justify.proofs.found.least_commits.Given as goal

abbrev pub invariant-loop-a : goal.invariant-loop-a
invariant-loop-a l = (l.a ≤ l.n) × (length l.t ≡ max_actions) × Least l.e l.t l.a

-- `justify::found::table` meets its contract: the entries before a are found.
use Prim.Native.Nat.{ℕ, ◌<◌, ◌≤◌}
use mathlib.Core.Path.{◌≡◌}
use lib.ListN.{length}
use Rattle.model.specs.Limits.{max_actions}
use Rattle.justify.specs.Found.{Holds}
use Rattle.justify.proofs.found.table.Given as goal

abbrev pub invariant-loop-a : goal.invariant-loop-a
invariant-loop-a g l =
    (l.a ≤ l.n) × (length l.t ≡ max_actions)
    × ((f : ℕ → ℕ) → ((a v : ℕ) → a < l.n → goal.F-post g l.entry a v → v ≡ f a) → Holds l.t l.a f)

-- `ordered::monitors::least13` meets its contract: the pass keeps the broken action of least place.
use Prim.Native.Nat.{ℕ, ◌≤◌, ◌<◌}
use mathlib.Core.Bool.{Bool, true}
use mathlib.Core.List.{List}
use lib.Dec.{ltb}
use Rattle.std.specs.Prelude.{Option, Some, None}
use Rattle.model.specs.Search.{none}
use Rattle.model.specs.Layout.{place}
use Rattle.model.specs.Rules.{broken13}
use Rattle.model.proofs.Best.{Pass, least_pass, Kept}
use Rattle.ordered.proofs.monitors.least13.Given as goal

abbrev pub pass : List ℕ → Pass
pass x = least_pass (broken13 x) (place x) 65536

-- the best of the first i
abbrev pub Best : List ℕ → ℕ → Option ℕ → Type 0
Best x i None = Kept (pass x) none i none 65536
Best x i (Some m) = (m < none) × Kept (pass x) none i m (place x m)

-- a is at a smaller place, or there is none so far
abbrev pub below : List ℕ → ℕ → Option ℕ → Bool
below x a None = true
below x a (Some m) = ltb (place x a) (place x m)

abbrev pub invariant-loop-a : goal.invariant-loop-a
invariant-loop-a l = (l.a-counter ≤ l.a-end) × Best l.x l.a-counter l.best

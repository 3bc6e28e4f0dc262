-- `justify::found::mask` meets its contract: the mask has the bits before b.
use Prim.Native.Nat.{ℕ, ◌<◌, ◌≤◌}
use mathlib.Core.Path.{◌≡◌}
use mathlib.Core.Bool.{Bool}
use lib.ListN.{length}
use Rattle.model.specs.Limits.{row_words}
use Rattle.justify.specs.Row.{Masked}
use Rattle.justify.proofs.found.mask.Given as goal

abbrev pub invariant-loop-b : goal.invariant-loop-b
invariant-loop-b g l =
    (l.b ≤ l.n) × (length l.m ≡ row_words)
    × ((q : ℕ → Bool) → ((b : ℕ) (v : Bool) → b < l.n → goal.F-post g l.chosen b v → v ≡ q b) → Masked l.m l.b q)

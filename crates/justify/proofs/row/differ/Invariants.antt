-- `justify::row::differ` meets its contract.
use Prim.Native.Nat.{ℕ, ◌*◌, ◌<◌, ◌≤◌}
use mathlib.Core.Path.{◌≡◌}
use mathlib.Core.Bool.{false}
use Rattle.model.specs.Limits.{row_words}
use Rattle.justify.specs.Row.{differs}
use Rattle.justify.proofs.row.differ.Given as goal

abbrev pub invariant-loop-j : goal.invariant-loop-j
invariant-loop-j l = (l.j ≤ row_words) × ((b : ℕ) → b < 64 * l.j → differs l.p l.q l.mask l.a b ≡ false)

-- `justify::found::first_pair` meets its contract: no x so far has a partner.
use Prim.Native.Nat.{ℕ, ◌<◌, ◌≤◌}
use Rattle.std.specs.Prelude.{None}
use Rattle.justify.proofs.found.first_pair.Given as goal

abbrev pub invariant-loop-x : goal.invariant-loop-x
invariant-loop-x g l = (l.x ≤ l.n) × ((x : ℕ) → x < l.x → goal.F-post g l.partner x None)

-- `lined::rising` meets its contract: the actions before a are fit, and their places below `due`.
use Prim.Native.Nat.{ℕ, ◌≤◌}
use mathlib.Core.Path.{◌≡◌}
use mathlib.Core.Bool.{false}
use lib.Dec.{ltb}
use Rattle.model.specs.Search.{any}
use Rattle.lined.specs.Line.{reached, unfit}
use Rattle.lined.proofs.rising.Given as goal

abbrev pub invariant-loop-a : goal.invariant-loop-a
invariant-loop-a l =
    record {
      high : l.due ≤ 65536;
      fit : any l.a (unfit l.x) ≡ false;
      below : (p : ℕ) → reached l.x l.a p ≡ ltb p l.due;
    }

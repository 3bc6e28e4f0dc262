-- `positions::firsts::firsts` meets its contract: the table has the first actions before b.
use Prim.Native.Nat.{◌≤◌}
use Rattle.positions.specs.Firsts.{key_of}
use Rattle.positions.proofs.Tables.{Kept}
use Rattle.positions.proofs.firsts.firsts.Given as goal

abbrev pub invariant-loop-b : goal.invariant-loop-b
invariant-loop-b l = (l.b ≤ l.n) × Kept (key_of l.x l.key) l.first l.b

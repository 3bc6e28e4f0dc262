-- `positions::lists::listed` meets its contract: the list has the positions before b.
use Prim.Native.Nat.{◌≤◌}
use mathlib.Core.Path.{◌≡◌}
use Rattle.positions.specs.Lists.{of_kinds, positions, within}
use Rattle.positions.proofs.lists.listed.Given as goal

abbrev pub invariant-loop-b : goal.invariant-loop-b
invariant-loop-b l = (l.b ≤ within l.x) × (l.list ≡ positions (of_kinds l.x l.set) l.b)

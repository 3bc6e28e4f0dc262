-- `section::first_repeated` meets its contract. The loop's invariant: no identifier before a was already met, and the map shows those before a.
use Prim.Native.Nat.{◌≤◌}
use mathlib.Core.Path.{◌≡◌}
use mathlib.Core.Bool.{false}
use Rattle.model.specs.Search.{any}
use Rattle.model.specs.Layout.{size}
use Rattle.model.specs.Refused.{met}
use Rattle.section.specs.Map.{noting}
use Rattle.section.proofs.first_repeated.Given as goal

abbrev pub invariant-loop-a : goal.invariant-loop-a
invariant-loop-a l = (l.a ≤ size l.x) × (any l.a (met l.x) ≡ false) × (l.map ≡ noting l.x l.a)

-- `ordered::order::first12` meets its contract: the table has the largest places before a, and nothing is broken there.
use Prim.Native.Nat.{◌≤◌}
use mathlib.Core.Path.{◌≡◌}
use mathlib.Core.Bool.{false}
use lib.ListN.{length}
use Rattle.model.specs.Search.{any}
use Rattle.model.specs.Layout.{place}
use Rattle.model.specs.Rules.{broken12}
use Rattle.positions.specs.Firsts.{keys}
use Rattle.ordered.specs.Threads.{Largest, thread_key}
use Rattle.ordered.proofs.order.first12.Given as goal

abbrev pub invariant-loop-a : goal.invariant-loop-a
invariant-loop-a l = (length l.largest ≡ keys) × Largest (thread_key l.x) (place l.x) l.a l.largest × (l.a ≤ l.a-end) × (any l.a (broken12 l.x) ≡ false)

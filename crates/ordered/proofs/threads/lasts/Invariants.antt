-- `ordered::threads::lasts` meets its contract: the table has the last actions before b.
use Prim.Native.Nat.{◌≤◌}
use mathlib.Core.Path.{◌≡◌}
use lib.ListN.{length}
use Rattle.model.specs.Layout.{thread}
use Rattle.positions.specs.Firsts.{keys}
use Rattle.ordered.specs.Threads.{Largest}
use Rattle.ordered.proofs.threads.lasts.Given as goal

abbrev pub invariant-loop-b : goal.invariant-loop-b
invariant-loop-b l = (l.b ≤ l.b-end) × (length l.last ≡ keys) × Largest (thread l.x) (λ b. b) l.b l.last

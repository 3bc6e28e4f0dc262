-- `ordered::monitors::held` meets its contract: `locks` and `unlocks` count those in the list so far.
use mathlib.Core.Path.{◌≡◌}
use mathlib.Core.Bool.{not, ◌&&◌}
use lib.Dec.{eqb}
use lib.ListN.{take}
use Rattle.std.specs.List.{count_by}
use Rattle.model.specs.Layout.{kind}
use Rattle.ordered.specs.Monitors.{counted}
use Rattle.ordered.proofs.monitors.held.Given as goal

abbrev pub invariant-loop-b : goal.invariant-loop-b
invariant-loop-b l = record {
  locked : l.locks ≡ count_by (λ b. eqb (kind l.x b) 5 && counted l.x l.monitor l.place l.by b) (take l.b-index l.list);
  unlocked : l.unlocks ≡ count_by (λ b. not (eqb (kind l.x b) 5) && counted l.x l.monitor l.place l.by b) (take l.b-index l.list);
}

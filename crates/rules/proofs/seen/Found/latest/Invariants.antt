-- `rules::seen::Found::latest` meets its contract: the pass keeps the write of largest place below a's.
use mathlib.Core.Path.{◌≡◌}
use lib.ListN.{take}
use Rattle.rules.proofs.Latest.{passed}
use Rattle.rules.proofs.seen.Found.latest.Given as goal

abbrev pub invariant-loop-b : goal.invariant-loop-b
invariant-loop-b l =
    let s = passed l.self.x.now l.variable l.below (take l.b-index l.writes) in (l.best ≡ s.0) × (l.from ≡ s.1)

-- `rules::races::least_pair` meets its contract: the least pair is in the rest.
use mathlib.Core.Path.{◌≡◌}
use lib.ListN.{length}
use Rattle.std.specs.List.{filter}
use Rattle.model.specs.Layout.{write}
use Rattle.model.specs.WorkArea.{shown}
use Rattle.rules.specs.Searches.{races, least_pair}
use Rattle.rules.proofs.races.least_pair.Given as goal

abbrev pub invariant-loop-a : goal.invariant-loop-a
invariant-loop-a l = let t = races (shown l.part) l.x in (least_pair t l.rest ≡ least_pair t l.plain) × (l.written ≡ filter (write l.x) l.rest)

abbrev pub decreases-loop-a : goal.decreases-loop-a
decreases-loop-a l = length l.rest

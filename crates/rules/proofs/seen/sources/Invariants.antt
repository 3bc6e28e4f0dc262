-- `rules::seen::sources` meets its contract: the entries before a are found.
use Prim.Native.Nat.{ℕ, ◌<◌}
use mathlib.Core.Path.{◌≡◌}
use lib.ListN.{length, get_or}
use Rattle.model.specs.Limits.{max_actions}
use Rattle.model.specs.Search.{position}
use Rattle.rules.specs.Sources.{source}
use Rattle.rules.proofs.seen.sources.Given as goal

abbrev pub invariant-loop-a : goal.invariant-loop-a
invariant-loop-a l = (length l.t ≡ max_actions) × ((b : ℕ) → b < l.a → position (get_or l.t b 0) ≡ source l.x b)

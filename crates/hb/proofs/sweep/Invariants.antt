-- `hb::sweep` meets its contract: the actions from a on are passed.
use mathlib.Core.Path.{◌≡◌}
use Rattle.model.specs.Limits.{max_actions}
use Rattle.rows.specs.Part.{table}
use Rattle.hb.specs.Passing.{leads, passed}
use Rattle.hb.proofs.sweep.Given as goal

abbrev pub invariant-loop-a : goal.invariant-loop-a
invariant-loop-a l = (l.part ≡ table max_actions (leads l.x l.n l.a)) × (l.later ≡ table 256 (passed l.x l.n l.a))

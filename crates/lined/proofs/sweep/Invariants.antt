-- `lined::sweep` meets its contract: the actions from a on are passed.
use mathlib.Core.Path.{◌≡◌}
use Rattle.model.specs.Limits.{max_actions}
use Rattle.model.specs.Layout.{thread}
use Rattle.rows.specs.Part.{table}
use Rattle.lined.specs.Line.{taken_row}
use Rattle.lined.specs.Passing.{noted, passed}
use Rattle.lined.proofs.sweep.Given as goal

abbrev pub invariant-loop-a : goal.invariant-loop-a
invariant-loop-a l =
    record {
      filled : l.part ≡ table max_actions (passed l.x l.a);
      threads : l.later ≡ table 64 (noted l.x (thread l.x) l.a);
      objects : l.through ≡ table 384 (noted l.x (taken_row l.x) l.a);
    }

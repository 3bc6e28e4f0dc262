-- `serial::serial` meets its contract. The loop's invariant: the first k entries are the order's first k positions, the others are as they were, and
-- the code keeps what belongs to these k steps.
use mathlib.Core.Path.{◌≡◌}
use mathlib.Core.List.{◌++◌}
use lib.ListN.{drop}
use Rattle.model.specs.Serial.{serial}
use Rattle.serial.proofs.Cursors.{Kept}
use Rattle.serial.proofs.serial.Given as goal

abbrev pub invariant-loop-entry : goal.invariant-loop-entry
invariant-loop-entry l =
    (l.entry-items ≡ serial l.x l.entry-index ++ drop l.entry-index l.initial.entry-items)
    × Kept l.x l.entry-index l.next l.due

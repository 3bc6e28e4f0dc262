-- `lined::timely` meets its contract: no action before a is late, and the rows that they take are marked.
use mathlib.Core.Path.{◌≡◌}
use mathlib.Core.Bool.{false}
use lib.ListN.{length}
use Rattle.model.specs.Search.{any}
use Rattle.lined.specs.Line.{late}
use Rattle.lined.proofs.Line.{Marks}
use Rattle.lined.proofs.timely.Given as goal

abbrev pub invariant-loop-a : goal.invariant-loop-a
invariant-loop-a l =
    record {
      all : length l.seen ≡ 384;
      so_far : any l.a (late l.x) ≡ false;
      marks : Marks l.x l.a l.seen;
    }

-- `hb::close` meets its contract: before each entry the rounds of the entries before it are made.
use mathlib.Core.Path.{◌≡◌}
use lib.ListN.{take}
use Rattle.hb.specs.Edges.{rounds}
use Rattle.hb.proofs.close.Given as goal

abbrev pub invariant-loop-k : goal.invariant-loop-k
invariant-loop-k l = l.part ≡ rounds l.n (take l.k-index l.fn.takers) l.initial.part

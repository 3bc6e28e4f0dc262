-- `hb::edges_from` meets its contract: before each entry the edges to the entries before it are marked.
use mathlib.Core.Path.{◌≡◌}
use lib.ListN.{take}
use Rattle.hb.specs.Edges.{from}
use Rattle.hb.proofs.edges_from.Given as goal

abbrev pub invariant-loop-b : goal.invariant-loop-b
invariant-loop-b l = l.part ≡ from l.x l.a (take l.b-index l.takers) l.initial.part

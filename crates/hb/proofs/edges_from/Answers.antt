-- `hb::edges_from` meets its contract.
use mathlib.Core.Path.{◌∙◌}
use borrow.Author.Rules.{rules}
use Rattle.hb.proofs.Marks.{from_nothing, from_edge, from_kept}
use Rattle.hb.proofs.edges_from.Goals as goal
use Rattle.hb.proofs.edges_from.Goals.{then-accepts, else-accepts}

pub returns-then-w : goal.returns-then-w
returns-then-w c =
    let s = c.args in
    from_nothing s.x.now s.a c.offered-w.ensures (search rules) s.takers.now s.part.now

pub loop-b-preserved : goal.loop-b-preserved
loop-b-preserved c =
    let s = c.args in
    let l = c.loop-b in
    elim c.if-accepts.branch [
      | then-accepts w ↦ w.part-is ∙ w.set.ensures ∙ from_edge s.x.now s.a s.takers.now s.part.now l.b-index l.invariant c.loop-b-test.true c.offered-w.ensures c.accepts.ensures w.if-accepts.true
      | else-accepts w ↦ w.part-is ∙ from_kept s.x.now s.a s.takers.now s.part.now l.b-index l.invariant c.loop-b-test.true c.offered-w.ensures c.accepts.ensures w.if-accepts.false
    ]

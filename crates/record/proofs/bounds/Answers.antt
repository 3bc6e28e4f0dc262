-- `record::bounds` meets its contract. The loop's invariant: p is the first byte of the next section, and no further on than the longest counts lead.
use Prim.Native.Nat.{◌+◌}
use native.Mathlib.Omega.{arith}
use mathlib.Core.Path.{◌≡◌, sym, ap, ◌∙◌}
use borrow.Author.Rules.{rules}
use Rattle.model.specs.Layout.{past, start}
use Rattle.record.specs.Sections.{bounded}
use Rattle.record.proofs.Parts.{start_more}
use Rattle.record.proofs.bounds.Goals as goal

pub loop-init : goal.loop-init
unfolding start
loop-init c = search rules

pub loop-preserved : goal.loop-preserved
loop-preserved c =
    let r = c.args.r.now in
    let p = c.loop.p in (
      search rules,
      c.past-p.ensures ∙ ap (past r) c.loop.invariant.1 ∙ sym (start_more r c.loop.counter),
      let b = c.type_inv.r in omega (arith, c.past-p.ensures, b p, b (p + 1)),
    )

pub returns : goal.returns
unfolding bounded start
returns c =
    let e : c.loop.counter ≡ c.args.s = omega arith in
    let p : c.loop.p ≡ start c.args.r.now c.args.s = rw e at c.loop.invariant.1 in
    rw (c.min.ensures, c.min-2.ensures, c.past.ensures, p)

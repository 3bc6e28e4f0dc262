-- `justify::found::mask` meets its contract: the mask has the bits before b.
use native.Mathlib.Omega.{arith}
use mathlib.Core.Path.{◌≡◌, refl, sym, ap, ◌∙◌}
use lib.ListN.{length}
use borrow.Author.Rules.{rules}
use Rattle.model.specs.Limits.{row_words}
use Rattle.rows.proofs.Marked.{length_marked}
use Rattle.justify.proofs.Words.{masked_none, masked_skip, masked_more}
use Rattle.justify.proofs.found.mask.Goals as goal
use Rattle.justify.proofs.found.mask.Goals.{then-chosen, else-chosen}

pub loop-b-init : goal.loop-b-init
loop-b-init g c = (search rules, refl, λ q h. masked_none q row_words)

pub slice_bounds-set-end : goal.slice_bounds-set-end
slice_bounds-set-end g c = sym c.loop-b.invariant.1

pub loop-b-preserved : goal.loop-b-preserved
loop-b-preserved g c =
    elim c.if-chosen.branch [
      | then-chosen w ↦ (
        search rules,
        ap length (w.m-is ∙ w.set.ensures) ∙ length_marked _ _ _ _ ∙ c.loop-b.invariant.1,
        λ q h. rw (w.m-is ∙ w.set.ensures) (masked_more q _ _ (c.loop-b.invariant.2 q h) (omega arith) c.loop-b.invariant.1 (sym (h _ _ c.loop-b-test.true c.chosen.ensures) ∙ w.if-chosen.true)),
      )
      | else-chosen w ↦ (
        search rules,
        ap length w.m-is ∙ c.loop-b.invariant.1,
        λ q h. rw w.m-is (masked_skip q _ _ (c.loop-b.invariant.2 q h) (sym (h _ _ c.loop-b-test.true c.chosen.ensures) ∙ w.if-chosen.false)),
      )
    ]

pub returns : goal.returns
returns g c =
    let e : c.loop-b.b ≡ c.args.n = omega arith in rw e at c.loop-b.invariant.2

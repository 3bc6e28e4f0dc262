-- `hb::fill` meets its contract.
use mathlib.Core.Path.{sym, ap, ◌∙◌}
use native.Mathlib.Omega.{arith}
use lib.ListN.{length}
use Rattle.hb.proofs.Filled.{happens_by, receivers, happens_other, happens_many, happens_lined, other_kept}
use Rattle.hb.proofs.fill.Goals as goal

pub returns-then-lined : goal.returns-then-lined
returns-then-lined c =
    happens_lined _ _ c.lined.ensures.value c.lined.ensures.part_after c.if-lined.true

pub returns-then-part-ne-PART_WORDS : goal.returns-then-part-ne-PART_WORDS
returns-then-part-ne-PART_WORDS c =
    let kept = other_kept _ _ c.lined.ensures.value c.lined.ensures.part_after c.if-lined.false in
    kept ∙ sym (happens_other _ _ (λ l. c.if-part-ne-PART_WORDS.true (ap length kept ∙ l)))

pub returns-then-n-gt-MAX_ACTIONS : goal.returns-then-n-gt-MAX_ACTIONS
returns-then-n-gt-MAX_ACTIONS c =
    other_kept _ _ c.lined.ensures.value c.lined.ensures.part_after c.if-lined.false
    ∙ sym (happens_many _ _ (let e = c.size-n.ensures in omega arith))

pub sweep-requires-clause-listed : goal.sweep-requires-clause-listed
sweep-requires-clause-listed c = receivers _ c.size-n.ensures c.if-n-gt-MAX_ACTIONS.false (c.as_slice.ensures ∙ c.listed-takers.ensures)

pub returns : goal.returns
returns c =
    let kept = other_kept _ _ c.lined.ensures.value c.lined.ensures.part_after c.if-lined.false in
    happens_by _ _ (sym (ap length kept) ∙ c.if-part-ne-PART_WORDS.false) c.size-n.ensures c.if-n-gt-MAX_ACTIONS.false (receivers _ c.size-n.ensures c.if-n-gt-MAX_ACTIONS.false (c.as_slice-2.ensures ∙ c.listed-takers.ensures)) c.sweep.ensures c.close.ensures

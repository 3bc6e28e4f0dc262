-- `rules::well_formed` meets its contract.
use mathlib.Core.Path.{refl, sym, ◌∙◌}
use Rattle.model.specs.Rules.{well_formed}
use Rattle.model.proofs.Checks.{handed}
use Rattle.model.proofs.Checked.{on, ended}
use Rattle.positions.proofs.Limited.{over_limit, within_limit}
use Rattle.rules.proofs.well_formed.Goals as goal

pub returns-then-size-gt-MAX_ACTIONS : goal.returns-then-size-gt-MAX_ACTIONS
returns-then-size-gt-MAX_ACTIONS c = over_limit _ _ c.size.ensures c.if-size-gt-MAX_ACTIONS.true

pub returns-in_err-ordered : goal.returns-in_err-ordered
unfolding well_formed
returns-in_err-ordered c =
    let same = within_limit _ _ c.size.ensures c.if-size-gt-MAX_ACTIONS.false refl in
    handed c.from_residual.ensures
    ∙ within_limit _ _ c.size.ensures c.if-size-gt-MAX_ACTIONS.false (ended _ _ (sym c.in_err-ordered.was ∙ c.ordered.ensures ∙ sym same))

pub returns : goal.returns
unfolding well_formed
returns c =
    let same = within_limit _ _ c.size.ensures c.if-size-gt-MAX_ACTIONS.false refl in
    within_limit _ _ c.size.ensures c.if-size-gt-MAX_ACTIONS.false
    (on _ _ (sym c.in_ok-ordered.was ∙ c.ordered.ensures ∙ sym same) (rw (c.new.ensures.bytes, c.new.ensures.words) at c.consistent.ensures))

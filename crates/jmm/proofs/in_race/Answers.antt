-- `jmm::in_race` meets its contract.
use native.Mathlib.Omega.{arith}
use mathlib.Core.Path.{sym, ◌∙◌}
use Rattle.model.specs.Rules.{ordered, racing}
use Rattle.model.specs.Questions.{race, race_refusal, race_of, race_words}
use Rattle.model.proofs.Checks.{handed}
use Rattle.model.proofs.Checked.{passes, on, ended}
use Rattle.jmm.specs.Accepted.{Filled}
use Rattle.jmm.proofs.Accepted.{accepted}
use Rattle.jmm.proofs.Left.{untouched, left_filled}
use Rattle.jmm.proofs.Shown.{filled_parts, asked_at, ordered_at}
use Rattle.jmm.proofs.in_race.Goals as goal
use Rattle.jmm.proofs.in_race.Goals.{After-fill_parts}

filled_then : (c : After-fill_parts) → Filled c.args.«record».now 1 c.fill_parts.new.work
filled_then c =
    filled_parts _ _ 1 (accepted _ _ _ (passes _ (sym c.in_ok-refusal.was ∙ c.refusal.ensures)) 1 (omega arith) (omega arith)) c.fill_parts.ensures

pub returns-in_err-refusal-clause-answer : goal.returns-in_err-refusal-clause-answer
unfolding race race_refusal
returns-in_err-refusal-clause-answer c =
    handed c.from_residual.ensures ∙ ended _ _ (sym c.in_err-refusal.was ∙ c.refusal.ensures)

pub returns-in_err-refusal-clause-words : goal.returns-in_err-refusal-clause-words
unfolding race_words race_refusal
returns-in_err-refusal-clause-words c = untouched _ _ _ _ (sym c.in_err-refusal.was ∙ c.refusal.ensures)

pub fill_parts-requires : goal.fill_parts-requires
fill_parts-requires c = accepted _ _ _ (passes _ (sym c.in_ok-refusal.was ∙ c.refusal.ensures)) 1 (omega arith) (omega arith)

pub returns-in_err-ordered-clause-answer : goal.returns-in_err-ordered-clause-answer
unfolding race race_refusal race_of
returns-in_err-ordered-clause-answer c =
    let f = filled_then (goal.at.returns-in_err-ordered-clause-answer c).After-fill_parts in
    handed c.from_residual-in_err-ordered.ensures ∙ on _ _ (sym c.in_ok-refusal.was ∙ c.refusal.ensures) (ended _ _ (sym c.in_err-ordered.was ∙ ordered_at _ _ _ f (ordered 0) 0 (omega arith) c.section-x.ensures c.ordered.ensures))

pub returns-in_err-ordered-clause-words : goal.returns-in_err-ordered-clause-words
unfolding race_words race_refusal
returns-in_err-ordered-clause-words c = left_filled _ _ _ _ (sym c.in_ok-refusal.was ∙ c.refusal.ensures) c.fill_parts.ensures

pub part-requires : goal.part-requires
part-requires c = (filled_then (goal.at.part-requires c).After-fill_parts).accepted.room

pub returns-clause-answer : goal.returns-clause-answer
unfolding race race_refusal race_of
returns-clause-answer c =
    let f = filled_then (goal.at.returns-clause-answer c).After-fill_parts in
    on _ _ (sym c.in_ok-refusal.was ∙ c.refusal.ensures)
    (on _ _ (sym c.in_ok-ordered.was ∙ ordered_at _ _ _ f (ordered 0) 0 (omega arith) c.section-x.ensures c.ordered.ensures) (asked_at _ _ _ f racing 0 (omega arith) c.section-x.ensures c.part.ensures c.racing.ensures))

pub returns-clause-words : goal.returns-clause-words
unfolding race_words race_refusal
returns-clause-words c = left_filled _ _ _ _ (sym c.in_ok-refusal.was ∙ c.refusal.ensures) c.fill_parts.ensures

-- `jmm::in_order` meets its contract.
use Prim.Native.Nat.{ℕ}
use native.Mathlib.Omega.{arith}
use mathlib.Core.Path.{◌≡◌, sym, ◌∙◌}
use mathlib.Core.List.{List}
use lib.ListN.{length}
use Rattle.std.specs.Prelude.{Ok}
use Rattle.model.specs.Layout.{section}
use Rattle.model.specs.Relations.{hb}
use Rattle.model.specs.Answers.{checked}
use Rattle.model.specs.Rules.{well_formed, racing}
use Rattle.model.specs.WorkArea.{filled}
use Rattle.model.specs.Questions.{order_refusal, order, order_of, order_words}
use Rattle.model.proofs.Checks.{handed}
use Rattle.model.proofs.Checked.{passes, on, ended}
use Rattle.jmm.specs.Accepted.{Filled}
use Rattle.jmm.proofs.Accepted.{accepted, order_passed, list_room}
use Rattle.jmm.proofs.Left.{untouched, left_filled, list_kept, list_serial}
use Rattle.jmm.proofs.Shown.{filled_parts, asked_at}
use Rattle.jmm.proofs.in_order.Goals as goal
use Rattle.jmm.proofs.in_order.Goals.{After-well_formed-2, After-racing}

-- the words, where order does not refuse
filled_then : (r ws : List ℕ) (room : ℕ) {us : List ℕ} → Ok tt ≡ checked (order_refusal r (length ws) room) → us ≡ filled r 1 ws → Filled r 1 us
filled_then r ws room h e = filled_parts r ws 1 (accepted _ _ _ (order_passed _ _ _ (passes _ h)) 1 (omega arith) (omega arith)) e

-- 11 to 18 and 31, as the two steps answer them
ruled : (c : After-well_formed-2) → c.well_formed-2.result ≡ checked (well_formed (hb (section c.args.«record».now 0)) 0 (section c.args.«record».now 0))
ruled c =
    let f = filled_then _ _ _ (sym c.in_ok-order_refusal.was ∙ c.order_refusal.ensures) c.fill_parts.ensures in
    asked_at _ _ _ f (λ g y. well_formed g 0 y) 0 (omega arith) c.section-x.ensures c.part.ensures c.well_formed-2.ensures

raced : (c : After-racing) → c.racing.result ≡ checked (racing (hb (section c.args.«record».now 0)) (section c.args.«record».now 0))
raced c =
    let f = filled_then _ _ _ (sym c.in_ok-order_refusal.was ∙ c.order_refusal.ensures) c.fill_parts.ensures in
    asked_at _ _ _ f racing 0 (omega arith) c.section-x.ensures c.part-2.ensures c.racing.ensures

pub returns-in_err-order_refusal-clause-answer : goal.returns-in_err-order_refusal-clause-answer
unfolding order
returns-in_err-order_refusal-clause-answer c =
    handed c.from_residual.ensures ∙ ended _ _ (sym c.in_err-order_refusal.was ∙ c.order_refusal.ensures)

pub returns-in_err-order_refusal-clause-words : goal.returns-in_err-order_refusal-clause-words
unfolding order_words
returns-in_err-order_refusal-clause-words c = untouched _ _ _ _ (sym c.in_err-order_refusal.was ∙ c.order_refusal.ensures)

pub returns-in_err-order_refusal-clause-positions : goal.returns-in_err-order_refusal-clause-positions
unfolding order
returns-in_err-order_refusal-clause-positions c = list_kept _ _ _ (ended _ _ (sym c.in_err-order_refusal.was ∙ c.order_refusal.ensures))

pub fill_parts-requires : goal.fill_parts-requires
fill_parts-requires c = accepted _ _ _ (order_passed _ _ _ (passes _ (sym c.in_ok-order_refusal.was ∙ c.order_refusal.ensures))) 1 (omega arith) (omega arith)

pub part-requires : goal.part-requires
part-requires c = (filled_then _ _ _ (sym c.in_ok-order_refusal.was ∙ c.order_refusal.ensures) c.fill_parts.ensures).accepted.room

pub returns-in_err-well_formed-clause-answer : goal.returns-in_err-well_formed-clause-answer
unfolding order order_of
returns-in_err-well_formed-clause-answer c =
    handed c.from_residual-in_err-well_formed.ensures ∙ on _ _ (sym c.in_ok-order_refusal.was ∙ c.order_refusal.ensures) (ended _ _ (sym c.in_err-well_formed.was ∙ ruled (goal.at.returns-in_err-well_formed-clause-answer c).After-well_formed-2))

pub returns-in_err-well_formed-clause-words : goal.returns-in_err-well_formed-clause-words
unfolding order_words
returns-in_err-well_formed-clause-words c = left_filled _ _ _ _ (sym c.in_ok-order_refusal.was ∙ c.order_refusal.ensures) c.fill_parts.ensures

pub returns-in_err-well_formed-clause-positions : goal.returns-in_err-well_formed-clause-positions
unfolding order order_of
returns-in_err-well_formed-clause-positions c =
    list_kept _ _ _ (on _ _ (sym c.in_ok-order_refusal.was ∙ c.order_refusal.ensures) (ended _ _ (sym c.in_err-well_formed.was ∙ ruled (goal.at.returns-in_err-well_formed-clause-positions c).After-well_formed-2)))

pub part-requires-2 : goal.part-requires-2
part-requires-2 c = (filled_then _ _ _ (sym c.in_ok-order_refusal.was ∙ c.order_refusal.ensures) c.fill_parts.ensures).accepted.room

pub returns-in_err-racing-clause-answer : goal.returns-in_err-racing-clause-answer
unfolding order order_of
returns-in_err-racing-clause-answer c =
    handed c.from_residual-in_err-racing.ensures ∙ on _ _ (sym c.in_ok-order_refusal.was ∙ c.order_refusal.ensures) (on _ _ (sym c.in_ok-well_formed.was ∙ ruled (goal.at.returns-in_err-racing-clause-answer c).After-well_formed-2) (sym c.in_err-racing.was ∙ raced (goal.at.returns-in_err-racing-clause-answer c).After-racing))

pub returns-in_err-racing-clause-words : goal.returns-in_err-racing-clause-words
unfolding order_words
returns-in_err-racing-clause-words c = left_filled _ _ _ _ (sym c.in_ok-order_refusal.was ∙ c.order_refusal.ensures) c.fill_parts.ensures

pub returns-in_err-racing-clause-positions : goal.returns-in_err-racing-clause-positions
unfolding order order_of
returns-in_err-racing-clause-positions c =
    list_kept _ _ _ (on _ _ (sym c.in_ok-order_refusal.was ∙ c.order_refusal.ensures) (on _ _ (sym c.in_ok-well_formed.was ∙ ruled (goal.at.returns-in_err-racing-clause-positions c).After-well_formed-2) (sym c.in_err-racing.was ∙ raced (goal.at.returns-in_err-racing-clause-positions c).After-racing)))

pub returns-clause-answer : goal.returns-clause-answer
unfolding order order_of
returns-clause-answer c =
    on _ _ (sym c.in_ok-order_refusal.was ∙ c.order_refusal.ensures) (on _ _ (sym c.in_ok-well_formed.was ∙ ruled (goal.at.returns-clause-answer c).After-well_formed-2) (sym c.in_ok-racing.was ∙ raced (goal.at.returns-clause-answer c).After-racing))

pub returns-clause-words : goal.returns-clause-words
unfolding order_words
returns-clause-words c = left_filled _ _ _ _ (sym c.in_ok-order_refusal.was ∙ c.order_refusal.ensures) c.fill_parts.ensures

pub returns-clause-positions : goal.returns-clause-positions
unfolding order order_of
returns-clause-positions c =
    list_serial _ _ _ (on _ _ (sym c.in_ok-order_refusal.was ∙ c.order_refusal.ensures) (on _ _ (sym c.in_ok-well_formed.was ∙ ruled (goal.at.returns-clause-positions c).After-well_formed-2) (sym c.in_ok-racing.was ∙ raced (goal.at.returns-clause-positions c).After-racing))) c.section-x.ensures
    (list_room _ _ _ (passes _ (sym c.in_ok-order_refusal.was ∙ c.order_refusal.ensures))) c.serial.ensures

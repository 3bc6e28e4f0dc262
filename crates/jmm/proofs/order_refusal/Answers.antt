-- `jmm::order_refusal` meets its contract.
use mathlib.Core.Bool.{true, false}
use mathlib.Core.Path.{◌≡◌, refl, sym, ◌∙◌}
use lib.Dec.{ltb}
use borrow.Author.Tests.{lt-ltb, le-ltb}
use Rattle.std.proofs.Common.{rules}
use Rattle.model.specs.Answers.{checked}
use Rattle.model.specs.Layout.{section, size}
use Rattle.model.specs.Questions.{order_refusal, race_refusal}
use Rattle.model.proofs.Checks.{handed}
use Rattle.model.proofs.Checked.{on, ended}
use Rattle.jmm.proofs.order_refusal.Goals as goal

pub returns-in_err-refusal : goal.returns-in_err-refusal
unfolding order_refusal race_refusal
returns-in_err-refusal c =
    handed c.from_residual.ensures ∙ ended _ _ (sym c.in_err-refusal.was ∙ c.refusal.ensures)

pub returns-then-room-size : goal.returns-then-room-size
unfolding order_refusal race_refusal checked
returns-then-room-size c =
    let e : ltb c.args.room (size (section c.args.«record».now 0)) ≡ true = lt-ltb _ _ (search rules) in
    on _ _ (sym c.in_ok-refusal.was ∙ c.refusal.ensures) (rw (e, c.numbered.ensures) refl)

pub returns : goal.returns
unfolding order_refusal race_refusal checked
returns c =
    let e : ltb c.args.room (size (section c.args.«record».now 0)) ≡ false = le-ltb _ _ (search rules) in
    on _ _ (sym c.in_ok-refusal.was ∙ c.refusal.ensures) (rw e refl)

-- `jmm::judged` meets its contract.
use mathlib.Core.Bool.{true, false}
use mathlib.Core.Path.{◌≡◌, refl, sym, ◌∙◌}
use lib.Dec.{eqb}
use borrow.Author.Tests.{eq-eqb, ne_eqb}
use Rattle.model.specs.Answers.{checked}
use Rattle.model.specs.Layout.{K}
use Rattle.model.specs.Questions.{judged}
use Rattle.model.proofs.Checks.{handed}
use Rattle.model.proofs.Checked.{on, ended}
use Rattle.jmm.proofs.judged.Goals as goal

pub returns-in_err-sections : goal.returns-in_err-sections
unfolding judged
returns-in_err-sections c =
    handed c.from_residual.ensures ∙ ended _ _ (sym c.in_err-sections.was ∙ rw c.requires.k_value at c.sections.ensures)

pub returns-in_err-sequence : goal.returns-in_err-sequence
unfolding judged
returns-in_err-sequence c =
    handed c.from_residual-in_err-sequence.ensures ∙ on _ _ (sym c.in_ok-sections.was ∙ rw c.requires.k_value at c.sections.ensures) (ended _ _ (sym c.in_err-sequence.was ∙ rw c.requires.k_value at c.sequence.ensures))

pub returns-then-k-eq0 : goal.returns-then-k-eq0
unfolding judged checked
returns-then-k-eq0 c =
    let t : eqb (K c.args.«record».now) 0 ≡ true = eq-eqb _ _ (sym c.requires.k_value ∙ c.if-k-eq0.true) in
    on _ _ (sym c.in_ok-sections.was ∙ rw c.requires.k_value at c.sections.ensures)
    (on _ _ (sym c.in_ok-sequence.was ∙ rw c.requires.k_value at c.sequence.ensures) (rw (t, c.numbered.ensures) refl))

pub returns : goal.returns
unfolding judged checked
returns c =
    let t : eqb (K c.args.«record».now) 0 ≡ false = ne_eqb _ _ (λ e. c.if-k-eq0.false (c.requires.k_value ∙ e)) in
    on _ _ (sym c.in_ok-sections.was ∙ rw c.requires.k_value at c.sections.ensures)
    (on _ _ (sym c.in_ok-sequence.was ∙ rw c.requires.k_value at c.sequence.ensures) (rw t refl))

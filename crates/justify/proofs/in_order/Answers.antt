-- `justify::in_order` meets its contract: the first rule that is broken.
use mathlib.Core.Path.{sym, ◌∙◌}
use Rattle.model.specs.Justified.{committing}
use Rattle.model.proofs.Checked.{on, ended}
use Rattle.model.proofs.Checks.{handed}
use Rattle.justify.proofs.in_order.Goals as goal

pub returns-in_err-rule21 : goal.returns-in_err-rule21
unfolding committing
returns-in_err-rule21 c =
    rw (← c.args.s.now.first_section, ← c.args.s.now.own_section)
    (handed c.from_residual.ensures ∙ (ended _ _ (sym c.in_err-rule21.was ∙ c.rule21.ensures)))

pub returns-in_err-rule22 : goal.returns-in_err-rule22
unfolding committing
returns-in_err-rule22 c =
    rw (← c.args.s.now.first_section, ← c.args.s.now.own_section)
    (handed c.from_residual-in_err-rule22.ensures ∙ (on _ _ (sym c.in_ok-rule21.was ∙ c.rule21.ensures) (ended _ _ (sym c.in_err-rule22.was ∙ c.rule22.ensures))))

pub returns-in_err-rule23 : goal.returns-in_err-rule23
unfolding committing
returns-in_err-rule23 c =
    rw (← c.args.s.now.first_section, ← c.args.s.now.own_section)
    (handed c.from_residual-in_err-rule23.ensures ∙ (on _ _ (sym c.in_ok-rule21.was ∙ c.rule21.ensures) (on _ _ (sym c.in_ok-rule22.was ∙ c.rule22.ensures) (ended _ _ (sym c.in_err-rule23.was ∙ c.rule23.ensures)))))

pub returns-in_err-rule24 : goal.returns-in_err-rule24
unfolding committing
returns-in_err-rule24 c =
    rw (← c.args.s.now.first_section, ← c.args.s.now.own_section)
    (handed c.from_residual-in_err-rule24.ensures ∙ (on _ _ (sym c.in_ok-rule21.was ∙ c.rule21.ensures) (on _ _ (sym c.in_ok-rule22.was ∙ c.rule22.ensures) (on _ _ (sym c.in_ok-rule23.was ∙ c.rule23.ensures) (ended _ _ (sym c.in_err-rule24.was ∙ c.rule24.ensures))))))

pub returns-in_err-rule25 : goal.returns-in_err-rule25
unfolding committing
returns-in_err-rule25 c =
    rw (← c.args.s.now.first_section, ← c.args.s.now.own_section)
    (handed c.from_residual-in_err-rule25.ensures ∙ (on _ _ (sym c.in_ok-rule21.was ∙ c.rule21.ensures) (on _ _ (sym c.in_ok-rule22.was ∙ c.rule22.ensures) (on _ _ (sym c.in_ok-rule23.was ∙ c.rule23.ensures) (on _ _ (sym c.in_ok-rule24.was ∙ c.rule24.ensures) (ended _ _ (sym c.in_err-rule25.was ∙ c.rule25.ensures)))))))

pub returns-in_err-rule26 : goal.returns-in_err-rule26
unfolding committing
returns-in_err-rule26 c =
    rw (← c.args.s.now.first_section, ← c.args.s.now.own_section)
    (handed c.from_residual-in_err-rule26.ensures ∙ (on _ _ (sym c.in_ok-rule21.was ∙ c.rule21.ensures) (on _ _ (sym c.in_ok-rule22.was ∙ c.rule22.ensures) (on _ _ (sym c.in_ok-rule23.was ∙ c.rule23.ensures) (on _ _ (sym c.in_ok-rule24.was ∙ c.rule24.ensures) (on _ _ (sym c.in_ok-rule25.was ∙ c.rule25.ensures) (ended _ _ (sym c.in_err-rule26.was ∙ c.rule26.ensures))))))))

pub returns-in_err-rule27 : goal.returns-in_err-rule27
unfolding committing
returns-in_err-rule27 c =
    rw (← c.args.s.now.first_section, ← c.args.s.now.own_section)
    (handed c.from_residual-in_err-rule27.ensures ∙ (on _ _ (sym c.in_ok-rule21.was ∙ c.rule21.ensures) (on _ _ (sym c.in_ok-rule22.was ∙ c.rule22.ensures) (on _ _ (sym c.in_ok-rule23.was ∙ c.rule23.ensures) (on _ _ (sym c.in_ok-rule24.was ∙ c.rule24.ensures) (on _ _ (sym c.in_ok-rule25.was ∙ c.rule25.ensures) (on _ _ (sym c.in_ok-rule26.was ∙ c.rule26.ensures) (ended _ _ (sym c.in_err-rule27.was ∙ c.rule27.ensures)))))))))

pub returns-in_err-rule28 : goal.returns-in_err-rule28
unfolding committing
returns-in_err-rule28 c =
    rw (← c.args.s.now.first_section, ← c.args.s.now.own_section)
    (handed c.from_residual-in_err-rule28.ensures ∙ (on _ _ (sym c.in_ok-rule21.was ∙ c.rule21.ensures) (on _ _ (sym c.in_ok-rule22.was ∙ c.rule22.ensures) (on _ _ (sym c.in_ok-rule23.was ∙ c.rule23.ensures) (on _ _ (sym c.in_ok-rule24.was ∙ c.rule24.ensures) (on _ _ (sym c.in_ok-rule25.was ∙ c.rule25.ensures) (on _ _ (sym c.in_ok-rule26.was ∙ c.rule26.ensures) (on _ _ (sym c.in_ok-rule27.was ∙ c.rule27.ensures) (ended _ _ (sym c.in_err-rule28.was ∙ c.rule28.ensures))))))))))

pub returns : goal.returns
unfolding committing
returns c =
    rw (← c.args.s.now.first_section, ← c.args.s.now.own_section)
    (on _ _ (sym c.in_ok-rule21.was ∙ c.rule21.ensures) (on _ _ (sym c.in_ok-rule22.was ∙ c.rule22.ensures) (on _ _ (sym c.in_ok-rule23.was ∙ c.rule23.ensures) (on _ _ (sym c.in_ok-rule24.was ∙ c.rule24.ensures) (on _ _ (sym c.in_ok-rule25.was ∙ c.rule25.ensures) (on _ _ (sym c.in_ok-rule26.was ∙ c.rule26.ensures) (on _ _ (sym c.in_ok-rule27.was ∙ c.rule27.ensures) (on _ _ (sym c.in_ok-rule28.was ∙ c.rule28.ensures) c.rule29.ensures))))))))

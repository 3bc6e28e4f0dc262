-- `rules::seen::Found::consistent` meets its contract.
use native.Mathlib.Omega.{arith}
use mathlib.Core.Path.{sym, ◌∙◌}
use Rattle.model.specs.Rules.{consistent}
use Rattle.model.proofs.Checks.{checked_rule, handed}
use Rattle.model.proofs.Checked.{on, ended}
use Rattle.rules.proofs.seen.Found.consistent.Goals as goal

pub returns-in_err-rule : goal.returns-in_err-rule
unfolding consistent
returns-in_err-rule c =
    handed c.from_residual.ensures
    ∙ ended _ _ (sym c.in_err-rule.was ∙ checked_rule _ _ _ _ (omega arith) c.first15.ensures c.rule.ensures)

pub returns-in_err-rule-2 : goal.returns-in_err-rule-2
unfolding consistent
returns-in_err-rule-2 c =
    handed c.from_residual-in_err-rule-2.ensures
    ∙ on _ _ (sym c.in_ok-rule.was ∙ checked_rule _ _ _ _ (omega arith) c.first15.ensures c.rule.ensures)
    (ended _ _ (sym c.in_err-rule-2.was ∙ checked_rule _ _ _ _ (omega arith) c.first16.ensures c.rule-2.ensures))

pub returns-in_err-rule-3 : goal.returns-in_err-rule-3
unfolding consistent
returns-in_err-rule-3 c =
    handed c.from_residual-in_err-rule-3.ensures
    ∙ on _ _ (sym c.in_ok-rule.was ∙ checked_rule _ _ _ _ (omega arith) c.first15.ensures c.rule.ensures)
    (on _ _ (sym c.in_ok-rule-2.was ∙ checked_rule _ _ _ _ (omega arith) c.first16.ensures c.rule-2.ensures)
    (ended _ _ (sym c.in_err-rule-3.was ∙ checked_rule _ _ _ _ (omega arith) c.first17.ensures c.rule-3.ensures)))

pub returns : goal.returns
unfolding consistent
returns c = on _ _ (sym c.in_ok-rule.was ∙ checked_rule _ _ _ _ (omega arith) c.first15.ensures c.rule.ensures)
    (on _ _ (sym c.in_ok-rule-2.was ∙ checked_rule _ _ _ _ (omega arith) c.first16.ensures c.rule-2.ensures)
    (on _ _ (sym c.in_ok-rule-3.was ∙ checked_rule _ _ _ _ (omega arith) c.first17.ensures c.rule-3.ensures)
    (checked_rule _ _ _ _ (omega arith) c.first18.ensures c.rule-4.ensures)))

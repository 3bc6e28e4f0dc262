-- `jmm::in_verdict` meets its contract.
use Prim.Native.Nat.{◌+◌}
use native.Mathlib.Omega.{arith}
use mathlib.Core.Path.{sym, ◌∙◌}
use Rattle.model.specs.Questions.{verdict, verdict_refusal, verdict_words}
use Rattle.model.proofs.Checks.{handed}
use Rattle.model.proofs.Checked.{passes, on, ended}
use Rattle.jmm.proofs.Accepted.{accepted}
use Rattle.jmm.proofs.Left.{untouched, left_filled}
use Rattle.jmm.proofs.Shown.{filled_parts}
use Rattle.jmm.proofs.in_verdict.Goals as goal

pub returns-in_err-refusal-clause-answer : goal.returns-in_err-refusal-clause-answer
unfolding verdict verdict_refusal
returns-in_err-refusal-clause-answer c =
    handed c.from_residual.ensures ∙ ended _ _ (sym c.in_err-refusal.was ∙ rw c.justifying-k.ensures at c.refusal.ensures)

pub returns-in_err-refusal-clause-words : goal.returns-in_err-refusal-clause-words
unfolding verdict_words verdict_refusal
returns-in_err-refusal-clause-words c = untouched _ _ _ _ (sym c.in_err-refusal.was ∙ rw c.justifying-k.ensures at c.refusal.ensures)

pub overflow_add-k-2 : goal.overflow_add-k-2
overflow_add-k-2 c =
    let a = accepted _ _ _ (passes _ (sym c.in_ok-refusal.was ∙ c.refusal.ensures)) (c.justifying-k.result + 1) (omega (arith, c.justifying-k.ensures)) (omega arith) in
    omega (arith, a.few)

pub fill_parts-requires : goal.fill_parts-requires
fill_parts-requires c = accepted _ _ _ (passes _ (sym c.in_ok-refusal.was ∙ c.refusal.ensures)) (c.justifying-k.result + 1) (omega (arith, c.justifying-k.ensures)) (omega arith)

pub judged-requires-clause-filled : goal.judged-requires-clause-filled
judged-requires-clause-filled c = filled_parts _ _ _ (accepted _ _ _ (passes _ (sym c.in_ok-refusal.was ∙ c.refusal.ensures)) (c.justifying-k.result + 1) (omega (arith, c.justifying-k.ensures)) (omega arith)) c.fill_parts.ensures

pub returns-clause-answer : goal.returns-clause-answer
unfolding verdict verdict_refusal
returns-clause-answer c = on _ _ (sym c.in_ok-refusal.was ∙ rw c.justifying-k.ensures at c.refusal.ensures) c.judged.ensures

pub returns-clause-words : goal.returns-clause-words
unfolding verdict_words verdict_refusal
returns-clause-words c = left_filled _ _ _ _ (sym c.in_ok-refusal.was ∙ rw c.justifying-k.ensures at c.refusal.ensures) (rw c.justifying-k.ensures at c.fill_parts.ensures)

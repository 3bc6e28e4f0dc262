-- Number 5, section by section.
use Prim.Native.Nat.{ℕ, ◌+◌, ◌<◌, ◌≤◌}
use mathlib.Core.Path.{◌≡◌, refl}
use mathlib.Core.List.{List}
use mathlib.Core.Bool.{true, false, or-true}
use lib.Dec.{lit<}
use lib.ListN.{length}
use borrow.Author.Tests.{lt-ltb, le-ltb}
use Rattle.std.specs.Prelude.{Ok, Err}
use Rattle.model.specs.declared.Answer.{Answer}
use Rattle.model.specs.Limits.{max_actions}
use Rattle.model.specs.Search.{none}
use Rattle.model.specs.Answers.{answer, when, up_to, checked}
use Rattle.model.specs.Layout.{two, past, start, K}
use Rattle.model.specs.Refused.{cut_at, rule5}
use Rattle.model.proofs.Checked.{on, ended, passed_more, passed_all, broken_at}
use Rattle.model.proofs.Checks.{checked_err}
use Rattle.record.proofs.Stages.{at_most}

-- a section that is not cut has a count within the limit, and ends within the record
pub uncut : (r : List ℕ) (p : ℕ) → cut_at r p ≡ false → (two r p ≤ max_actions) × (past r p ≤ length r)
unfolding cut_at
uncut r p e =
    (at_most (two r p) max_actions (cut_at r p) (λ t. simp (t, or-true)) e, at_most (past r p) (length r) (cut_at r p) (λ t. simp (t, or-true)) e)

module _ (r : List ℕ) where
  -- number 5 for section s
  abbrev pub cuts : ℕ → Answer
  cuts s = when (cut_at r (start r s)) (answer 5 s none none)

  pub cuts_pass : (s : ℕ) → cut_at r (start r s) ≡ false → (up_to s cuts).n ≡ 0 → (up_to (s + 1) cuts).n ≡ 0
  unfolding checked
  cuts_pass s h e = passed_more cuts s e (rw h refl)

  pub rule5_cut : (s : ℕ) → s < K r + 1 → (up_to s cuts).n ≡ 0 → cut_at r (start r s) ≡ true → {e : Answer} → e ≡ answer 5 s none none → Err e ≡ checked (rule5 r)
  unfolding rule5
  rule5_cut s l h k e = ended _ _ (broken_at cuts (K r + 1) s l h (rw k (checked_err 5 s (lit< tt) refl e)))

  module _ (h : (up_to (K r + 1) cuts).n ≡ 0) where
    pub rule5_left : start r (K r + 1) < length r → {e : Answer} → e ≡ answer 5 (K r) none none → Err e ≡ checked (rule5 r)
    unfolding rule5
    rule5_left l e = on _ _ (passed_all cuts (K r + 1) h) (rw (lt-ltb _ _ l) (checked_err 5 (K r) (lit< tt) refl e))

    pub rule5_pass : length r ≤ start r (K r + 1) → Ok tt ≡ checked (rule5 r)
    unfolding rule5 checked
    rule5_pass l = on _ _ (passed_all cuts (K r + 1) h) (rw (le-ltb _ _ l) refl)

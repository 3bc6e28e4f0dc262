-- The words of a filled part show happens-before, and what the layers below promise of them is what the questions ask.
use Prim.Native.Nat.{ℕ, zero, suc, ◌*◌, ◌<◌}
use native.Mathlib.Omega.{arith}
use mathlib.Core.Path.{◌≡◌, refl, sym, ap₂, ◌∙◌}
use mathlib.Core.List.{List}
use mathlib.Core.Bool.{Bool}
use lib.ListN.{length, take, drop}
use Rattle.model.specs.declared.Answer.{Answer}
use Rattle.model.specs.Limits.{max_actions, part_words}
use Rattle.model.specs.Layout.{section, size}
use Rattle.model.specs.Relations.{hb}
use Rattle.model.specs.WorkArea.{shown, filled}
use Rattle.model.specs.Answers.{checked, up_to, ◌then◌}
use borrow.Author.Tests.{le-leb}
use Rattle.std.specs.Prelude.{Result}
use Rattle.model.specs.Rules.{well_formed}
use Rattle.model.specs.Justified.{committing}
use Rattle.model.proofs.Words.{shown_part}
use Rattle.positions.specs.Limit.{limited}
use Rattle.positions.proofs.Limited.{within_limit}
use Rattle.jmm.specs.Accepted.{Accepted, Filled}
use Rattle.jmm.proofs.Laid.{length_filled, part_filled}

-- what a question leaves in the words
pub filled_parts : (r ws : List ℕ) (n : ℕ) {us : List ℕ} → Accepted r n (length ws) → us ≡ filled r n ws → Filled r n us
filled_parts r ws n a e =
    let room = a.room in
    rw e (record { accepted = rw (length_filled r ws n room) a; parts = λ s l. part_filled r ws n s l room })

module _ (r : List ℕ) (n : ℕ) (ws : List ℕ) (f : Filled r n ws) where
  shown_at : (s : ℕ) → s < n → {p : List ℕ} → p ≡ take part_words (drop (part_words * s) ws) → shown p ≡ hb (section r s)
  shown_at s l e = rw (e, f.parts s l) (shown_part (section r s) (f.accepted.sized s l))

  -- a step G on section s and its part
  pub asked_at : (G : (ℕ → ℕ → Bool) → List ℕ → Answer) (s : ℕ) → s < n → {x p : List ℕ} {q : Result (Unit {0}) Answer} →
      x ≡ section r s → p ≡ take part_words (drop (part_words * s) ws) → q ≡ checked (limited x (G (shown p) x)) → q ≡ checked (G (hb (section r s)) (section r s))
  asked_at G s l e k h =
      h ∙ ap₂ (λ (g : ℕ → ℕ → Bool) (y : List ℕ). checked (limited y (G g y))) (shown_at s l k) e
      ∙ sym (within_limit (section r s) _ refl (f.accepted.sized s l) refl)

  -- 11 to 14, which ask no part
  pub ordered_at : (G : List ℕ → Answer) (s : ℕ) → s < n → {x : List ℕ} {q : Result (Unit {0}) Answer} →
      x ≡ section r s → q ≡ checked (limited x (G x)) → q ≡ checked (G (section r s))
  ordered_at G s l e h = h ∙ rw e (sym (within_limit (section r s) _ refl (f.accepted.sized s l) refl))

-- what is asked of each section by its part, and of each i by parts 0 and i
module _ (r : List ℕ) (n : ℕ) (ws : List ℕ) (f : Filled r n ws) where
  unlimited : (s : ℕ) → s < n → (q : Answer) → limited (section r s) q ≡ q
  unfolding limited
  unlimited s l q = rw (le-leb (size (section r s)) max_actions (f.accepted.sized s l)) refl

  part_shown : (s : ℕ) → s < n → shown (take part_words (drop (part_words * s) ws)) ≡ hb (section r s)
  part_shown s l = shown_at r n ws f s l refl

  pub formed_at : (s : ℕ) → s < n → limited (section r s) (well_formed (shown (take part_words (drop (part_words * s) ws))) s (section r s)) ≡ well_formed (hb (section r s)) s (section r s)
  formed_at s l = rw (part_shown s l) (unlimited s l (well_formed (hb (section r s)) s (section r s)))

  pub justified_at : (i : ℕ) → i < n → limited (section r 0) (limited (section r i) (committing (shown (take part_words (drop (part_words * 0) ws))) (shown (take part_words (drop (part_words * i) ws))) r i)) ≡ committing (hb (section r 0)) (hb (section r i)) r i
  justified_at i l =
      let q = committing (hb (section r 0)) (hb (section r i)) r i in
      rw (part_shown 0 (omega arith), part_shown i l) (unlimited 0 (omega arith) (limited (section r i) q) ∙ unlimited i l q)

-- checks that agree below n
pub up_to_same : (f g : ℕ → Answer) (n : ℕ) → ((a : ℕ) → a < n → f a ≡ g a) → up_to n f ≡ up_to n g
unfolding up_to
up_to_same f g zero h = refl
up_to_same f g (suc n) h = ap₂ ◌then◌ (up_to_same f g n (λ a l. h a (omega arith))) (h n (omega arith))

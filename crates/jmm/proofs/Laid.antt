-- The parts in the words lent.
use Prim.Native.Nat.{ℕ, zero, suc, ◌+◌, ◌*◌, ◌-◌, ◌<◌, ◌≤◌}
use native.Mathlib.Nat.{eq-or-lt_of_le}
use native.Mathlib.Numerals.{add-one}
use native.Mathlib.Omega.{arith}
use mathlib.Core.Path.{◌≡◌, refl, sym, ap, ◌∙◌}
use mathlib.Core.Logic.{⊎_elim}
use mathlib.Core.List.{List, ◌++◌}
use lib.ListN.{length, take, drop, length-append, length-take, length-drop, take-append-drop}
use lib.Seq.{drop-drop, take_at, drop_at, length-take-le, drop-append-le, take-append-le}
use Rattle.model.specs.Limits.{max_actions, part_words}
use Rattle.model.specs.Layout.{section, size}
use Rattle.model.specs.WorkArea.{part, laid, filled}
use Rattle.model.proofs.Words.{length_part}
use Rattle.hb.specs.Edges.{happens}
use Rattle.hb.proofs.Filled.{happens_part}

module _ (ws : List ℕ) (s : ℕ) (p : List ℕ) (l : length p ≡ part_words) (room : part_words * s + part_words ≤ length ws) where
  pub length_laid : length (laid ws s p) ≡ length ws
  unfolding laid
  length_laid = simp (length-append, length-take, length-drop, l) (omega arith)

  -- part s is p, and the parts before it are as they were
  pub laid_same : take part_words (drop (part_words * s) (laid ws s p)) ≡ p
  unfolding laid
  laid_same =
      let t : length (take (part_words * s) ws) ≡ part_words * s = length-take-le (part_words * s) ws (omega arith) in
      rw (drop_at (take (part_words * s) ws) (p ++ drop (part_words * s + part_words) ws) (part_words * s) t)
      (take_at p (drop (part_words * s + part_words) ws) part_words l)

  pub laid_before : (t : ℕ) → t < s → take part_words (drop (part_words * t) (laid ws s p)) ≡ take part_words (drop (part_words * t) ws)
  unfolding laid
  laid_before t h =
      front (p ++ drop (part_words * s + part_words) ws) ∙ sym (front (drop (part_words * s) ws))
      ∙ ap (λ (us : List ℕ). take part_words (drop (part_words * t) us)) (take-append-drop (part_words * s) ws)
    where
      before : List ℕ
      before = take (part_words * s) ws

      -- what stands behind the parts before s does not matter to them
      front : (us : List ℕ) → take part_words (drop (part_words * t) (before ++ us)) ≡ take part_words (drop (part_words * t) before)
      front us =
          let n : length before ≡ part_words * s = length-take-le (part_words * s) ws (omega arith) in
          let m : length (drop (part_words * t) before) ≡ part_words * s - part_words * t = length-drop (part_words * t) before ∙ ap (λ (k : ℕ). k - part_words * t) n in
          rw (drop-append-le (part_words * t) before us (omega arith))
          (take-append-le part_words (drop (part_words * t) before) us (omega arith))

-- a part that was lent to be filled for section s, and came back as ys
module _ (r us ys : List ℕ) (s : ℕ) {x : List ℕ} (e : x ≡ section r s) (small : size (section r s) ≤ max_actions) (room : part_words * s + part_words ≤ length us) where
  abbrev lent : List ℕ
  lent = take (part_words * s + part_words - part_words * s) (drop (part_words * s) us)

  length_lent : length lent ≡ part_words
  length_lent = simp (length-take, length-drop) (omega arith)

  pub laid_back :
      ys ≡ happens x lent →
      take (part_words * s) us ++ (ys ++ drop (part_words * s + part_words - part_words * s) (drop (part_words * s) us)) ≡ laid us s (part (section r s))
  unfolding laid
  laid_back filled =
      let k : part_words * s + part_words - part_words * s ≡ part_words = omega arith in
      let same : ys ≡ part (section r s) = filled ∙ ap (λ (z : List ℕ). happens z lent) e ∙ happens_part (section r s) lent length_lent small in
      rw (same, k, drop-drop)

module _ (r ws : List ℕ) where
  pub filled_none : filled r 0 ws ≡ ws
  unfolding filled
  filled_none = refl

  pub filled_more : (s : ℕ) {us : List ℕ} → us ≡ filled r s ws → laid us s (part (section r s)) ≡ filled r (s + 1) ws
  unfolding filled
  filled_more s e = rw (add-one s, e)

  pub length_filled : (n : ℕ) → part_words * n ≤ length ws → length (filled r n ws) ≡ length ws
  unfolding filled
  length_filled zero h = refl
  length_filled (suc n) h =
      let e = length_filled n (omega arith) in
      length_laid (filled r n ws) n (part (section r n)) (length_part (section r n)) (omega arith) ∙ e

  -- part s holds the words of section s
  pub part_filled : (n s : ℕ) → s < n → part_words * n ≤ length ws → take part_words (drop (part_words * s) (filled r n ws)) ≡ part (section r s)
  unfolding filled
  part_filled zero s l h = absurd (let z : ⊥ = omega arith in z)
  part_filled (suc n) s l h =
      let e = length_filled n (omega arith) in
      let room : part_words * n + part_words ≤ length (filled r n ws) = omega arith in
      ⊎_elim (λ (q : s ≡ n). rw q (laid_same (filled r n ws) n (part (section r n)) (length_part (section r n)) room))
      (λ (q : s < n). laid_before (filled r n ws) n (part (section r n)) (length_part (section r n)) room s q ∙ part_filled n s q (omega arith))
      (eq-or-lt_of_le (let z : s ≤ n = omega arith in z))

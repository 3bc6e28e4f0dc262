-- Rows compared word by word, and masks.
use Prim.Native.Nat.{ℕ, zero, suc, ◌+◌, ◌*◌, ◌/◌, ◌%◌, ◌^◌, ◌<◌, ◌≤◌, min}
use native.Mathlib.Decide.{dec_lt, ℕ_discrete}
use native.Mathlib.Omega.{arith}
use mathlib.Core.Path.{◌≡◌, refl, sym, ◌∙◌}
use mathlib.Core.List.{List, []}
use mathlib.Core.Bool.{Bool, true, false, not, ◌&&◌, beq, and-false, or-false, and_comm, and_assoc}
use mathlib.Mathlib.Data.Bool.Basic.{eq-true_of_not-eq-false}
use lib.ListN.{length, get_or, replicate}
use lib.Dec.{eqb, ltb, lit<}
use lib.Arith.{digits_mod}
use lib.Bits.{bit_and, bit_xor, differ, and_shr, and_step, xor_shr, xor_step}
use borrow.Author.Tests.{lt-ltb, le-ltb, eq-eqb, ne_eqb}
use Rattle.model.specs.Limits.{max_actions, row_words}
use Rattle.model.specs.Search.{any}
use Rattle.model.specs.WorkArea.{shown}
use Rattle.model.proofs.Search.{any_same, any_not, any_clip}
use Rattle.model.proofs.Words.{on, on_zero, same_bits, bit_in, bit_past}
use Rattle.rows.specs.Part.{has, marked}
use Rattle.rows.proofs.Cleared.{bit_cleared}
use Rattle.rows.proofs.Marked.{bits_marked}
use Rattle.rows.proofs.Part.{shown_cell}
use Rattle.justify.specs.Row.{differs, shares, Masked}

-- two bits, by cases
digits : (P : ℕ → ℕ → Type 0) → P 0 0 → P 0 1 → P 1 0 → P 1 1 → (r s : ℕ) → r < 2 → s < 2 → P r s
digits P oo oi io ii zero zero hr hs = oo
digits P oo oi io ii zero (suc zero) hr hs = oi
digits P oo oi io ii (suc zero) zero hr hs = io
digits P oo oi io ii (suc zero) (suc zero) hr hs = ii
digits P oo oi io ii zero (suc (suc s)) hr hs = absurd (let z : ⊥ = omega arith in z)
digits P oo oi io ii (suc zero) (suc (suc s)) hr hs = absurd (let z : ⊥ = omega arith in z)
digits P oo oi io ii (suc (suc r)) s hr hs = absurd (let z : ⊥ = omega arith in z)

module _ (u v j : ℕ) where
  abbrev r : ℕ
  r = u / 2 ^ j

  abbrev s : ℕ
  s = v / 2 ^ j

  on_and : on (bit_and u v) j ≡ on u j && on v j
  on_and =
      let m : min (r % 2) (s % 2) < 2 = omega arith in
      rw (and_shr u v j, and_step r s, digits_mod (bit_and (r / 2) (s / 2)) m)
      (digits (λ (a b : ℕ). eqb (min a b) 1 ≡ eqb a 1 && eqb b 1) refl refl refl refl (r % 2) (s % 2) (omega arith) (omega arith))

  on_xor : on (bit_xor u v) j ≡ not (beq (on u j) (on v j))
  on_xor =
      let m : differ (r % 2) (s % 2) < 2 = digits (λ (a b : ℕ). differ a b < 2) (lit< tt) (lit< tt) (lit< tt) (lit< tt) (r % 2) (s % 2) (omega arith) (omega arith) in
      rw (xor_shr u v j, xor_step r s, digits_mod (bit_xor (r / 2) (s / 2)) m)
      (digits (λ (a b : ℕ). eqb (differ a b) 1 ≡ not (beq (eqb a 1) (eqb b 1))) refl refl refl refl (r % 2) (s % 2) (omega arith) (omega arith))

module _ (p q mask : List ℕ) (a : ℕ) where
  -- the bits of word j in which the rows differ under the mask
  abbrev pub apart : ℕ → ℕ
  apart j = bit_and (bit_xor (get_or p (row_words * a + j) 0) (get_or q (row_words * a + j) 0)) (get_or mask j 0)

  differs_on : (b : ℕ) → b < max_actions → differs p q mask a b ≡ on (apart (b / 64)) (b % 64)
  unfolding differs
  differs_on b h =
      let u = get_or p (row_words * a + b / 64) 0 in
      let v = get_or q (row_words * a + b / 64) 0 in
      let z : row_words * 0 + b / 64 ≡ b / 64 = omega arith in
      rw (on_and (bit_xor u v) (get_or mask (b / 64) 0) (b % 64), on_xor u v (b % 64), shown_cell p a b, shown_cell q a b, bit_in row_words mask 0 b h, bit_in row_words p a b h, bit_in row_words q a b h, z)
      (and_comm (on (get_or mask (b / 64) 0) (b % 64)) (not (beq (on u (b % 64)) (on v (b % 64)))))

  -- the rows agree in the first j words, and in one more
  pub agree_more : (j : ℕ) → j < row_words → apart j ≡ 0 → ((b : ℕ) → b < 64 * j → differs p q mask a b ≡ false) → (b : ℕ) → b < 64 * (j + 1) → differs p q mask a b ≡ false
  agree_more j l e h b m =
      elim (dec_lt b (64 * j)) [
        | yes k ↦ h b k
        | no g ↦ let s : b / 64 ≡ j = omega arith in differs_on b (omega arith) ∙ rw (s, e) (on_zero (b % 64))
      ]

  pub differ_some : (j : ℕ) → j < row_words → apart j < 2 ^ 64 → (apart j ≡ 0 → ⊥) → any max_actions (differs p q mask a) ≡ true
  differ_some j l small some =
      eq-true_of_not-eq-false
      (λ f.
      some
      (same_bits 64 (apart j) 0 small (lit< tt)
      (λ k m.
      let s : (64 * j + k) / 64 ≡ j = omega arith in
      let t : (64 * j + k) % 64 ≡ k = omega arith in
      let i : 64 * j + k < max_actions = omega arith in
      let d : on (apart ((64 * j + k) / 64)) ((64 * j + k) % 64) ≡ false =
      sym (differs_on (64 * j + k) i) ∙ any_not (differs p q mask a) max_actions (64 * j + k) i f in
      (rw (s, t) at d) ∙ sym (on_zero k))))

-- against no row
pub shares_differs : (p mask : List ℕ) (a : ℕ) → any max_actions (differs p [] mask a) ≡ any max_actions (shares p mask a)
unfolding differs shares
shares_differs p mask a =
    any_same (differs p [] mask a) (shares p mask a) max_actions
    (λ b l. rw (shown_cell [] a b, bit_past row_words [] a b (omega arith)) (go (has mask b) (shown p a b)))
  where
    go : (x y : Bool) → x && not (beq y false) ≡ x && y
    go true true = refl
    go true false = refl
    go false y = refl

-- a mask, one action more at a time
module _ (t : ℕ → Bool) where
  pub masked_none : (n : ℕ) → Masked (replicate n 0) 0 t
  masked_none n = record { bits = λ b. bit_cleared row_words n 0 b ∙ rw (le-ltb b 0 (omega arith)) }

  module _ (m : List ℕ) (n : ℕ) (h : Masked m n t) where
    same : (b : ℕ) → (b ≡ n → ⊥) → ltb b n && t b ≡ ltb b (n + 1) && t b
    same b g =
        elim (dec_lt b n) [
          | yes l ↦ rw (lt-ltb b n l, lt-ltb b (n + 1) (omega arith))
          | no l ↦ rw (le-ltb b n (omega arith), le-ltb b (n + 1) (omega arith))
        ]

    pub masked_skip : t n ≡ false → Masked m (n + 1) t
    masked_skip e =
        record {
          bits = λ b.
              h.bits b ∙ elim (ℕ_discrete b n) [
                | yes q ↦ rw (q, e, le-ltb n n (omega arith)) (sym (and-false (ltb n (n + 1))))
                | no g ↦ same b g
              ];
        }

    pub masked_more : n < max_actions → length m ≡ row_words → t n ≡ true → Masked (marked m 0 n) (n + 1) t
    masked_more fits len e =
        record {
          bits = λ b.
              bits_marked row_words m 0 n 0 b (λ _ _. (fits, omega arith)) ∙ rw (h.bits b)
              (elim (ℕ_discrete b n) [
                | yes q ↦ rw (q, e, le-ltb n n (omega arith), lt-ltb n (n + 1) (omega arith), eq-eqb n n refl)
                | no g ↦ rw (ne_eqb b n g) (or-false (ltb b n && t b) ∙ same b g)
              ]);
        }

  -- a row shares an action with a mask where it has one of which the mask's test holds
  pub shares_masked :
      (m : List ℕ) (n : ℕ) → Masked m n t → n ≤ max_actions → (p : List ℕ) (a : ℕ) → any max_actions (shares p m a) ≡ any n (λ b. t b && shown p a b)
  unfolding shares
  shares_masked m n h l p a =
      any_same (shares p m a) (λ b. ltb b n && (t b && shown p a b)) max_actions
      (λ b k. rw (h.bits b) (and_assoc (ltb b n) (t b) (shown p a b)))
      ∙ any_clip (λ b. t b && shown p a b) n max_actions l

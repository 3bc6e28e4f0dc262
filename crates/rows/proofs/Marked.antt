-- A bit set in the words of rows W words wide.
use Prim.Native.Nat.{ℕ, ◌+◌, ◌*◌, ◌/◌, ◌%◌, ◌^◌, ◌<◌, ◌≤◌}
use mathlib.Core.Path.{◌≡◌, refl, sym, ◌∙◌}
use mathlib.Core.List.{List}
use mathlib.Core.Bool.{Bool, true, ◌&&◌, ◌||◌, or-true, or-false, and-false}
use native.Mathlib.Decide.{dec_lt, ℕ_discrete}
use native.Mathlib.Omega.{arith}
use lib.ListN.{length, get_or, set, length-set}
use lib.Seq.{set_out}
use lib.Dec.{eqb}
use lib.Bits.{bit_or, or_lt}
use lib.Pow.{pow-lt}
use borrow.Author.Tests.{lt-ltb, le-ltb, eq-eqb, ne_eqb}
use Rattle.model.specs.WorkArea.{rows, bit}
use Rattle.model.proofs.Words.{Words, bit_in, length_rows, words_rows, bit_rows, is_rows}
use Rattle.rows.specs.Steps.{mark}
use Rattle.rows.proofs.Word.{bit_set_same, bit_set_other, words_set, on_or, on_power}

module _ (W : ℕ) (ws : List ℕ) (a b : ℕ) where
  -- the word that has the bit, and what it becomes
  abbrev at : ℕ
  at = W * a + b / 64

  abbrev more : ℕ
  more = bit_or (get_or ws at 0) (2 ^ (b % 64))

  pub marked_wide : 64 * W ≤ b → mark W ws a b ≡ ws
  unfolding mark
  marked_wide h = rw (le-ltb b (64 * W) h)

  pub marked_in : b < 64 * W → mark W ws a b ≡ set ws at more
  unfolding mark
  marked_in h = rw (lt-ltb b (64 * W) h)

  pub marked_past : b < 64 * W → length ws ≤ at → mark W ws a b ≡ ws
  marked_past h l = rw (marked_in h, set_out)

  pub length_marked : length (mark W ws a b) ≡ length ws
  length_marked =
      elim (dec_lt b (64 * W)) [
        | yes h ↦ rw (marked_in h) (length-set ws at more)
        | no g ↦ rw (marked_wide (omega arith))
      ]

  pub words_marked : Words ws → Words (mark W ws a b)
  words_marked small =
      elim (dec_lt b (64 * W)) [
        | yes h ↦ rw (marked_in h) (words_set ws at more (or_lt 64 _ _ (small at) (pow-lt {i = b % 64} {j = 64} (omega arith))) small)
        | no g ↦ rw (marked_wide (omega arith)) small
      ]

  marked_same : b < 64 * W → at < length ws → bit W (mark W ws a b) a b ≡ true
  marked_same h l =
      rw (marked_in h)
      (bit_set_same W ws a (b / 64) more (omega arith) b refl l ∙ on_or (get_or ws at 0) (2 ^ (b % 64)) (b % 64)
      ∙ rw (on_power (b % 64) (b % 64), eq-eqb (b % 64) (b % 64) refl, or-true))

  -- another bit of the same word
  marked_beside : b < 64 * W → at < length ws → (d : ℕ) → d / 64 ≡ b / 64 → (d ≡ b → ⊥) → bit W (mark W ws a b) a d ≡ bit W ws a d
  marked_beside h l d e other =
      rw (marked_in h)
      (bit_set_same W ws a (b / 64) more (omega arith) d e l ∙ on_or (get_or ws at 0) (2 ^ (b % 64)) (d % 64)
      ∙ rw (on_power (b % 64) (d % 64), ne_eqb (d % 64) (b % 64) (λ q. other (omega arith)), or-false, ← e) (sym (bit_in W ws a d (omega arith))))

  marked_other : (c d : ℕ) → (c ≡ a → d ≡ b → ⊥) → bit W (mark W ws a b) c d ≡ bit W ws c d
  marked_other c d other =
      elim (dec_lt b (64 * W)) [
        | no g ↦ rw (marked_wide (omega arith))
        | yes h ↦
            elim (dec_lt at (length ws)) [
              | no g ↦ rw (marked_past h (omega arith))
              | yes l ↦
                  elim (ℕ_discrete c a) [
                    | no n ↦ rw (marked_in h) (bit_set_other W ws a (b / 64) more (omega arith) c d (λ e q. n e))
                    | yes e ↦
                        elim (ℕ_discrete (d / 64) (b / 64)) [
                          | no n ↦ rw (marked_in h) (bit_set_other W ws a (b / 64) more (omega arith) c d (λ e q. n q))
                          | yes q ↦ rw e (marked_beside h l d q (other e))
                        ]
                  ]
            ]
      ]

  -- the bits after, where (c, d) is another pair or the words have a bit for (a, b)
  pub bits_marked :
      (c d : ℕ) → (c ≡ a → d ≡ b → (b < 64 * W) × (at < length ws)) →
      bit W (mark W ws a b) c d ≡ bit W ws c d || eqb c a && eqb d b
  bits_marked c d inside =
      elim (ℕ_discrete c a) [
        | no n ↦ rw (ne_eqb c a n) (marked_other c d (λ e q. n e) ∙ sym (or-false (bit W ws c d)))
        | yes e ↦
            elim (ℕ_discrete d b) [
              | no n ↦ rw (ne_eqb d b n, and-false, or-false) (marked_other c d (λ e q. n q))
              | yes q ↦ let (h, l) = inside e q in rw (e, q, eq-eqb a a refl, eq-eqb b b refl, or-true) (marked_same h l)
            ]
      ]

-- rows of a relation, with one pair more
pub marked_rows :
    (W n : ℕ) (p : ℕ → ℕ → Bool) (a b : ℕ) → 0 < W → mark W (rows W n p) a b ≡ rows W n (λ c d. p c d || eqb c a && eqb d b)
marked_rows W n p a b pos =
    is_rows W n (λ c d. p c d || eqb c a && eqb d b) pos (mark W (rows W n p) a b)
    (length_marked W (rows W n p) a b ∙ length_rows W n p)
    (words_marked W (rows W n p) a b (words_rows W n p))
    (λ c d h l. bits_marked W (rows W n p) a b c d (λ e q. rw (← e, ← q, length_rows W n p) (h, l)) ∙ rw (bit_rows W n p c d h l))

-- One word of rows W words wide is set: which bits that changes, and the bits of the numbers that are put there.
use Prim.Native.Nat.{ℕ, zero, suc, ◌+◌, ◌*◌, ◌/◌, ◌%◌, ◌^◌, ◌<◌, max}
use mathlib.Core.Path.{◌≡◌, refl, sym, ap, ◌∙◌}
use mathlib.Core.List.{List}
use mathlib.Core.Bool.{true, ◌||◌}
use native.Mathlib.Nat.{mul_comm, zero-add, div-eq_of_lt}
use native.Mathlib.Decide.{dec_lt, ℕ_discrete}
use native.Mathlib.Omega.{arith}
use lib.ListN.{length, set}
use lib.Seq.{get_or-set_same, get_or-set_other, set_out}
use lib.Dec.{eqb}
use lib.Arith.{digits_div, digits_mod}
use lib.Bits.{bit_or, or_shr, or_step}
use lib.Pow.{pow_pos, pow-lt}
use borrow.Author.Tests.{eq-eqb, ne_eqb}
use Rattle.model.specs.WorkArea.{bit}
use Rattle.model.proofs.Words.{on, on_zero, on_top, on_rest, Words, bit_in, bit_wide}

-- a word stands at one place of one row
one_place : (W a i t j : ℕ) → i < W → j < W → W * a + i ≡ W * t + j → (a ≡ t) × (i ≡ j)
one_place W a i t j h g e = (
  sym (rw (mul_comm W a) (digits_div a h)) ∙ ap (λ (n : ℕ). n / W) e ∙ rw (mul_comm W t) (digits_div t g),
  sym (rw (mul_comm W a) (digits_mod a h)) ∙ ap (λ (n : ℕ). n % W) e ∙ rw (mul_comm W t) (digits_mod t g),
)

module _ (W : ℕ) (ws : List ℕ) (t j v : ℕ) (inside : j < W) where
  pub bit_set_same : (b : ℕ) → b / 64 ≡ j → W * t + j < length ws → bit W (set ws (W * t + j) v) t b ≡ on v (b % 64)
  bit_set_same b e l =
      bit_in W (set ws (W * t + j) v) t b (omega arith) ∙ rw (e, get_or-set_same ws (W * t + j) v 0 l)

  pub bit_set_other : (a b : ℕ) → (a ≡ t → b / 64 ≡ j → ⊥) → bit W (set ws (W * t + j) v) a b ≡ bit W ws a b
  bit_set_other a b other =
      elim (dec_lt b (64 * W)) [
        | no g ↦ bit_wide W (set ws (W * t + j) v) a b (omega arith) ∙ sym (bit_wide W ws a b (omega arith))
        | yes h ↦
            let place : W * a + b / 64 ≡ W * t + j → ⊥ =
            λ e. let (p, q) = one_place W a (b / 64) t j (omega arith) inside e in other p q in
            bit_in W (set ws (W * t + j) v) a b h
            ∙ rw (get_or-set_other ws (W * t + j) (W * a + b / 64) v 0 place) (sym (bit_in W ws a b h))
      ]

pub words_set : (ws : List ℕ) (i v : ℕ) → v < 2 ^ 64 → Words ws → Words (set ws i v)
words_set ws i v h small k =
    elim (ℕ_discrete k i) [
      | no n ↦ rw (get_or-set_other ws i k v 0 n) (small k)
      | yes e ↦
          elim (dec_lt i (length ws)) [
            | yes l ↦ rw (e, get_or-set_same ws i v 0 l) h
            | no g ↦ rw (set_out ws i v (omega arith)) (small k)
          ]
    ]

-- the larger of two bits
max_digit : (r s : ℕ) → r < 2 → s < 2 → eqb (max r s) 1 ≡ eqb r 1 || eqb s 1
max_digit zero zero hr hs = refl
max_digit zero (suc zero) hr hs = refl
max_digit (suc zero) zero hr hs = refl
max_digit (suc zero) (suc zero) hr hs = refl
max_digit zero (suc (suc s)) hr hs = absurd (let z : ⊥ = omega arith in z)
max_digit (suc zero) (suc (suc s)) hr hs = absurd (let z : ⊥ = omega arith in z)
max_digit (suc (suc r)) s hr hs = absurd (let z : ⊥ = omega arith in z)

pub on_or : (u v j : ℕ) → on (bit_or u v) j ≡ on u j || on v j
on_or u v j =
    let r = u / 2 ^ j in
    let s = v / 2 ^ j in
    let hr : r % 2 < 2 = omega arith in
    let hs : s % 2 < 2 = omega arith in
    let m : max (r % 2) (s % 2) < 2 = omega arith in
    rw (or_shr u v j, or_step r s, digits_mod (bit_or (r / 2) (s / 2)) m) (max_digit (r % 2) (s % 2) hr hs)

pub on_power : (k j : ℕ) → on (2 ^ k) j ≡ eqb j k
on_power k j =
    elim (ℕ_discrete j k) [
      | yes e ↦ rw (e, eq-eqb k k refl) (rw zero-add at (on_top k 0 true (pow_pos k)))
      | no n ↦
          rw (ne_eqb j k n)
          (elim (dec_lt j k) [
            | yes l ↦ (rw zero-add at (on_rest k 0 j true l)) ∙ on_zero j
            | no g ↦ rw (div-eq_of_lt (pow-lt {i = k} {j = j} (omega arith)))
          ])
    ]

-- The words of rows of bits, over the width W of a row: rows hold the relation that they are made of, and no other words hold it.
use Prim.Native.Nat.{ℕ, zero, suc, ◌+◌, ◌*◌, ◌-◌, ◌/◌, ◌%◌, ◌^◌, ◌<◌, ◌≤◌}
use mathlib.Core.Path.{◌≡◌, refl, sym, ap, ap₂, subst, fun_ext, ◌∙◌}
use mathlib.Core.List.{List, [], ◌∷◌}
use mathlib.Core.Bool.{Bool, true, false, cond, and-false, true≢false, false≢true}
use mathlib.Core.Logic.{⊎_elim}
use mathlib.Mathlib.Data.Bool.Basic.{eq-false_of_not-eq-true}
use native.Mathlib.Nat.{zero-div, add-zero, add-div_right, div-eq_of_lt, div-add-mod, mod-lt, add-mod_right, mul_comm, mul-le-mul_left, two-pow-succ, eq-or-lt_of_le, le_of_suc-le-suc, not-suc-le-zero}
use native.Mathlib.Numerals.{add-one, one-add}
use native.Mathlib.Decide.{dec_lt}
use native.Mathlib.Omega.{arith}
use lib.ListN.{length, get_or, length-append, get_or-append, get_or-eq_default}
use lib.Seq.{get_or_at, ext_get_or}
use lib.Dec.{eqb, lit<}
use lib.Arith.{digits_div, digits_mod, digits_lt}
use lib.Pow.{pow_pos, split, field, mod-mod-pow, shr_lt}
use borrow.Author.Tests.{lt-ltb, le-ltb}
use Rattle.model.specs.Limits.{max_actions, row_words, part_words}
use Rattle.model.specs.Layout.{size}
use Rattle.model.specs.Relations.{hb}
use Rattle.model.specs.WorkArea.{shown, bits, list, rows, bit, part}
use Rattle.model.proofs.Closure.{hb_within}

-- the list of f 0 to f (n - 1)
pub length_list : (n : ℕ) (f : ℕ → ℕ) → length (list n f) ≡ n
unfolding list
length_list zero f = refl
length_list (suc n) f = rw (length-append, length_list n f, add-one)

pub get_or_list : (n : ℕ) (f : ℕ → ℕ) (i : ℕ) → i < n → get_or (list n f) i 0 ≡ f i
unfolding list
get_or_list zero f i h = absurd (not-suc-le-zero h)
get_or_list (suc n) f i h =
    ⊎_elim (λ (q : i ≡ n). rw q (get_or_at (list n f) (f n) [] 0 n (length_list n f)))
    (λ (l : i < n). get_or-append (list n f) (f n ∷ []) 0 i (rw (length_list n f) l) ∙ get_or_list n f i l)
    (eq-or-lt_of_le (le_of_suc-le-suc h))

-- bit j of the number v
abbrev pub on : ℕ → ℕ → Bool
on v j = eqb (v / 2 ^ j % 2) 1

pub on_zero : (j : ℕ) → on 0 j ≡ false
on_zero j = rw zero-div

-- the bits below k are those of the rest by 2 ^ k
on_mod : (v k j : ℕ) → j < k → on (v % 2 ^ k) j ≡ on v j
on_mod v k j h =
    let q : (k - suc j) + 1 + j ≡ k = omega arith in
    subst (λ (z : ℕ). on (v % 2 ^ z) j ≡ on v j) q (rw (field v (k - suc j + 1) j, mod-mod-pow (v / 2 ^ j) (k - suc j) 1))

-- one bit more, at k
pub on_top : (k v : ℕ) (c : Bool) → v < 2 ^ k → on (v + cond c (2 ^ k) 0) k ≡ c
on_top k v true h = rw (add-div_right v (pow_pos k), div-eq_of_lt h)
on_top k v false h = rw (add-zero, div-eq_of_lt h)

pub on_rest : (k v j : ℕ) (c : Bool) → j < k → on (v + cond c (2 ^ k) 0) j ≡ on v j
on_rest k v j true h = sym (on_mod (v + 2 ^ k) k j h) ∙ rw add-mod_right (on_mod v k j h)
on_rest k v j false h = rw add-zero

cond_le : (c : Bool) (v : ℕ) → cond c v 0 ≤ v
cond_le true v = omega arith
cond_le false v = omega arith

pub bits_lt : (k : ℕ) (p : ℕ → Bool) → bits k p < 2 ^ k
unfolding bits
bits_lt zero p = lit< tt
bits_lt (suc k) p = omega (arith, bits_lt k p, cond_le (p k) (2 ^ k), two-pow-succ k)

pub on_bits : (k : ℕ) (p : ℕ → Bool) (j : ℕ) → j < k → on (bits k p) j ≡ p j
unfolding bits
on_bits zero p j h = absurd (not-suc-le-zero h)
on_bits (suc k) p j h =
    ⊎_elim (λ (q : j ≡ k). rw q (on_top k (bits k p) (p k) (bits_lt k p)))
    (λ (l : j < k). on_rest k (bits k p) j (p k) l ∙ on_bits k p j l)
    (eq-or-lt_of_le (le_of_suc-le-suc h))

-- numbers of k bits with the same bits are the same
same_digit : (u v : ℕ) → u < 2 → v < 2 → eqb (u % 2) 1 ≡ eqb (v % 2) 1 → u ≡ v
same_digit zero zero hu hv h = refl
same_digit zero (suc zero) hu hv h = absurd (false≢true h)
same_digit (suc zero) zero hu hv h = absurd (true≢false h)
same_digit (suc zero) (suc zero) hu hv h = refl
same_digit zero (suc (suc v)) hu hv h = omega arith
same_digit (suc zero) (suc (suc v)) hu hv h = omega arith
same_digit (suc (suc u)) v hu hv h = omega arith

pub same_bits : (k u v : ℕ) → u < 2 ^ k → v < 2 ^ k → ((j : ℕ) → j < k → on u j ≡ on v j) → u ≡ v
same_bits zero u v hu hv h = omega arith
same_bits (suc k) u v hu hv h =
    let below : (n : ℕ) → n < 2 ^ suc k → n / 2 ^ k < 2 = λ n l. shr_lt 1 k (rw one-add l) in
    let top : u / 2 ^ k ≡ v / 2 ^ k = same_digit (u / 2 ^ k) (v / 2 ^ k) (below u hu) (below v hv) (h k (omega arith)) in
    let rest : u % 2 ^ k ≡ v % 2 ^ k =
    same_bits k (u % 2 ^ k) (v % 2 ^ k) (mod-lt u (pow_pos k)) (mod-lt v (pow_pos k))
    (λ j l. on_mod u k j l ∙ h j (omega arith) ∙ sym (on_mod v k j l)) in
    sym (split u k) ∙ ap₂ (λ (q r : ℕ). q * 2 ^ k + r) top rest ∙ split v k

-- what a bit of rows is
module _ (W : ℕ) (ws : List ℕ) (a b : ℕ) where
  pub bit_wide : 64 * W ≤ b → bit W ws a b ≡ false
  unfolding bit
  bit_wide h = rw (le-ltb b (64 * W) h)

  pub bit_in : b < 64 * W → bit W ws a b ≡ on (get_or ws (W * a + b / 64) 0) (b % 64)
  unfolding bit
  bit_in h = rw (lt-ltb b (64 * W) h)

  pub bit_past : length ws ≤ W * a + b / 64 → bit W ws a b ≡ false
  unfolding bit
  bit_past h = rw (get_or-eq_default ws 0 h, on_zero (b % 64), and-false)

-- word w is that of row w / W, and of the bits from 64 * (w % W)
bit_word : (W : ℕ) → 0 < W → (ws : List ℕ) (w j : ℕ) → j < 64 → bit W ws (w / W) (64 * (w % W) + j) ≡ on (get_or ws w 0) j
bit_word W pos ws w j h =
    let r : w % W < W = mod-lt w pos in
    let q : (64 * (w % W) + j) / 64 ≡ w % W = omega arith in
    let m : (64 * (w % W) + j) % 64 ≡ j = omega arith in
    bit_in W ws (w / W) (64 * (w % W) + j) (omega arith) ∙ rw (q, m, div-add-mod w W)

-- each word is one of 64 bits
abbrev pub Words : List ℕ → Type 0
Words ws = (i : ℕ) → get_or ws i 0 < 2 ^ 64

module _ (W n : ℕ) (p : ℕ → ℕ → Bool) where
  -- the bits of word w
  abbrev word : ℕ → ℕ → Bool
  word w j = p (w / W) (64 * (w % W) + j)

  pub length_rows : length (rows W n p) ≡ n
  unfolding rows
  length_rows = length_list n _

  get_d_rows : (w : ℕ) → w < n → get_or (rows W n p) w 0 ≡ bits 64 (word w)
  unfolding rows
  get_d_rows = get_or_list n (λ w. bits 64 (word w))

  pub words_rows : Words (rows W n p)
  words_rows w =
      elim (dec_lt w n) [
        | yes l ↦ rw (get_d_rows w l) (bits_lt 64 (word w))
        | no g ↦ rw (get_or-eq_default (rows W n p) 0 {n = w} (rw length_rows (omega arith))) (lit< tt)
      ]

  -- rows hold the relation that they are made of
  pub bit_rows : (a b : ℕ) → b < 64 * W → W * a + b / 64 < n → bit W (rows W n p) a b ≡ p a b
  bit_rows a b h l =
      let w = W * a + b / 64 in
      let r : b / 64 < W = omega arith in
      let q : w / W ≡ a = rw (mul_comm W a) (digits_div a r) in
      let m : w % W ≡ b / 64 = rw (mul_comm W a) (digits_mod a r) in
      bit_in W (rows W n p) a b h ∙ ap (λ (v : ℕ). on v (b % 64)) (get_d_rows w l) ∙ on_bits 64 (word w) (b % 64) (omega arith)
      ∙ rw (q, m, div-add-mod b 64)

  -- and no other words of 64 bits hold it
  pub is_rows :
      0 < W → (ws : List ℕ) → length ws ≡ n → Words ws →
      ((a b : ℕ) → b < 64 * W → W * a + b / 64 < n → bit W ws a b ≡ p a b) → ws ≡ rows W n p
  is_rows pos ws len small h = ext_get_or 0 ws (rows W n p) (len ∙ sym length_rows) same
    where
      same : (w : ℕ) → w < length ws → get_or ws w 0 ≡ get_or (rows W n p) w 0
      same w l =
          let i : w < n = omega arith in
          let r : w % W < W = mod-lt w pos in
          let d : W * (w / W) + w % W ≡ w = div-add-mod w W in
          rw (get_d_rows w i)
          (same_bits 64 (get_or ws w 0) (bits 64 (word w)) (small w) (bits_lt 64 (word w))
          (λ j k. sym (bit_word W pos ws w j k) ∙ h (w / W) (64 * (w % W) + j) (omega arith) (omega arith) ∙ sym (on_bits 64 (word w) j k)))

-- relations that agree where there are bits for them have the same rows
pub rows_same :
    (W n : ℕ) (p q : ℕ → ℕ → Bool) → 0 < W → ((a b : ℕ) → b < 64 * W → W * a + b / 64 < n → p a b ≡ q a b) → rows W n p ≡ rows W n q
rows_same W n p q pos h =
    is_rows W n q pos (rows W n p) (length_rows W n p) (words_rows W n p) (λ a b k l. bit_rows W n p a b k l ∙ h a b k l)

-- no second list of words has the same bits
pub same_words :
    (W : ℕ) → 0 < W → (us vs : List ℕ) → length us ≡ length vs → Words us → Words vs →
    ((a b : ℕ) → bit W us a b ≡ bit W vs a b) → us ≡ vs
same_words W pos us vs len small small' h =
    is_rows W (length vs) (bit W vs) pos us len small (λ a b k l. h a b)
    ∙ sym (is_rows W (length vs) (bit W vs) pos vs refl small' (λ a b k l. refl))

-- N whole rows hold a relation of positions for which they have bits, and nothing more
pub bit_rows_all :
    (W N : ℕ) (p : ℕ → ℕ → Bool) → ((a b : ℕ) → p a b ≡ true → (a < N) × (b < 64 * W)) → bit W (rows W (W * N) p) ≡ p
bit_rows_all W N p within = fun_ext (λ a. fun_ext (λ b. at a b))
  where
    at : (a b : ℕ) → bit W (rows W (W * N) p) a b ≡ p a b
    at a b =
        elim (dec_lt b (64 * W)) [
          | no g ↦ bit_wide W (rows W (W * N) p) a b (omega arith) ∙ sym (eq-false_of_not-eq-true (λ t. g (within a b t).1))
          | yes h ↦
              elim (dec_lt a N) [
                | no g ↦
                    let m : W * N ≤ W * a = mul-le-mul_left W (omega arith) in
                    bit_past W (rows W (W * N) p) a b (rw (length_rows W (W * N) p) (omega arith))
                    ∙ sym (eq-false_of_not-eq-true (λ t. g (within a b t).0))
                | yes l ↦
                    let r : b / 64 < W = omega arith in
                    bit_rows W (W * N) p a b h (rw (mul_comm W a, mul_comm W N) (digits_lt l r))
              ]
        ]

-- the words of a section's part hold its happens-before
module _ (x : List ℕ) where
  pub length_part : length (part x) ≡ part_words
  unfolding part
  length_part = length_rows row_words part_words (hb x)

  pub words_part : Words (part x)
  unfolding part
  words_part = words_rows row_words part_words (hb x)

  pub shown_part : size x ≤ max_actions → shown (part x) ≡ hb x
  unfolding part shown
  shown_part fits =
      bit_rows_all row_words max_actions (hb x)
      (λ a b t. let (s, e) = hb_within x a b t in (omega arith, omega arith))

-- A row or-ed into another, and a round of closing: the words after, as rows.
use Prim.Native.Nat.{ℕ, ◌+◌, ◌*◌, ◌/◌, ◌<◌, ◌≤◌}
use mathlib.Core.Path.{◌≡◌, refl, sym, ◌∙◌}
use mathlib.Core.List.{List}
use mathlib.Core.Bool.{Bool, true, false, cond, ◌&&◌, ◌||◌, and-false}
use mathlib.Mathlib.Data.Bool.Basic.{eq-false_of_not-eq-true}
use native.Mathlib.Nat.{mul-le-mul_left}
use native.Mathlib.Decide.{dec_lt}
use native.Mathlib.Omega.{arith}
use lib.ListN.{length}
use lib.Dec.{eqb, ltb, leb}
use borrow.Author.Tests.{lt-ltb, le-ltb, le-leb, lt-leb}
use Rattle.model.specs.WorkArea.{rows, bit}
use Rattle.model.proofs.Words.{Words, length_rows, bit_rows, bit_rows_all, is_rows, rows_same}
use Rattle.rows.specs.Steps.{join, round}
use Rattle.rows.specs.Rounds.{Joined, Round}
use Rattle.rows.proofs.Rounds.{joined_whole}

-- as many words, changed or not
length_either : (W : ℕ) (ws : List ℕ) (p : ℕ → ℕ → Bool) (t : Bool) → length (cond t (rows W (length ws) p) ws) ≡ length ws
length_either W ws p true = length_rows W (length ws) p
length_either W ws p false = refl

module _ (W : ℕ) (ws : List ℕ) (to : ℕ) (us : List ℕ) (from : ℕ) where
  pub length_joined : length (join W ws to us from) ≡ length ws
  unfolding join
  length_joined = length_either W ws _ (leb (W * to + W) (length ws) && leb (W * from + W) (length us))

  joined_in :
      W * to + W ≤ length ws → W * from + W ≤ length us →
      join W ws to us from ≡ rows W (length ws) (λ a b. bit W ws a b || eqb a to && bit W us from b)
  unfolding join
  joined_in h g = rw (le-leb (W * to + W) (length ws) h, le-leb (W * from + W) (length us) g)

  pub joined_past : length ws < W * to + W → join W ws to us from ≡ ws
  unfolding join
  joined_past h = rw (lt-leb (W * to + W) (length ws) h)

  pub joined_lacks : length us < W * from + W → join W ws to us from ≡ ws
  unfolding join
  joined_lacks h = rw (lt-leb (W * from + W) (length us) h, and-false)

  pub joined_by :
      0 < W → W * to + W ≤ length ws → W * from + W ≤ length us → {ws' : List ℕ} → Words ws' →
      Joined W ws ws' to us from true W → ws' ≡ join W ws to us from
  joined_by pos h g small s =
      is_rows W (length ws) (λ a b. bit W ws a b || eqb a to && bit W us from b) pos _ s.long small (λ a b k l. joined_whole W ws to us from true s a b)
      ∙ sym (joined_in h g)

-- rows of relations
pub joined_rows :
    (W n : ℕ) (p : ℕ → ℕ → Bool) (to m : ℕ) (q : ℕ → ℕ → Bool) (from : ℕ) → 0 < W → W * to + W ≤ n → W * from + W ≤ m →
    join W (rows W n p) to (rows W m q) from ≡ rows W n (λ a b. p a b || eqb a to && q from b)
joined_rows W n p to m q from pos h g =
    joined_in W (rows W n p) to (rows W m q) from (rw (length_rows W n p) h) (rw (length_rows W m q) g)
    ∙ rw (length_rows W n p)
    (rows_same W n _ (λ a b. p a b || eqb a to && q from b) pos
    (λ a b k l.
    let r : b / 64 < W = omega arith in
    rw (bit_rows W n p a b k l, bit_rows W m q from b k (omega arith))))

module _ (W : ℕ) (ws : List ℕ) (n k : ℕ) where
  rounded_in :
      k < n → n ≤ 64 * W → W * n ≤ length ws →
      round W ws n k ≡ rows W (length ws) (λ a b. bit W ws a b || ltb a n && (bit W ws a k && bit W ws k b))
  unfolding round
  rounded_in h g l = rw (lt-ltb k n h, le-leb n (64 * W) g, le-leb (W * n) (length ws) l)

  pub rounded_outside : n ≤ k → round W ws n k ≡ ws
  unfolding round
  rounded_outside h = rw (le-ltb k n h)

  pub rounded_wide : 64 * W < n → round W ws n k ≡ ws
  unfolding round
  rounded_wide h = rw (lt-leb n (64 * W) h, and-false)

  pub rounded_past : length ws < W * n → round W ws n k ≡ ws
  unfolding round
  rounded_past h = rw (lt-leb (W * n) (length ws) h, and-false)

  pub rounded_by :
      0 < W → k < n → n ≤ 64 * W → W * n ≤ length ws → {ws' : List ℕ} → Words ws' → Round W ws ws' k n → ws' ≡ round W ws n k
  rounded_by pos h g l small s =
      is_rows W (length ws) (λ a b. bit W ws a b || ltb a n && (bit W ws a k && bit W ws k b)) pos _ s.long small (λ a b i j. s.bits a b)
      ∙ sym (rounded_in h g l)

  pub length_rounded : length (round W ws n k) ≡ length ws
  unfolding round
  length_rounded = length_either W ws _ (ltb k n && leb n (64 * W) && leb (W * n) (length ws))

-- N rows of a relation of the first n positions
pub rounded_rows :
    (W N : ℕ) (p : ℕ → ℕ → Bool) (n k : ℕ) → 0 < W → n ≤ N → n ≤ 64 * W → ((a b : ℕ) → p a b ≡ true → (a < n) × (b < n)) → k < n →
    round W (rows W (W * N) p) n k ≡ rows W (W * N) (λ a b. p a b || p a k && p k b)
rounded_rows W N p n k pos fits wide within h =
    rounded_in W (rows W (W * N) p) n k h wide (rw (length_rows W (W * N) p) (mul-le-mul_left W fits))
    ∙ rw (length_rows W (W * N) p, bit_rows_all W N p (λ a b t. let (s, e) = within a b t in (omega arith, omega arith)))
    (rows_same W (W * N) _ (λ a b. p a b || p a k && p k b) pos (λ a b i j. at a b))
  where
    at : (a b : ℕ) → p a b || ltb a n && (p a k && p k b) ≡ p a b || p a k && p k b
    at a b =
        elim (dec_lt a n) [
          | yes l ↦ rw (lt-ltb a n l)
          | no g ↦ rw (le-ltb a n (omega arith), eq-false_of_not-eq-true (λ t. g (within a k t).0))
        ]

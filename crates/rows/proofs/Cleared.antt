-- Cleared words, in rows W words wide.
use Prim.Native.Nat.{ℕ, ◌*◌, ◌+◌, ◌/◌, ◌<◌}
use mathlib.Core.Path.{◌≡◌}
use mathlib.Core.Bool.{false, and-false}
use native.Mathlib.Decide.{dec_lt}
use native.Mathlib.Omega.{arith}
use lib.ListN.{get_or, replicate, length-replicate, get_or-replicate, get_or-eq_default}
use lib.Dec.{lit<}
use Rattle.model.specs.WorkArea.{rows, bit}
use Rattle.model.proofs.Words.{Words, on_zero, is_rows}

get_or_cleared : (n i : ℕ) → get_or {A = ℕ} (replicate n 0) i 0 ≡ 0
get_or_cleared n i =
    elim (dec_lt i n) [
      | yes h ↦ get_or-replicate n i 0 0 h
      | no g ↦ get_or-eq_default (replicate n 0) 0 {n = i} (rw (length-replicate {A = ℕ} n 0) (omega arith))
    ]

pub words_cleared : (n : ℕ) → Words (replicate n 0)
words_cleared n i = rw (get_or_cleared n i) (lit< tt)

module _ (W n : ℕ) where
  pub bit_cleared : (a b : ℕ) → bit W (replicate n 0) a b ≡ false
  unfolding bit
  bit_cleared a b = rw (get_or_cleared n (W * a + b / 64), on_zero, and-false)

  -- they are the rows of the relation that holds nowhere
  pub cleared_rows : 0 < W → replicate n 0 ≡ rows W n (λ a b. false)
  cleared_rows pos =
      is_rows W n (λ a b. false) pos (replicate n 0) (length-replicate n 0) (words_cleared n) (λ a b h l. bit_cleared a b)

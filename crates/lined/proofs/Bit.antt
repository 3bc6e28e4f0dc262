-- A row with one bit.
use Prim.Native.Nat.{ℕ, ◌-◌, ◌*◌, ◌/◌, ◌%◌, ◌^◌, ◌<◌, ◌≤◌}
use native.Mathlib.Nat.{one-mul}
use native.Mathlib.Omega.{arith}
use mathlib.Core.Path.{◌≡◌, sym, ◌∙◌}
use mathlib.Core.List.{[], ◌∷◌}
use lib.ListN.{replicate}
use lib.Bits.{or_zero_l}
use lib.Dec.{lit<}
use lib.Pow.{shl_exact}
use Rattle.model.specs.Limits.{max_actions, row_words}
use Rattle.rows.specs.Part.{marked}
use Rattle.rows.proofs.Marked.{marked_in}

module _ (a : ℕ) where
  pub single_low : a < 64 → ((1 * 2 ^ a) % 2 ^ 64 ∷ 0 ∷ []) ≡ marked (replicate row_words 0) 0 a
  single_low h =
      let q : a / 64 ≡ 0 = omega arith in
      let m : a % 64 ≡ a = omega arith in
      sym (marked_in row_words (replicate row_words 0) 0 a (omega arith) ∙ rw (q, m, or_zero_l, shl_exact 1 a 64 (lit< tt) (omega arith), one-mul))

  pub single_high : 64 ≤ a → a < max_actions → (0 ∷ (1 * 2 ^ (a - 64)) % 2 ^ 64 ∷ []) ≡ marked (replicate row_words 0) 0 a
  single_high h l =
      let q : a / 64 ≡ 1 = omega arith in
      let m : a % 64 ≡ a - 64 = omega arith in
      sym (marked_in row_words (replicate row_words 0) 0 a (omega arith) ∙ rw (q, m, or_zero_l, shl_exact 1 (a - 64) 64 (lit< tt) (omega arith), one-mul))

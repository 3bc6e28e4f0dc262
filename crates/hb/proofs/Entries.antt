-- Where a position stands in the list of those at which something holds.
use Prim.Native.Nat.{ℕ, zero, suc, ◌<◌, ◌≤◌}
use native.Mathlib.Nat.{eq-or-lt_of_le}
use native.Mathlib.Omega.{arith}
use mathlib.Core.Path.{◌≡◌, ◌∙◌}
use mathlib.Core.List.{◌∷◌, []}
use mathlib.Core.Logic.{⊎_elim}
use mathlib.Core.Bool.{Bool, true, cond}
use lib.ListN.{length, get_or, length-append}
use lib.Seq.{get_or-append_seam}
use Rattle.std.proofs.lemmas.List.{get_or_append_left}
use Rattle.positions.specs.Lists.{positions}

module _ (q : ℕ → Bool) where
  abbrev Entry : ℕ → ℕ → Type 0
  Entry n c = (i : ℕ) × (i < length (positions q n)) × (get_or (positions q n) i 0 ≡ c)

  pub positions_has : (n c : ℕ) → c < n → q c ≡ true → Entry n c
  unfolding positions
  positions_has zero c h e = absurd (let z : ⊥ = omega arith in z)
  positions_has (suc n) c h e =
      ⊎_elim
      (λ (r : c ≡ n).
      rw (← r, e) (length (positions q c), rw (length-append (positions q c) (c ∷ [])) (omega arith), get_or-append_seam (positions q c) c [] 0))
      (λ (l : c < n).
      let (i, u, s) = positions_has n c l e in
      (i, rw (length-append (positions q n) (cond (q n) (n ∷ []) [])) (omega arith), get_or_append_left (positions q n) (cond (q n) (n ∷ []) []) 0 i u ∙ s))
      (eq-or-lt_of_le (let z : c ≤ n = omega arith in z))

-- The code compares signed values by their bits: these are equal exactly where the values are.
use mathlib.Core.Path.{◌≡◌, refl, sym, ap, ◌∙◌}
use mathlib.Core.Bool.{Bool, true, false}
use lib.Dec.{eqb}
use lib.IntN.{ℤ, pos, negsuc}
use mir.Syntax.{w64}
use mir.Val.{SFits, to_z, of_z}
use mir.Facts.{to_z-of_z}
use borrow.Author.Tests.{eq-eqb, eqb-true}
use Rattle.model.specs.Layout.{same_ℤ}

same_ℤ_refl : (y : ℤ) → same_ℤ y y ≡ true
same_ℤ_refl (pos n) = eq-eqb n n refl
same_ℤ_refl (negsuc n) = eq-eqb n n refl

same_ℤ_true : (y z : ℤ) → same_ℤ y z ≡ true → y ≡ z
same_ℤ_true (pos m) (pos n) e = ap pos (eqb-true m n e)
same_ℤ_true (pos m) (negsuc n) e = cc
same_ℤ_true (negsuc m) (pos n) e = cc
same_ℤ_true (negsuc m) (negsuc n) e = ap negsuc (eqb-true m n e)

pub same_bits : (y z : ℤ) → SFits w64 y → SFits w64 z → eqb (of_z w64 y) (of_z w64 z) ≡ same_ℤ y z
same_bits y z f g = go (eqb (of_z w64 y) (of_z w64 z)) refl (same_ℤ y z) refl
  where
    go : (b : Bool) → eqb (of_z w64 y) (of_z w64 z) ≡ b → (s : Bool) → same_ℤ y z ≡ s → b ≡ s
    go true p true q = refl
    go true p false q =
        let e : y ≡ z = sym (to_z-of_z f) ∙ ap (to_z w64) (eqb-true (of_z w64 y) (of_z w64 z) p) ∙ to_z-of_z g in
        sym (same_ℤ_refl y) ∙ ap (same_ℤ y) e ∙ q
    go false p true q =
        sym p ∙ eq-eqb (of_z w64 y) (of_z w64 z) (ap (of_z w64) (same_ℤ_true y z q))
    go false p false q = refl

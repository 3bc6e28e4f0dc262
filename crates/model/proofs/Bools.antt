-- Tests joined by and, or and not, taken apart and put together.
use mathlib.Core.Path.{◌≡◌, refl, sym}
use mathlib.Core.Logic.{◌⊎◌, inl, inr}
use mathlib.Core.Bool.{Bool, true, false, ◌&&◌, ◌||◌, beq, and-eq-true_iff, true≢false, false≢true}

pub both : (s t : Bool) → s && t ≡ true → (s ≡ true) × (t ≡ true)
both s t = (and-eq-true_iff s t).0

pub either : (s t : Bool) → s || t ≡ true → (s ≡ true) ⊎ (t ≡ true)
either true t h = inl refl
either false t h = inr h

pub neither : (s t : Bool) → s || t ≡ false → (s ≡ false) × (t ≡ false)
neither true t h = absurd (true≢false h)
neither false t h = (refl, h)

-- a test that is asked where s holds
pub asked : (s p q : Bool) → (s ≡ true → p ≡ q) → s && p ≡ s && q
asked true p q f = f refl
asked false p q f = refl

-- two tests of which each holds where the other does
pub same_truth : (s t : Bool) → (s ≡ true → t ≡ true) → (t ≡ true → s ≡ true) → s ≡ t
same_truth true t f g = sym (f refl)
same_truth false true f g = g refl
same_truth false false f g = refl

pub same_bool : (s t : Bool) → beq s t ≡ true → s ≡ t
same_bool true true e = refl
same_bool true false e = absurd (false≢true e)
same_bool false true e = absurd (false≢true e)
same_bool false false e = refl

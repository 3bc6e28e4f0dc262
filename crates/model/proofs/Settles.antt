-- What it is that a promise settles: the reader's test that no second result meets it.
use mathlib.Core.Path.{◌≡◌}

-- Of two runs from the same arguments x that both meet the promise, `of` takes the same from the result and from the parameters at exit
abbrev pub Settles {ℓ₁ ℓ₂ ℓ₃ ℓ₄ ℓ₅ ℓ₆} :
    {K : Type ℓ₁} {A : K → Type ℓ₂} {R : K → Type ℓ₃} {S : K → Type ℓ₄} {X : Type ℓ₆} → ((κs : K) → A κs → R κs → S κs → Type ℓ₅) → ((κs : K) → R κs → S κs → X) → Type (ℓ₁ ⊔ ℓ₂ ⊔ ℓ₃ ⊔ ℓ₄ ⊔ ℓ₅ ⊔ ℓ₆)
Settles {K = K} {A = A} {R = R} {S = S} Post of =
    (κs : K) (x : A κs) (r q : R κs) (s t : S κs) → Post κs x r s → Post κs x q t → of κs r s ≡ of κs q t

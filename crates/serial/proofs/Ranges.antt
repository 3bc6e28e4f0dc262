-- Searches whose answer is an option: what a position below n is, and what `position` over a list comes to.
use Prim.Native.Nat.{ℕ, ◌<◌}
use native.Mathlib.Omega.{arith}
use mathlib.Core.Path.{◌≡◌, refl}
use mathlib.Core.List.{List}
use mathlib.Core.Bool.{Bool, true, false, cond}
use lib.ListN.{length, get_or}
use lib.Dec.{ltb}
use borrow.Author.Tests.{ltb-true}
use Rattle.std.specs.Prelude.{Option, Some, None, position}
use Rattle.std.proofs.lemmas.List.Sums.{position_or_len_is}
use Rattle.model.specs.Search.{first, below}
use Rattle.model.proofs.Search.{first_is}

pub below_is : (n a : ℕ) {b : ℕ} → below n a ≡ Some b → (a < n) × (b ≡ a)
unfolding below
below_is n a {b} = go (ltb a n) refl
  where
    go : (t : Bool) → ltb a n ≡ t → ◌≡◌ {A = Option ℕ} (elim t [ true ↦ Some a | false ↦ None ]) (Some b) → (a < n) × (b ≡ a)
    go true e h = (ltb-true a n e, cc)
    go false e h = absurd (let z : ⊥ = cc in z)

pub place_in : {X : Type 0} (p : X → Bool) (xs : List X) (d : X) (n : ℕ) → length xs ≡ n → position p xs ≡ below n (first n (λ i. p (get_or xs i d)))
unfolding below
place_in p xs d n e =
    let f = first_is (λ i. p (get_or xs i d)) n in
    let a : ℕ = first n (λ i. p (get_or xs i d)) in
    rw (e, position_or_len_is p xs a d (omega (arith, f.within)) f.before (λ h. f.holds (omega arith)))
    (go a (ltb a n))
  where
    go : (a : ℕ) (u : Bool) → ◌≡◌ {A = Option ℕ} (cond u (Some a) None) (elim u [ true ↦ Some a | false ↦ None ])
    go a true = refl
    go a false = refl

-- The searches as options: a position that may be none, one below n, the first position found, and the first pair.
use Prim.Native.Nat.{ℕ, ◌<◌, ◌≤◌}
use native.Mathlib.Nat.{eq-or-lt_of_le}
use native.Mathlib.Omega.{arith}
use mathlib.Core.Path.{◌≡◌, refl, sym}
use mathlib.Core.Logic.{⊎_elim}
use mathlib.Core.Bool.{Bool, true, false}
use lib.Dec.{ltb}
use borrow.Author.Tests.{eq-eqb, ne_eqb, lt-ltb, le-ltb}
use Rattle.std.specs.Prelude.{Option, Some, None, unwrap_or}
use Rattle.model.specs.Search.{any, first, found, none, position, below, found₂}
use Rattle.model.proofs.Search.{any_never, any_first, first_is, first_least, found_none, found_at}

pub no_position : {w : ℕ} → w ≡ none → None ≡ position w
unfolding position
no_position {w} h = rw (eq-eqb w none h, position) refl

pub some_position : {w : ℕ} → (w ≡ none → ⊥) → Some w ≡ position w
unfolding position
some_position {w} h = rw (ne_eqb w none h, position) refl

pub below_some : {n a : ℕ} → a < n → below n a ≡ Some a
unfolding below
below_some {n} {a} l = let e : ltb a n ≡ true = lt-ltb a n l in rw (e, below) refl

pub below_none : {n a : ℕ} → n ≤ a → below n a ≡ None
unfolding below
below_none {n} {a} l = let e : ltb a n ≡ false = le-ltb a n l in rw (e, below) refl

-- the first position as an option, and n where there is none
pub below_or : (n : ℕ) (p : ℕ → Bool) {r : Option ℕ} → r ≡ below n (first n p) → unwrap_or r n ≡ first n p
below_or n p e =
    ⊎_elim (λ (h : first n p ≡ n). rw (e, below_none {n = n} {a = first n p} (omega arith)) (sym h)) (λ (h : first n p < n). rw (e, below_some {n = n} {a = first n p} h) refl)
    (eq-or-lt_of_le (first_is p n).within)

-- the first position found
module _ (p : ℕ → Bool) (n : ℕ) where
  pub position_none : any n p ≡ false → None ≡ position (found n p)
  position_none h = no_position (found_none p n h)

  pub position_at : (a : ℕ) → a < none → a < n → any a p ≡ false → p a ≡ true → Some a ≡ position (found n p)
  position_at a k l h e = rw (found_at p n a l h e) (some_position (λ z. omega arith))

  pub position_never : ((a : ℕ) → a < n → p a ≡ false) → None ≡ position (found n p)
  position_never h = position_none (any_never p n h)

  module _ (fits : n ≤ none) where
    pub position_first : any n p ≡ true → Some (first n p) ≡ position (found n p)
    position_first h =
        let l = any_first p n h in
        position_at (first n p) (omega arith) l (first_least p n) ((first_is p n).holds l)

    -- a search that gives none found nothing
    pub nothing_found : None ≡ position (found n p) → any n p ≡ false
    nothing_found h = go (any n p) refl
      where
        go : (b : Bool) → any n p ≡ b → any n p ≡ false
        go false e = e
        go true e = let z = position_first e in absurd (cc)

-- the first x that has a partner, and its first partner
module _ (n : ℕ) (p : ℕ → ℕ → Bool) where
  pub pair_none : any n (λ x. any n (p x)) ≡ false → None ≡ found₂ n p
  unfolding found₂
  pair_none h = rw (found_none (λ x. any n (p x)) n h, found₂)

  module _ (fits : n ≤ none) (x : ℕ) (l : x < n) (h : any x (λ x. any n (p x)) ≡ false) where
    pub pair_first : any n (p x) ≡ true → Some (x, first n (p x)) ≡ found₂ n p
    unfolding found₂
    pair_first e =
        let found-x = found_at (λ x. any n (p x)) n x l h e in
        let found-y = found_at (p x) n (first n (p x)) (any_first (p x) n e) (first_least (p x) n) ((first_is (p x) n).holds (any_first (p x) n e)) in
        rw (found-x, ne_eqb x none (λ z. omega arith), found₂) (rw (found-x, found-y) refl)

    -- by the searches of one partner
    pub pair_at : {y : ℕ} → Some y ≡ position (found n (p x)) → Some (x, y) ≡ found₂ n p
    pair_at {y} q = go (any n (p x)) refl
      where
        go : (b : Bool) → any n (p x) ≡ b → Some (x, y) ≡ found₂ n p
        go false e = let z = position_none (p x) n e in absurd (cc)
        go true e = let z = position_first (p x) n fits e in let w = pair_first e in cc

-- Searches over positions, by which every rule is stated.
use Rattle.std.specs.Prelude.{ℕ, zero, suc, ◌+◌, Bool, true, false, cond, ◌||◌, eqb, ltb, Option, Some, None}

-- p holds at some position below n
unfoldable pub any : ℕ → (ℕ → Bool) → Bool
any zero p = false
any (suc n) p = any n p || p n

-- the least position below n at which p holds; n where there is none
unfoldable pub first : ℕ → (ℕ → Bool) → ℕ
first zero p = zero
first (suc n) p = let a = first n p in cond (ltb a n) a (cond (p n) n (suc n))

-- the number of positions below n at which p holds
unfoldable pub count : ℕ → (ℕ → Bool) → ℕ
count zero p = zero
count (suc n) p = count n p + cond (p n) 1 0

-- "65535 where there is no position"
abbrev pub none : ℕ
none = 65535

-- the least position below n at which p holds, or none
unfoldable pub found : ℕ → (ℕ → Bool) → ℕ
found n p = let a = first n p in cond (ltb a n) a none

-- The same as options: a position that may be none, the position a where it is below n, and the least x, then the least y below n, between which p holds
unfoldable pub position : ℕ → Option ℕ
position a = elim (eqb a none) [ true ↦ None | false ↦ Some a ]

unfoldable pub below : ℕ → ℕ → Option ℕ
below n a = elim (ltb a n) [ true ↦ Some a | false ↦ None ]

unfoldable pub found₂ : ℕ → (ℕ → ℕ → Bool) → Option (ℕ × ℕ)
found₂ n p =
    let x = found n (λ x. any n (p x)) in
    elim (eqb x none) [ true ↦ None | false ↦ Some (x, found n (p x)) ]

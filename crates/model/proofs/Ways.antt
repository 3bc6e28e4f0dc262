-- What a chain of tests comes to on a way through the code: a flag f or a number m is what a call gave for the test p or the field k, and a branch says how it came out.
use Prim.Native.Nat.{ℕ, ◌<◌, ◌≤◌}
use mathlib.Core.Path.{◌≡◌, refl, sym, ◌∙◌}
use mathlib.Core.Bool.{Bool, true, false, not, ◌&&◌, ◌||◌, or-false}
use lib.Dec.{eqb, ltb, leb}
use borrow.Author.Tests.{eq-eqb, ne_eqb, lt-ltb, le-ltb, leb-true, leb-false, not-true, not-false}

-- a test that held, or failed
pub on : {p : Bool} → p ≡ true → true ≡ p
on h = sym h

module _ {f p : Bool} (e : f ≡ p) where
  pub flag_off : not f ≡ true → false ≡ p
  flag_off h = sym (not-true f h) ∙ e

  pub flag_on : not f ≡ false → p ≡ true
  flag_on h = sym e ∙ not-false f h

  pub was_on : f ≡ true → p ≡ true
  was_on h = sym e ∙ h

  pub was_off : f ≡ false → false ≡ p
  was_off h = sym h ∙ e

  pub same_not : not f ≡ not p
  same_not = rw e

-- a comparison with a number n
pub ne : {m n : ℕ} → (m ≡ n → ⊥) → false ≡ eqb m n
ne {m} {n} h = sym (ne_eqb m n h)

-- each comparison is that the other, turned round, fails
pub not_leb : (n k : ℕ) → ltb n k ≡ not (leb k n)
not_leb n k = go (leb k n) refl
  where
    go : (b : Bool) → leb k n ≡ b → ltb n k ≡ not b
    go true h = le-ltb n k (leb-true k n h)
    go false h = lt-ltb n k (leb-false k n h)

pub leb_not : (k n : ℕ) → leb k n ≡ not (ltb n k)
leb_not k n = go (leb k n) (not_leb n k)
  where
    go : (b : Bool) → ltb n k ≡ not b → b ≡ not (ltb n k)
    go true h = rw h
    go false h = rw h

module _ {m : ℕ} (k : ℕ) (e : m ≡ k) where
  pub unequal : {n : ℕ} → (m ≡ n → ⊥) → false ≡ eqb k n
  unequal {n} h = sym (ne_eqb k n (λ q. h (e ∙ q)))

  pub unequal_to : {n : ℕ} → (n ≡ m → ⊥) → false ≡ eqb n k
  unequal_to {n} h = sym (ne_eqb n k (λ q. h (q ∙ sym e)))

  pub equal : {n : ℕ} → m ≡ n → eqb k n ≡ true
  equal {n} h = eq-eqb k n (sym e ∙ h)

  pub equal_to : {n : ℕ} → n ≡ m → eqb n k ≡ true
  equal_to {n} h = eq-eqb n k (h ∙ e)

  pub another : {n : ℕ} (l : ℕ) → m ≡ n → false ≡ eqb n l → false ≡ eqb k l
  another l h z = rw (← e, h) z

  pub same_eqb : (n : ℕ) → eqb m n ≡ eqb k n
  same_eqb n = rw e

  pub same_below : (n : ℕ) → ltb m n ≡ ltb k n
  same_below n = rw e

  pub same_from : (n : ℕ) → leb n m ≡ leb n k
  same_from n = rw e

-- an order of two fields, or of a field and a number
module _ {m n : ℕ} (k l : ℕ) (e : m ≡ k) (q : n ≡ l) where
  pub lower : m < n → ltb k l ≡ true
  lower h = lt-ltb k l (rw (e, q) at h)

  pub not_lower : n ≤ m → false ≡ ltb k l
  not_lower h = sym (le-ltb k l (rw (e, q) at h))

  pub not_above : leb m n ≡ not (ltb l k)
  not_above = rw (e, q) (leb_not k l)

-- a chain that fails at its first test, that passes, or that comes to its last test
module _ {p : Bool} where
  pub fails : (q : Bool) → false ≡ p → false ≡ p && q
  fails q h = rw (← h)

  pub both : {q : Bool} → p ≡ true → q ≡ true → p && q ≡ true
  both h e = rw (h, e)

  pub last : {f q : Bool} → p ≡ true → f ≡ q → f ≡ p && q
  last h e = rw h e

  pub not_passes : p ≡ true → false ≡ not p
  not_passes h = rw h

  pub not_fails : false ≡ p → not p ≡ true
  not_fails h = rw (← h)

  pub not_last : {f : Bool} (q : Bool) → p ≡ true → f ≡ not q → f ≡ not (p && q)
  not_last q h e = rw h e

  pub either : (q : Bool) → p ≡ true → p || q ≡ true
  either q h = rw h

  pub or_first : {f q : Bool} → f ≡ p → false ≡ q → f ≡ p || q
  or_first e h = rw (← h) (e ∙ sym (or-false p))

  pub or_last : {f q : Bool} → false ≡ p → f ≡ q → f ≡ p || q
  or_last h e = rw (← h) e

pub ruleset ways = (on, flag_off, flag_on, was_on, was_off, same_not, ne, unequal, unequal_to, equal, equal_to, another, same_eqb, same_below, same_from, lower, not_lower, not_above, fails, both, last, not_passes, not_fails, not_last, either, or_first, or_last)

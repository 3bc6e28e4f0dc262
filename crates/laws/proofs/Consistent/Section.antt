-- A section that 6, 7, 11, 12, 14 and 15 let pass and that has no race, and what it says of the write that a read sees.
use Prim.Native.Nat.{ℕ, ◌<◌, ◌≤◌}
use native.Mathlib.Omega.{arith}
use mathlib.Core.Path.{◌≡◌, refl, sym, ◌∙◌}
use mathlib.Core.List.{List}
use mathlib.Core.Bool.{Bool, true, false, cond, ◌&&◌}
use lib.Dec.{eqb, ltb}
use borrow.Author.Tests.{ltb-true, ltb-false, eqb-true, eqb-false, eq-eqb, ne_eqb, lt-ltb, not-false, le-ltb}
use Rattle.model.specs.Search.{any}
use Rattle.model.specs.Layout.{size, ident, seen, row, read}
use Rattle.model.specs.Relations.{race, hb}
use Rattle.model.specs.Refused.{met}
use Rattle.model.specs.Rules.{rival, twin, seen_at, write_ident, broken14, broken15}
use Rattle.model.proofs.Search.{any_not, first_none, any_never, any_some, first_only}
use Rattle.model.proofs.Serial.Places.{Placed}
use Rattle.model.proofs.Bools.{both}

-- Of 6 it says that identifiers are not 0, and that a variable is volatile in its reads and in its writes alike
pub record Passed (x : List ℕ) : Type 0 where
  pub placed : Placed x
  pub rule14 : any (size x) (broken14 x) ≡ false
  pub rule15 : any (size x) (broken15 x) ≡ false
  pub race_free : any (size x) (λ a. any (size x) (λ b. ltb a b && race (hb x) x a b)) ≡ false
  pub rule7 : any (size x) (met x) ≡ false
  pub named : (a : ℕ) → a < size x → ident x a ≡ 0 → ⊥
  pub volatiles : (a b : ℕ) → a < size x → b < size x → read x a ≡ true → rival x a b ≡ true → (row x a).volatile ≡ (row x b).volatile

module _ (x : List ℕ) (passed : Passed x) where
  -- 7: no two actions have one identifier
  ident_later : (a b : ℕ) → b < size x → a < b → ident x a ≡ ident x b → ⊥
  unfolding met
  ident_later a b h l =
      eqb-false (ident x a) (ident x b)
      (any_not (λ c. eqb (ident x c) (ident x b)) b a l (any_not (met x) (size x) b h passed.rule7))

  ident_apart : (a b : ℕ) → a < size x → b < size x → ident x a ≡ ident x b → a ≡ b
  ident_apart a b h k e =
      let before : a < b → ⊥ = λ l. ident_later a b k l e in
      let after : b < a → ⊥ = λ l. ident_later b a h l (sym e) in
      omega arith

  module _ (a : ℕ) where
    -- the seen write by its identifier
    pub seen_of : (b : ℕ) → b < size x → seen x a ≡ ident x b → seen_at x a ≡ b
    unfolding twin
    seen_of b h e =
        first_only (λ c. eqb (ident x c) (seen x a)) (size x) b h (eq-eqb (ident x b) (seen x a) (sym e))
        (λ c k t. ident_apart c b k h (eqb-true (ident x c) (seen x a) t ∙ e))

    pub seen_initial : seen x a ≡ 0 → seen_at x a ≡ size x
    unfolding twin
    seen_initial e =
        first_none (λ c. eqb (ident x c) (seen x a)) (size x)
        (any_never (λ c. eqb (ident x c) (seen x a)) (size x) (λ c k. ne_eqb (ident x c) (seen x a) (λ t. passed.named c k (t ∙ e))))

    -- 15: a write that a sees, other than the initial one, is a write to its variable in the section
    pub seen_rival : a < size x → read x a ≡ true → (seen x a ≡ 0 → ⊥) → (seen_at x a < size x) × (rival x a (seen_at x a) ≡ true) × (seen x a ≡ ident x (seen_at x a))
    unfolding broken15
    seen_rival h r z =
        let some : any (size x) sees ≡ true = not-false (any (size x) sees) (rw (r, ne_eqb (seen x a) 0 z) at (any_not (broken15 x) (size x) a h passed.rule15)) in
        let (b, k, t) = any_some sees (size x) some in
        let u = both (eqb (ident x b) (seen x a)) (rival x a b) t in
        let e : seen x a ≡ ident x b = sym (eqb-true (ident x b) (seen x a) u.0) in
        rw (seen_of b k e) (k, u.1, e)
      where
        sees : ℕ → Bool
        sees b = eqb (ident x b) (seen x a) && rival x a b

    -- what 17 compares
    pub seen_write : (b : ℕ) → b ≤ size x → seen x a ≡ write_ident x b → seen_at x a ≡ b
    unfolding write_ident
    seen_write b m = go (ltb b (size x)) refl
      where
        go : (t : Bool) → ltb b (size x) ≡ t → seen x a ≡ cond t (ident x b) 0 → seen_at x a ≡ b
        go true e q = seen_of b (ltb-true b (size x) e) q
        go false e q = seen_initial q ∙ (let z : size x ≡ b = omega (arith, ltb-false b (size x) e) in z)

    pub write_seen : a < size x → read x a ≡ true → seen x a ≡ write_ident x (seen_at x a)
    unfolding write_ident
    write_seen h r = go (eqb (seen x a) 0) refl
      where
        go : (t : Bool) → eqb (seen x a) 0 ≡ t → seen x a ≡ cond (ltb (seen_at x a) (size x)) (ident x (seen_at x a)) 0
        go true e =
            let q : seen x a ≡ 0 = eqb-true (seen x a) 0 e in
            rw (seen_initial q, le-ltb (size x) (size x) (omega arith)) q
        go false e =
            let s = seen_rival h r (eqb-false (seen x a) 0 e) in rw (lt-ltb (seen_at x a) (size x) s.0) s.2

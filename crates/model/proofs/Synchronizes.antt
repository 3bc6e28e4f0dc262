-- Synchronizes-with is what the table of kinds says of giving and taking, whatever the section's bytes: one test, computed over the kinds and over what
-- is asked of the fields.
use Prim.Native.Nat.{ℕ, zero, suc, ◌<◌, ◌≤◌}
use native.Mathlib.Decide.{dec_lt}
use native.Mathlib.Omega.{arith}
use mathlib.Core.Path.{◌≡◌, refl, sym, ◌∙◌}
use mathlib.Core.List.{List}
use mathlib.Core.Bool.{Bool, true, false, not, cond, ◌&&◌, ◌||◌, beq}
use lib.ListN.{get_or-eq_default}
use lib.Dec.{eqb, ltb}
use borrow.Author.Tests.{ne_eqb, ltb-true, not-false}
use Rattle.model.specs.declared.KindRow.{KindRow}
use Rattle.model.specs.Search.{any}
use Rattle.model.specs.Kinds.{kinds, no_kind_row, kind_row, same_class}
use Rattle.model.specs.Layout.{thread, kind, target, place}
use Rattle.model.specs.Relations.{sw, hands, tabled_sw}
use Rattle.model.proofs.Bools.{both, same_bool}
use Rattle.model.proofs.Search.{any_not}

-- a test of n Bools; that it holds of all of them, as one Bool and as a fact of each
abbrev Test : ℕ → Type 0
Test zero = Bool
Test (suc n) = Bool → Test n

abbrev all : (n : ℕ) → Test n → Bool
all zero t = t
all (suc n) t = all n (t true) && all n (t false)

abbrev Each : (n : ℕ) → Test n → Type 0
Each zero t = t ≡ true
Each (suc n) t = (b : Bool) → Each n (t b)

each : (n : ℕ) (t : Test n) → all n t ≡ true → Each n t
each zero t h = h
each (suc n) t h =
    let (p, q) = both (all n (t true)) (all n (t false)) h in
    λ b. elim b as (λ k. Each n (t k)) [ true ↦ each n (t true) p | false ↦ each n (t false) q ]

-- the two sides by the kinds; the Bools say: target is target, target is thread, thread is target, thread is thread, the place is larger
listed : ℕ → ℕ → Bool → Bool → Bool → Bool → Bool
listed k l s t u p =
    eqb k 6 && eqb l 5 && s && p || eqb k 4 && eqb l 3 && s && p || eqb k 7 && eqb l 8 && t || eqb k 9 && eqb l 10 && u

tabled : KindRow → KindRow → Bool → Bool → Bool → Bool → Bool → Bool
tabled k l s t u v p =
    same_class k.gives.class l.takes.class && cond k.gives.own (cond l.takes.own v u) (cond l.takes.own t s)
    && (not k.gives.placed || p)

same : ℕ → ℕ → Test 5
same k l s t u v p = beq (listed k l s t u p) (tabled (kind_row k) (kind_row l) s t u v p)

computed : any 12 (λ k. any 12 (λ l. not (all 5 (same k l)))) ≡ false
unfolding any kind_row same listed tabled
computed = refl

-- a number past the table has the row of no kind
pub past_table : (k : ℕ) → 12 ≤ k → kind_row k ≡ no_kind_row
unfolding kind_row
past_table k h = get_or-eq_default kinds no_kind_row h

-- every number is as one of the kinds: a number past the table has the row of 0, and is none of the digits
record As (k j : ℕ) : Type 0 where
  inside : j < 12
  row : kind_row k ≡ kind_row j
  digit : (d : ℕ) → ltb d 11 ≡ true → eqb k (suc d) ≡ eqb j (suc d)

as_kind : (k : ℕ) → (j : ℕ) × As k j
unfolding kind_row
as_kind k =
    elim (dec_lt k 12) [
      | yes h ↦ (k, record { inside = h; row = refl; digit = λ d l. refl })
      | no g ↦ (
        0,
        record {
          inside = omega arith;
          row = past_table k (omega arith);
          digit = λ d l. ne_eqb k (suc d) (λ e. omega (arith, ltb-true d 11 l)) ∙ sym (ne_eqb 0 (suc d) (λ e. omega arith));
        },
      )
    ]

agree : (k l : ℕ) (s t u v p : Bool) → listed k l s t u p ≡ tabled (kind_row k) (kind_row l) s t u v p
unfolding same listed
agree k l s t u v p =
    let (i, a) = as_kind k in
    let (j, b) = as_kind l in
    let inner : any 12 (λ l. not (all 5 (same i l))) ≡ false = any_not (λ k. any 12 (λ l. not (all 5 (same k l)))) 12 i a.inside computed in
    rw (a.row, b.row, a.digit 5 refl, a.digit 3 refl, a.digit 6 refl, a.digit 8 refl, b.digit 4 refl, b.digit 2 refl, b.digit 7 refl, b.digit 9 refl)
    (same_bool _ _ (each 5 (same i j) (not-false _ (any_not (λ l. not (all 5 (same i l))) 12 j b.inside inner)) s t u v p))

-- the numbers of two objects, by which each of them is
numbers : (o q : Bool) (u t v w : ℕ) → eqb (cond o u t) (cond q v w) ≡ cond o (cond q (eqb u v) (eqb u w)) (cond q (eqb t v) (eqb t w))
numbers true true u t v w = refl
numbers true false u t v w = refl
numbers false true u t v w = refl
numbers false false u t v w = refl

pub sw_table : (x : List ℕ) (a b : ℕ) → sw x a b ≡ tabled_sw x a b
unfolding sw tabled_sw hands listed tabled
sw_table x a b =
    rw numbers
    (agree (kind x a) (kind x b) (eqb (target x a) (target x b)) (eqb (target x a) (thread x b)) (eqb (thread x a) (target x b))
    (eqb (thread x a) (thread x b)) (ltb (place x a) (place x b)))

-- what holds of each row of the table holds of every kind
pub every_row : (q : KindRow → Bool) → any 12 (λ k. not (q (kind_row k))) ≡ false → (k : ℕ) → q (kind_row k) ≡ true
every_row q table k =
    let (j, a) = as_kind k in
    rw a.row (not-false (q (kind_row j)) (any_not (λ k. not (q (kind_row k))) 12 j a.inside table))

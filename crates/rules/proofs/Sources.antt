-- The write that a read sees, as it is kept, and what 15 and 16 ask of it.
use Prim.Native.Nat.{ℕ, ◌+◌, ◌<◌, ◌≤◌}
use native.Mathlib.Nat.{eq-or-lt_of_le}
use native.Mathlib.Omega.{arith}
use mathlib.Core.Path.{◌≡◌, refl, sym}
use mathlib.Core.Logic.{⊎_elim}
use mathlib.Core.Bool.{Bool, true, false, not, ◌&&◌}
use mathlib.Core.List.{List}
use lib.Dec.{eqb, ltb}
use lib.ListN.{length, set, get_or}
use lib.Seq.{get_or-set_same, get_or-set_other}
use borrow.Author.Tests.{ltb-true}
use Rattle.std.specs.Prelude.{Option, Some, None}
use Rattle.std.specs.Option.{unwrap_or}
use Rattle.model.specs.Limits.{max_actions}
use Rattle.model.specs.Search.{any, none, position}
use Rattle.model.specs.Layout.{size, ident, target, seen, read, write}
use Rattle.model.specs.Rules.{rival, twin, seen_at, seen_value, broken15}
use Rattle.model.proofs.Bools.{both}
use Rattle.model.proofs.Search.{any_at, any_same, first_is}
use Rattle.model.proofs.Options.{no_position, some_position}
use Rattle.rules.specs.Sources.{source, value_at}
use Rattle.rules.specs.Searches.{seen_by}

-- an option as a position
kept : (o : Option ℕ) → ((w : ℕ) → o ≡ Some w → w < none) → position (unwrap_or o none) ≡ o
kept None f = sym (no_position refl)
kept (Some w) f = let l : w < none = f w refl in sym (some_position (λ e. omega arith))

-- three tests in another order
second_first : (p q r : Bool) → p && (q && r) ≡ q && (p && r)
second_first true q r = refl
second_first false true r = refl
second_first false false r = refl

module _ (x : List ℕ) (a : ℕ) where
  -- a is a read that sees an action
  abbrev sees : Bool
  sees = read x a && not (eqb (seen x a) 0)

  none_at : sees ≡ false → source x a ≡ None
  unfolding source
  none_at h = rw (h, source) refl

  some_at : sees ≡ true → source x a ≡ Some (seen_at x a)
  unfolding source
  some_at h = rw (h, source) refl

  -- what the code finds for a
  pub no_read : read x a ≡ false → None ≡ source x a
  no_read h = sym (none_at (rw h))

  module _ (reads : read x a ≡ true) where
    pub sees_initial : eqb (seen x a) 0 ≡ true → source x a ≡ None
    sees_initial h = none_at (rw (reads, h))

    pub sees_action : eqb (seen x a) 0 ≡ false → source x a ≡ Some (seen_at x a)
    sees_action h = some_at (rw (reads, h))

    -- 16
    pub value_seen : value_at x (source x a) ≡ seen_value x a
    unfolding seen_value
    value_seen = go (eqb (seen x a) 0) refl
      where
        go : (t : Bool) → eqb (seen x a) 0 ≡ t → value_at x (source x a) ≡ seen_value x a
        go true e = rw (sees_initial e, e)
        go false e = rw (sees_action e, e)

  -- 15
  pub none_unbroken : source x a ≡ None → false ≡ broken15 x a
  unfolding broken15
  none_unbroken h = go sees refl
    where
      go : (t : Bool) → sees ≡ t → false ≡ broken15 x a
      go true e = let k = some_at e in absurd (let z : ⊥ = cc in z)
      go false e = rw e

  module _ {w : ℕ} (h : source x a ≡ Some w) where
    pub record Seen : Type 0 where
      pub sees_it : sees ≡ true
      pub at : w ≡ seen_at x a

    seen_is : Seen
    seen_is = go sees refl
      where
        go : (t : Bool) → sees ≡ t → Seen
        go true e = let k = some_at e in record { sees_it = e; at = cc }
        go false e = let k = none_at e in absurd (let z : ⊥ = cc in z)

    -- no write to the variable has the identifier, or the first action that has it is one
    pub some_broken : not (any (size x) (seen_by x a)) ≡ broken15 x a
    unfolding broken15 seen_by
    some_broken = rw seen_is.sees_it

    pub some_unbroken : ltb w (size x) && rival x a w ≡ true → false ≡ broken15 x a
    unfolding broken15 seen_by twin
    some_unbroken k =
        let (below, rivals) = both (ltb w (size x)) (rival x a w) k in
        let same : eqb (ident x w) (seen x a) ≡ true =
        rw seen_is.at ((first_is (λ b. eqb (ident x b) (seen x a)) (size x)).holds (ltb-true (seen_at x a) (size x) (rw seen_is.at at below))) in
        rw (seen_is.sees_it, any_at (seen_by x a) (size x) w (ltb-true w (size x) below) (rw (same, rivals)))

  -- what is looked for among the writes
  module _ {d v : ℕ} (e : d ≡ seen x a) (f : v ≡ target x a) where
    pub sought_at : (b : ℕ) → write x b && (eqb (ident x b) d && eqb (target x b) v) ≡ seen_by x a b
    unfolding seen_by rival
    sought_at b = rw (e, f) (second_first (write x b) (eqb (ident x b) (seen x a)) (eqb (target x b) (target x a)))

    pub sought_is : any (size x) (λ b. write x b && (eqb (ident x b) d && eqb (target x b) v)) ≡ any (size x) (seen_by x a)
    sought_is = any_same _ _ (size x) (λ b u. sought_at b)

-- the table, one entry more
pub sources_more :
    (x l : List ℕ) (a : ℕ) {r : ℕ} {o : Option ℕ} → size x ≤ max_actions → a < length l →
    ((b : ℕ) → b < a → position (get_or l b 0) ≡ source x b) → o ≡ source x a → r ≡ unwrap_or o none →
    (b : ℕ) → b < a + 1 → position (get_or (set l a r) b 0) ≡ source x b
unfolding twin
sources_more x l a {r} {o} few len f q e b u =
    ⊎_elim (λ (z : b ≡ a). rw (z, get_or-set_same l a r 0 len, e, q) (kept (source x a) fits))
    (λ (z : b < a). rw (get_or-set_other l a b r 0 (λ y. omega arith)) (f b z))
    (eq-or-lt_of_le (let z : b ≤ a = omega arith in z))
  where
    fits : (w : ℕ) → source x a ≡ Some w → w < none
    fits w h = omega (arith, (seen_is x a h).at, (first_is (λ b. eqb (ident x b) (seen x a)) (size x)).within)

-- Rule 14 turns every synchronizes-with edge to a larger place: of a start by its thread's first action, of a join by the one last action of its target.
use Prim.Native.Nat.{ℕ, ◌<◌}
use native.Mathlib.Omega.{arith}
use mathlib.Core.Path.{◌≡◌, refl, sym, ap, ◌∙◌}
use mathlib.Core.List.{List}
use mathlib.Core.Logic.{⊎_elim}
use mathlib.Core.Bool.{Bool, true, false, not, ◌&&◌, ◌||◌}
use lib.Dec.{eqb, ltb}
use borrow.Author.Tests.{ltb-true, eqb-true, eqb-false, eq-eqb, lt-ltb, not-false}
use Rattle.model.specs.Search.{any}
use Rattle.model.specs.Kinds.{kind_row}
use Rattle.model.specs.Layout.{size, thread, kind, target, place, sync}
use Rattle.model.specs.Relations.{sw}
use Rattle.model.specs.Rules.{first_of, begun, misstarted, ended, misjoined, broken14}
use Rattle.model.proofs.Search.{any_not, first_at, any_some}
use Rattle.model.proofs.Bools.{both, either, neither}

-- two synchronization actions, the second of larger place
pub record Later (x : List ℕ) (a b : ℕ) : Type 0 where
  pub earlier_sync : sync x a ≡ true
  pub later_sync : sync x b ≡ true
  pub larger : place x a < place x b

module _ (x : List ℕ) (rule14 : any (size x) (broken14 x) ≡ false) where
  -- the four parts of 14 at an action
  module _ (a : ℕ) (h : a < size x) where
    record Kept : Type 0 where
      pub first : eqb (kind x a) 8 && any a (λ b. eqb (thread x b) (thread x a)) ≡ false
      pub last : eqb (kind x a) 9 && any (size x) (λ b. ltb a b && eqb (thread x b) (thread x a)) ≡ false
      pub started : eqb (kind x a) 7 && misstarted x a ≡ false
      pub joined : eqb (kind x a) 10 && misjoined x a ≡ false

    kept : Kept
    unfolding broken14
    kept =
        let t = neither (first || last || started) joined (any_not (broken14 x) (size x) a h rule14) in
        let u = neither (first || last) started t.0 in
        let v = neither first last u.0 in
        record { first = v.0; last = v.1; started = u.1; joined = t.1 }
      where
        first : Bool
        first = eqb (kind x a) 8 && any a (λ b. eqb (thread x b) (thread x a))

        last : Bool
        last = eqb (kind x a) 9 && any (size x) (λ b. ltb a b && eqb (thread x b) (thread x a))

        started : Bool
        started = eqb (kind x a) 7 && misstarted x a

        joined : Bool
        joined = eqb (kind x a) 10 && misjoined x a

  -- an action of kind 8 is its thread's first
  first_is : (b : ℕ) → b < size x → kind x b ≡ 8 → first_of x (thread x b) ≡ b
  unfolding first_of
  first_is b h e =
      first_at (λ c. eqb (thread x c) (thread x b)) (size x) b h (rw (eq-eqb (kind x b) 8 e) at (kept b h).first)
      (eq-eqb (thread x b) (thread x b) refl)

  -- a thread has one action of kind 9
  last_only : (a b : ℕ) → a < size x → b < size x → kind x a ≡ 9 → thread x a ≡ thread x b → a < b → ⊥
  last_only a b h k e t l =
      let later : ℕ → Bool = λ c. ltb a c && eqb (thread x c) (thread x a) in
      let none : any (size x) later ≡ false = rw (eq-eqb (kind x a) 9 e) at (kept a h).last in
      eqb-false (thread x b) (thread x a) (rw (lt-ltb a b l) at (any_not later (size x) b k none)) (sym t)

  start_later : (a b : ℕ) → a < size x → b < size x → kind x a ≡ 7 → kind x b ≡ 8 → target x a ≡ thread x b → place x a < place x b
  unfolding begun misstarted
  start_later a b h k p q t =
      let e : f ≡ b = ap (first_of x) t ∙ first_is b k q in
      ltb-true (place x a) (place x b)
      (not-false (ltb (place x a) (place x b)) (rw (e, lt-ltb b (size x) k, eq-eqb (kind x b) 8 q) at first_larger))
    where
      f : ℕ
      f = first_of x (target x a)

      first_larger : ltb f (size x) && not (eqb (kind x f) 8 && ltb (place x a) (place x f)) ≡ false
      first_larger =
          (neither (eqb (target x a) (thread x a) || any a (λ c. eqb (kind x c) 7 && eqb (target x c) (target x a))) (begun x a)
          (rw (eq-eqb (kind x a) 7 p) at (kept a h).started)).1

  join_later : (a b : ℕ) → a < size x → b < size x → kind x a ≡ 9 → kind x b ≡ 10 → thread x a ≡ target x b → place x a < place x b
  unfolding ended misjoined
  join_later a b h k p q t =
      let some : any (size x) lasts ≡ true = not-false (any (size x) lasts) (rw (eq-eqb (kind x b) 10 q) at (kept b k).joined) in
      let c = any_some lasts (size x) some in
      let u = both (eqb (kind x c.0) 9) (ended x b c.0) c.2 in
      let v = both (eqb (thread x c.0) (target x b)) (ltb (place x c.0) (place x b)) u.1 in
      let w : thread x c.0 ≡ thread x a = eqb-true (thread x c.0) (target x b) v.0 ∙ sym t in
      let before : c.0 < a → ⊥ = last_only c.0 a c.1 h (eqb-true (kind x c.0) 9 u.0) w in
      let after : a < c.0 → ⊥ = last_only a c.0 h c.1 p (sym w) in
      let e : c.0 ≡ a = omega arith in
      rw e at (ltb-true (place x c.0) (place x b) v.1)
    where
      lasts : ℕ → Bool
      lasts c = eqb (kind x c) 9 && ended x b c

  module _ (a b : ℕ) (h : a < size x) (k : b < size x) where
    -- an edge between actions of kinds i and j
    module _ (i j : ℕ) (s : (kind_row i).sync ≡ true) (t : (kind_row j).sync ≡ true) where
      abbrev at_kinds : Bool
      at_kinds = eqb (kind x a) i && eqb (kind x b) j

      later_at : (kind x a ≡ i → kind x b ≡ j → place x a < place x b) → at_kinds ≡ true → Later x a b
      later_at f e =
          let u = both (eqb (kind x a) i) (eqb (kind x b) j) e in
          let p : kind x a ≡ i = eqb-true (kind x a) i u.0 in
          let q : kind x b ≡ j = eqb-true (kind x b) j u.1 in
          record {
            earlier_sync = ap (λ (k : ℕ). (kind_row k).sync) p ∙ s;
            later_sync = ap (λ (k : ℕ). (kind_row k).sync) q ∙ t;
            larger = f p q;
          }

      -- of one target, to a larger place
      by_target : at_kinds && eqb (target x a) (target x b) && ltb (place x a) (place x b) ≡ true → Later x a b
      by_target e =
          let u = both (at_kinds && eqb (target x a) (target x b)) (ltb (place x a) (place x b)) e in
          later_at (λ p q. ltb-true (place x a) (place x b) u.1) (both at_kinds (eqb (target x a) (target x b)) u.0).0

      -- of one thread, m for a and m' for b
      by_thread : (m m' : ℕ) → (kind x a ≡ i → kind x b ≡ j → m ≡ m' → place x a < place x b) → at_kinds && eqb m m' ≡ true → Later x a b
      by_thread m m' f e =
          let u = both at_kinds (eqb m m') e in
          later_at (λ p q. f p q (eqb-true m m' u.1)) u.0

    pub sw_later : sw x a b ≡ true → Later x a b
    unfolding sw kind_row
    sw_later e =
        ⊎_elim
        (λ t. ⊎_elim (λ t. ⊎_elim (λ t. by_target 6 5 refl refl t) (λ t. by_target 4 3 refl refl t) (either unlock volatile t))
        (λ t. by_thread 7 8 refl refl (target x a) (thread x b) (start_later a b h k) t) (either (unlock || volatile) start t))
        (λ t. by_thread 9 10 refl refl (thread x a) (target x b) (join_later a b h k) t)
        (either (unlock || volatile || start) join e)
      where
        unlock : Bool
        unlock = eqb (kind x a) 6 && eqb (kind x b) 5 && eqb (target x a) (target x b) && ltb (place x a) (place x b)

        volatile : Bool
        volatile = eqb (kind x a) 4 && eqb (kind x b) 3 && eqb (target x a) (target x b) && ltb (place x a) (place x b)

        start : Bool
        start = eqb (kind x a) 7 && eqb (kind x b) 8 && eqb (target x a) (thread x b)

        join : Bool
        join = eqb (kind x a) 9 && eqb (kind x b) 10 && eqb (thread x a) (target x b)

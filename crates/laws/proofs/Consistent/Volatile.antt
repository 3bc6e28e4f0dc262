-- Volatile reads: in every order the actions of a volatile variable stand by their places, so 17 says that the read sees the order's latest write.
use Prim.Native.Nat.{ℕ, ◌<◌, ◌≤◌}
use native.Mathlib.Nat.{eq-or-lt_of_le}
use native.Mathlib.Omega.{arith}
use mathlib.Core.Path.{◌≡◌, refl, sym, ap, ◌∙◌}
use mathlib.Core.List.{List}
use mathlib.Core.Logic.{⊎_elim}
use mathlib.Core.Bool.{Bool, true, false}
use lib.Dec.{eqb, ltb}
use borrow.Author.Tests.{ltb-true, ltb-false, eqb-true, eq-eqb, lt-ltb, le-ltb, not-false}
use Rattle.model.specs.Kinds.{kind_row}
use Rattle.model.specs.Layout.{size, kind, place, seen, row, sync, read}
use Rattle.model.specs.Rules.{rival, seen_at, latest, write_ident, broken17}
use Rattle.model.proofs.Serial.{Order}
use Rattle.model.proofs.Serial.Places.{place_apart}
use Rattle.model.proofs.Serial.Progress.{entry}
use Rattle.laws.proofs.Consistent.Kinds.{volatile_sync}
use Rattle.laws.proofs.Consistent.Latest.{before, latest_in, latest_upto, latest_same, latest_place}
use Rattle.laws.proofs.Consistent.Orders.{places_kept}
use Rattle.laws.proofs.Consistent.Section.{Passed, seen_write, write_seen}

module _ (x : List ℕ) (passed : Passed x) (l : List ℕ) (order : Order x l) where
  by_place : (b c : ℕ) → b < size x → c < size x → sync x b ≡ true → sync x c ≡ true → before l b c ≡ ltb (place x b) (place x c)
  by_place b c h k s t = go (ltb (place x b) (place x c)) refl
    where
      upto : place x c ≤ place x b → entry l c ≤ entry l b
      upto m =
          ⊎_elim (λ (e : place x c ≡ place x b). omega (arith, ap (entry l) (place_apart x passed.placed c b k h t s e)))
          (λ (e : place x c < place x b). omega (arith, places_kept x l order c b k h (record { earlier_sync = t; later_sync = s; larger = e })))
          (eq-or-lt_of_le m)

      go : (u : Bool) → ltb (place x b) (place x c) ≡ u → before l b c ≡ u
      go true e =
          lt-ltb (entry l b) (entry l c)
          (places_kept x l order b c h k (record { earlier_sync = s; later_sync = t; larger = ltb-true (place x b) (place x c) e }))
      go false e = le-ltb (entry l b) (entry l c) (upto (ltb-false (place x b) (place x c) e))

  module _ (a : ℕ) (h : a < size x) (three : kind x a ≡ 3) where
    reads : read x a ≡ true
    unfolding kind_row
    reads = ap (λ (k : ℕ). (kind_row k).read) three

    is_volatile : (row x a).volatile ≡ true
    unfolding kind_row
    is_volatile = ap (λ (k : ℕ). (kind_row k).volatile) three

    rival_sync : (b : ℕ) → b < size x → rival x a b ≡ true → sync x b ≡ true
    rival_sync b k r = volatile_sync (kind x b) (sym (passed.volatiles a b h k reads r) ∙ is_volatile)

    same_latest : latest_in x l a ≡ latest x a
    same_latest =
        latest_same (before l) (λ b c. ltb (place x b) (place x c)) x a
        (λ b k r. by_place b a k h (rival_sync b k r) (volatile_sync (kind x a) is_volatile))
        (λ b c k m r s. by_place b c k m (rival_sync b k r) (rival_sync c m s))
        ∙ sym (latest_place x a)

    pub sees_latest : broken17 x a ≡ false → seen_at x a ≡ latest_in x l a
    unfolding broken17
    sees_latest e =
        let w : ℕ = latest_in x l a in
        seen_write x passed a w (latest_upto (before l) x a)
        (eqb-true (seen x a) (write_ident x w) (not-false (eqb (seen x a) (write_ident x w)) (rw (eq-eqb (kind x a) 3 three, ← same_latest) at e)))

    pub passes : seen_at x a ≡ latest_in x l a → broken17 x a ≡ false
    unfolding broken17
    passes e =
        let w : ℕ = latest_in x l a in
        rw (eq-eqb (kind x a) 3 three, ← same_latest, eq-eqb (seen x a) (write_ident x w) (write_seen x passed a h reads ∙ ap (write_ident x) e))

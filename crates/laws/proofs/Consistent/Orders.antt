-- Every one-at-a-time order of a section keeps happens-before: the synchronizes-with edges go to larger places.
use Prim.Native.Nat.{ℕ, zero, suc, ◌+◌, ◌<◌, ◌≤◌}
use native.Mathlib.Omega.{arith}
use mathlib.Core.Path.{◌≡◌, sym, ap, ◌∙◌}
use mathlib.Core.List.{List}
use mathlib.Core.Logic.{⊎_elim}
use mathlib.Core.Bool.{Bool, true, false, cond, ◌&&◌, ◌||◌, or-true}
use lib.ListN.{get_or}
use lib.Dec.{eqb, ltb}
use borrow.Author.Tests.{ltb-true, eqb-true}
use Rattle.model.specs.Search.{any, count}
use Rattle.model.specs.Layout.{size, thread}
use Rattle.model.specs.Relations.{po, sw, edge, hb}
use Rattle.model.specs.Rules.{broken14}
use Rattle.model.specs.Serial.{listed}
use Rattle.model.proofs.Closure.{Path⁺, one, join, edge_within, hb_closure}
use Rattle.model.proofs.Serial.{Order}
use Rattle.model.proofs.Serial.Progress.{entry, entry_below, entry_at}
use Rattle.model.proofs.Bools.{both, either}
use Rattle.laws.proofs.Consistent.Edges.{Later, sw_later}

counted : (p : ℕ → Bool) (n : ℕ) → 1 ≤ count n p → any n p ≡ true
unfolding any count
counted p zero h = absurd (let z : ⊥ = omega arith in z)
counted p (suc n) h = go (p n) (counted p n) h
  where
    go : (b : Bool) → (1 ≤ count n p → any n p ≡ true) → 1 ≤ count n p + cond b 1 0 → any n p || b ≡ true
    go true f h = or-true (any n p)
    go false f h = rw (f (omega arith))

module _ (x l : List ℕ) (order : Order x l) where
  module _ (a : ℕ) (h : a < size x) where
    stands : listed l a ≡ true
    unfolding listed
    stands = rw order.whole (counted (λ i. eqb (get_or l i 0) a) (size x) (omega (arith, order.once a h)))

    pub within : entry l a < size x
    within = omega (arith, entry_below l a stands, order.whole)

    pub stands_at : get_or l (entry l a) 0 ≡ a
    stands_at = entry_at l a stands

  pub apart : (a b : ℕ) → a < size x → b < size x → entry l a ≡ entry l b → a ≡ b
  apart a b h k e = sym (stands_at a h) ∙ ap (λ (i : ℕ). get_or l i 0) e ∙ stands_at b k

  module _ (a b : ℕ) (h : a < size x) (k : b < size x) where
    pub po_kept : po x a b ≡ true → entry l a < entry l b
    unfolding po
    po_kept e =
        let t = both (ltb a b) (eqb (thread x a) (thread x b)) e in
        order.program (entry l a) (entry l b) (within a h) (within b k)
        (rw (stands_at a h, stands_at b k) (eqb-true (thread x a) (thread x b) t.1))
        (rw (stands_at a h, stands_at b k) (ltb-true a b t.0))

    pub places_kept : Later x a b → entry l a < entry l b
    places_kept f =
        order.places (entry l a) (entry l b) (within a h) (within b k)
        (rw (stands_at a h) f.earlier_sync)
        (rw (stands_at b k) f.later_sync)
        (rw (stands_at a h, stands_at b k) f.larger)

  module _ (rule14 : any (size x) (broken14 x) ≡ false) where
    edge_kept : (a b : ℕ) → edge x a b ≡ true → entry l a < entry l b
    unfolding edge
    edge_kept a b e =
        let (h, k) = edge_within x a b e in
        ⊎_elim (λ t. po_kept a b h k t) (λ t. places_kept a b h k (sw_later x rule14 a b h k t))
        (either (po x a b) (sw x a b) (both (ltb a (size x) && ltb b (size x)) (po x a b || sw x a b) e).1)

    path_kept : {a b : ℕ} → Path⁺ (edge x) a b → entry l a < entry l b
    path_kept {a} {b} (one e) = edge_kept a b e
    path_kept (join p q) = omega (arith, path_kept p, path_kept q)

    pub hb_kept : (a b : ℕ) → hb x a b ≡ true → entry l a < entry l b
    hb_kept a b e = path_kept ((hb_closure x a b).0 e)

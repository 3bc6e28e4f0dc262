-- A sequence as a total order: a precedes b in it exactly when it stands at a smaller step. No two sequences are one order.
use Prim.Native.Nat.{ℕ, zero, suc, ◌<◌, ◌≤◌}
use native.Mathlib.Omega.{arith}
use mathlib.Core.Path.{◌≡◌, refl, sym, ap, ◌∙◌}
use mathlib.Core.List.{List}
use mathlib.Core.Logic.{◌↔◌, ◌⊎◌, inl, inr}
use mathlib.Core.Bool.{Bool, true, false, ◌&&◌}
use lib.ListN.{get_or}
use lib.Seq.{ext_get_or}
use lib.Dec.{eqb, ltb}
use borrow.Author.Tests.{ltb-true, ltb-false, eqb-true, eq-eqb, lt-ltb}
use Rattle.model.specs.Search.{count}
use Rattle.model.specs.Layout.{size, thread, place, sync}
use Rattle.model.specs.Relations.{po}
use Rattle.model.proofs.Serial.{Order}
use Rattle.model.proofs.Serial.Progress.{entry}
use Rattle.model.proofs.Serial.Pigeonhole.{Into, image, count_all}
use Rattle.model.proofs.Bools.{both}
use Rattle.laws.proofs.Consistent.Edges.{Later}
use Rattle.laws.proofs.Consistent.Orders.{within, stands_at, apart, po_kept, places_kept}
use Rattle.demands.specs.Demands.{so, TotalOrder, Sequence, Precedes}

-- a synchronization action of larger place
so_later : (x : List ℕ) (a b : ℕ) → so x a b ≡ true → Later x a b
so_later x a b e =
    let t = both (sync x a && sync x b) (ltb (place x a) (place x b)) e in
    let u = both (sync x a) (sync x b) t.0 in
    record { earlier_sync = u.0; later_sync = u.1; larger = ltb-true (place x a) (place x b) t.1 }

po_later : (x : List ℕ) (a b : ℕ) → po x a b ≡ true → (a < b) × (thread x a ≡ thread x b)
unfolding po
po_later x a b e =
    let t = both (ltb a b) (eqb (thread x a) (thread x b)) e in
    (ltb-true a b t.0, eqb-true (thread x a) (thread x b) t.1)

module _ (x l : List ℕ) where
  pub order_of : Sequence x l → Order x l
  unfolding po
  order_of s =
      record {
        whole = s.whole;
        positions = s.positions;
        once = s.once;
        program = λ i j h k e m. s.keeps_po i j h k (rw (lt-ltb (get_or l i 0) (get_or l j 0) m) (eq-eqb (thread x (get_or l i 0)) (thread x (get_or l j 0)) e));
        places = λ i j h k e f m. s.keeps_so i j h k (rw (e, f) (lt-ltb (place x (get_or l i 0)) (place x (get_or l j 0)) m));
      }

  pub sequence_of : Order x l → Sequence x l
  sequence_of o =
      record {
        whole = o.whole;
        positions = o.positions;
        once = o.once;
        keeps_po = λ i j h k e. let t = po_later x (get_or l i 0) (get_or l j 0) e in o.program i j h k t.1 t.0;
        keeps_so = λ i j h k e. let f = so_later x (get_or l i 0) (get_or l j 0) e in o.places i j h k f.earlier_sync f.later_sync f.larger;
      }

module _ (x l : List ℕ) (order : Order x l) where
  -- the positions fill the steps
  into : Into (size x) (λ a. true) (count (size x) (λ a. true)) (λ i. true) (entry l)
  into =
      record {
        within = λ a h e. rw count_all (within x l order a h);
        holds = λ a h e. refl;
        apart = λ a b h k p q. apart x l order a b h k;
      }

  pub entry_step : (i : ℕ) → i < size x → entry l (get_or l i 0) ≡ i
  entry_step i h =
      let m = image (size x) (λ a. true) (entry l) into i (rw count_all h) in
      ap (entry l) (ap (λ (j : ℕ). get_or l j 0) (sym m.equal) ∙ stands_at x l order m.at m.below) ∙ m.equal

  pub precedes_entry : (a b : ℕ) → Precedes l a b → entry l a < entry l b
  precedes_entry a b (i, j, h, k, e, f) =
      let p : entry l a ≡ i = ap (entry l) (sym e) ∙ entry_step i (omega (arith, order.whole)) in
      let q : entry l b ≡ j = ap (entry l) (sym f) ∙ entry_step j (omega (arith, order.whole)) in
      omega arith

  pub entry_precedes : (a b : ℕ) → a < size x → b < size x → entry l a < entry l b → Precedes l a b
  entry_precedes a b h k e =
      (entry l a, entry l b, e, omega (arith, within x l order b k, order.whole), stands_at x l order a h, stands_at x l order b k)

  pub not_precedes : (a b : ℕ) → a < size x → b < size x → (Precedes l a b → ⊥) → entry l b ≤ entry l a
  not_precedes a b h k f =
      let z : entry l a < entry l b → ⊥ = λ s. f (entry_precedes a b h k s) in omega arith

  pub total_order : TotalOrder x (Precedes l)
  total_order =
      record {
        irreflexive = λ a h e. omega (arith, precedes_entry a a e);
        transitive = λ a b c h k m e f. entry_precedes a c h m (omega (arith, precedes_entry a b e, precedes_entry b c f));
        total = λ a b h k e. compared a b h k e (ltb (entry l a) (entry l b)) refl;
        keeps_po = λ a b h k e. entry_precedes a b h k (po_kept x l order a b h k e);
        keeps_so = λ a b h k e. entry_precedes a b h k (places_kept x l order a b h k (so_later x a b e));
      }
    where
      compared : (a b : ℕ) → a < size x → b < size x → (a ≡ b → ⊥) → (t : Bool) → ltb (entry l a) (entry l b) ≡ t
          → Precedes l a b ⊎ Precedes l b a
      compared a b h k e true q = inl (entry_precedes a b h k (ltb-true (entry l a) (entry l b) q))
      compared a b h k e false q =
          let z : entry l a ≡ entry l b → ⊥ = λ f. e (apart x l order a b h k f) in
          inr (entry_precedes b a k h (omega (arith, ltb-false (entry l a) (entry l b) q)))

-- what grows with the step is at least the step
climbs : (f : ℕ → ℕ) (n : ℕ) → ((i j : ℕ) → i < j → j < n → f i < f j) → (i : ℕ) → i < n → i ≤ f i
climbs f n g zero h = omega arith
climbs f n g (suc i) h = omega (arith, climbs f n g i (omega arith), g i (suc i) (omega arith) h)

-- Where k keeps the order of l, an entry of l stands in k at no earlier step
module _
    (x k l : List ℕ) (o : Order x k) (p : Order x l)
    (same : (a b : ℕ) → a < size x → b < size x → Precedes l a b → Precedes k a b)
  where
    no_earlier : (i : ℕ) → i < size x → i ≤ entry k (get_or l i 0)
    no_earlier = climbs (λ i. entry k (get_or l i 0)) (size x) grows
      where
        grows : (i j : ℕ) → i < j → j < size x → entry k (get_or l i 0) < entry k (get_or l j 0)
        grows i j h m =
            let e : Precedes l (get_or l i 0) (get_or l j 0) = (i, j, h, omega (arith, p.whole), refl, refl) in
            precedes_entry x k o (get_or l i 0) (get_or l j 0)
            (same (get_or l i 0) (get_or l j 0) (p.positions i (omega arith)) (p.positions j m) e)

-- two sequences of one order are equal
pub only_list : (x k l : List ℕ) → Order x k → Order x l
    → ((a b : ℕ) → a < size x → b < size x → Precedes k a b ↔ Precedes l a b) → k ≡ l
only_list x k l o p same =
    ext_get_or 0 k l (o.whole ∙ sym p.whole) (λ i h. equal i (omega (arith, o.whole)))
  where
    entry_of : (i : ℕ) → i < size x → get_or k (entry k (get_or l i 0)) 0 ≡ get_or l i 0
    entry_of i h = stands_at x k o (get_or l i 0) (p.positions i h)

    at_step : (i : ℕ) → i < size x → entry k (get_or l i 0) ≡ i
    at_step i h =
        let j : ℕ = entry k (get_or l i 0) in
        let u : i ≤ j = no_earlier x k l o p (λ a b m q. (same a b m q).1) i h in
        let w : j ≤ entry l (get_or k j 0) = no_earlier x l k p o (λ a b m q. (same a b m q).0) j (within x k o (get_or l i 0) (p.positions i h)) in
        let v : entry l (get_or k j 0) ≡ i = ap (entry l) (entry_of i h) ∙ entry_step x l p i h in
        omega arith

    equal : (i : ℕ) → i < size x → get_or k i 0 ≡ get_or l i 0
    equal i h = ap (λ (j : ℕ). get_or k j 0) (sym (at_step i h)) ∙ entry_of i h

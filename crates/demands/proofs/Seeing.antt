-- What a read sees is the same by the relation of a sequence, by what its variable holds when it is run, and by the latest write of the laws of orders.
use Prim.Native.Nat.{ℕ, zero, suc, ◌<◌, ◌≤◌}
use native.Mathlib.Nat.{eq-or-lt_of_le}
use native.Mathlib.Omega.{arith}
use mathlib.Core.Path.{◌≡◌, refl, sym, ap, ◌∙◌}
use mathlib.Core.List.{List}
use mathlib.Core.Logic.{◌↔◌, ◌⊎◌, inl, inr, ⊎_elim}
use mathlib.Core.Bool.{Bool, true, false, cond, ◌&&◌, false≢true}
use lib.ListN.{get_or}
use lib.Dec.{eqb}
use borrow.Author.Tests.{eqb-true, eqb-false}
use Rattle.model.specs.Layout.{size, ident, target, seen, read, write}
use Rattle.model.specs.Rules.{rival, seen_at}
use Rattle.model.proofs.Serial.{Order}
use Rattle.model.proofs.Serial.Progress.{entry}
use Rattle.laws.proofs.Consistent.{Shows}
use Rattle.laws.proofs.Consistent.Latest.{latest_in, latest_last, latest_initial, last_latest, initial_latest}
use Rattle.laws.proofs.Consistent.Orders.{within, stands_at, apart}
use Rattle.laws.proofs.Consistent.Section.{Passed, seen_of, seen_initial, seen_rival}
use Rattle.demands.specs.Demands.{Sees, EachSees, Precedes, holds, Runs}
use Rattle.demands.proofs.Sequences.{entry_step, precedes_entry, entry_precedes, not_precedes}

module _ (x l : List ℕ) (order : Order x l) where
  -- by the latest write in the list
  module _ (passed : Passed x) (a : ℕ) (h : a < size x) (r : read x a ≡ true) where
    shown_sees : seen_at x a ≡ latest_in x l a → Sees x (Precedes l) a
    shown_sees q = go (eqb (seen x a) 0) refl
      where
        go : (t : Bool) → eqb (seen x a) 0 ≡ t → Sees x (Precedes l) a
        go true e =
            let z : seen x a ≡ 0 = eqb-true (seen x a) 0 e in
            let first = latest_initial x l a (sym q ∙ seen_initial x passed a z) in
            inl (z, λ b k v p. omega (arith, first b k v, precedes_entry x l order b a p))
        go false e =
            let s = seen_rival x passed a h r (eqb-false (seen x a) 0 e) in
            let m : latest_in x l a < size x = rw q at s.0 in
            let f = latest_last x l a m in
            inr (
              latest_in x l a,
              s.2 ∙ ap (ident x) q,
              record {
                position = m;
                writes = f.writes;
                earlier = entry_precedes x l order (latest_in x l a) a m h f.stands;
                latest = λ b k v p s. omega (arith, f.largest b k v (precedes_entry x l order b a p), precedes_entry x l order (latest_in x l a) b s);
              },
            )

    sees_shown : Sees x (Precedes l) a → seen_at x a ≡ latest_in x l a
    sees_shown (inl (z, none)) =
        seen_initial x passed a z
        ∙ sym (initial_latest x l a (λ b k v. not_precedes x l order b a k h (none b k v)))
    sees_shown (inr (w, z, f)) =
        seen_of x passed a w f.position z
        ∙ sym (last_latest x l a (apart x l order) w (record {
          within = f.position;
          writes = f.writes;
          stands = precedes_entry x l order w a f.earlier;
          largest = λ b k v s. not_precedes x l order w b f.position k (f.latest b k v (entry_precedes x l order b a k h s));
        }))

  pub shows_sees : Passed x → Shows x l ↔ EachSees x (Precedes l)
  shows_sees passed = (λ f a h r. shown_sees passed a h r (f a h r), λ f a h r. sees_shown passed a h r (f a h r))

-- What a variable v holds after i steps is the initial write, and none of these steps writes to it, or it is what the last one of these wrote
module _ (x l : List ℕ) (v : ℕ) where
  abbrev writes : ℕ → Bool
  writes a = write x a && eqb (target x a) v

  -- no step from j up to i writes to it
  abbrev Silent : ℕ → ℕ → Type 0
  Silent j i = (k : ℕ) → j ≤ k → k < i → writes (get_or l k 0) ≡ false

  abbrev Held : ℕ → ℕ → Type 0
  Held i m =
      ((m ≡ 0) × Silent 0 i)
      ⊎ ((j : ℕ) × (j < i) × (m ≡ ident x (get_or l j 0)) × (writes (get_or l j 0) ≡ true) × Silent (suc j) i)

  silent_more : (j i : ℕ) → Silent j i → writes (get_or l i 0) ≡ false → Silent j (suc i)
  silent_more j i f e k a b =
      ⊎_elim (λ (q : k ≡ i). rw q e) (λ (q : k < i). f k a q) (eq-or-lt_of_le (let z : k ≤ i = omega arith in z))

  held_more : (i m : ℕ) → Held i m → (t : Bool) → writes (get_or l i 0) ≡ t → Held (suc i) (cond t (ident x (get_or l i 0)) m)
  held_more i m h true e = inr (i, omega arith, refl, e, λ k a b. absurd (let z : ⊥ = omega arith in z))
  held_more i m (inl (z, f)) false e = inl (z, silent_more 0 i f e)
  held_more i m (inr (j, a, z, w, f)) false e = inr (j, omega arith, z, w, silent_more (suc j) i f e)

  held : (i : ℕ) → Held i (holds x l i v)
  unfolding holds
  held zero = inl (refl, λ k a b. absurd (let z : ⊥ = omega arith in z))
  held (suc i) = held_more i (holds x l i v) (held i) (writes (get_or l i 0)) refl

module _ (x l : List ℕ) (order : Order x l) (i : ℕ) (h : i < size x) where
  abbrev a : ℕ
  a = get_or l i 0

  -- a write to a's variable stands at no step that does not write to it
  not_silent : (b : ℕ) → b < size x → rival x a b ≡ true → writes x l (target x a) (get_or l (entry l b) 0) ≡ false → ⊥
  unfolding rival
  not_silent b k v e = false≢true (sym e ∙ ap (writes x l (target x a)) (stands_at x l order b k) ∙ v)

  before_a : (b : ℕ) → Precedes l b a → entry l b < i
  before_a b p = omega (arith, precedes_entry x l order b a p, entry_step x l order i h)

  step_before : (j : ℕ) → j < i → Precedes l (get_or l j 0) a
  step_before j m = (j, i, m, omega (arith, order.whole), refl, refl)

  holds_sees : seen x a ≡ holds x l i (target x a) → Sees x (Precedes l) a
  unfolding rival
  holds_sees q = go (held x l (target x a) i)
    where
      go : Held x l (target x a) i (holds x l i (target x a)) → Sees x (Precedes l) a
      go (inl (z, f)) = inl (q ∙ z, λ b k v p. not_silent b k v (f (entry l b) (omega arith) (before_a b p)))
      go (inr (j, m, z, w, f)) =
          let e = entry_step x l order j (omega arith) in
          inr (
            get_or l j 0,
            q ∙ z,
            record {
              position = order.positions j (omega arith);
              writes = w;
              earlier = step_before j m;
              latest = λ b k v p s. not_silent b k v (f (entry l b) (omega (arith, precedes_entry x l order (get_or l j 0) b s)) (before_a b p));
            },
          )

  sees_holds : Sees x (Precedes l) a → seen x a ≡ holds x l i (target x a)
  unfolding rival
  sees_holds s = go s (held x l (target x a) i)
    where
      go : Sees x (Precedes l) a → Held x l (target x a) i (holds x l i (target x a)) → seen x a ≡ holds x l i (target x a)
      go (inl (z, none)) (inl (y, f)) = z ∙ sym y
      go (inl (z, none)) (inr (j, m, y, w, f)) = absurd (none (get_or l j 0) (order.positions j (omega arith)) w (step_before j m))
      go (inr (w, z, t)) (inl (y, f)) =
          absurd (not_silent w t.position t.writes (f (entry l w) (omega arith) (before_a w t.earlier)))
      go (inr (w, z, t)) (inr (j, m, y, u, f)) =
          z ∙ ap (ident x) (sym (stands_at x l order w t.position) ∙ ap (λ (k : ℕ). get_or l k 0) same) ∙ sym y
        where
          -- both are the last write before a
          same : entry l w ≡ j
          same =
              let k : get_or l j 0 < size x = order.positions j (omega arith) in
              let e = entry_step x l order j (omega arith) in
              let p = not_precedes x l order w (get_or l j 0) t.position k (t.latest (get_or l j 0) k u (step_before j m)) in
              let q : j < entry l w → ⊥ = λ b. not_silent w t.position t.writes (f (entry l w) b (before_a w t.earlier)) in
              omega arith

module _ (x l : List ℕ) (order : Order x l) where
  pub runs_sees : Runs x l ↔ EachSees x (Precedes l)
  runs_sees = (seen_at_step, λ f i h r. sees_holds x l order i h (f (get_or l i 0) (order.positions i h) r))
    where
      seen_at_step : Runs x l → EachSees x (Precedes l)
      seen_at_step f a h r =
          let e = stands_at x l order a h in
          let k = within x l order a h in
          rw e at (holds_sees x l order (entry l a) k (f (entry l a) k (rw e r)))

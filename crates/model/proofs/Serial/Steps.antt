-- One step of the order: what is listed, which action is next and which place is due once one position more stands in the list. For every section x.
use Prim.Native.Nat.{ℕ, zero, suc, ◌+◌, ◌<◌, ◌≤◌}
use native.Mathlib.Numerals.{add-one}
use native.Mathlib.Nat.{eq-or-lt_of_le}
use native.Mathlib.Omega.{arith}
use mathlib.Core.Path.{◌≡◌, refl, sym, ap, ◌∙◌}
use mathlib.Core.List.{List, [], ◌∷◌, ◌++◌}
use mathlib.Core.Logic.{⊎_elim}
use mathlib.Core.Bool.{Bool, true, false, not, cond, ◌&&◌, ◌||◌, or-false, and-eq-true_iff, false≢true}
use lib.ListN.{length, get_or, length-append, get_or-append}
use lib.Seq.{get_or_at}
use lib.Dec.{eqb, ltb, leb}
use borrow.Author.Tests.{eqb-true, eqb-false, ltb-true, ltb-false, not-true, eq-eqb, ne_eqb, lt-ltb, le-ltb, le-leb, lt-leb}
use Rattle.model.specs.Search.{any, first, count}
use Rattle.model.specs.Layout.{size, thread, sync}
use Rattle.model.specs.Serial.{listed, next, due, ready, turn, serial}
use Rattle.model.proofs.Search.{any_none, any_more, any_same, count_more, count_same, count_le, first_same}
use Rattle.model.proofs.Search.{First, first_is, first_upto}

pub one_more : (a b : ℕ) → ltb a b || eqb b a ≡ ltb a (b + 1)
one_more a b = go (ltb a b) refl (eqb b a) refl
  where
    go : (t : Bool) → ltb a b ≡ t → (u : Bool) → eqb b a ≡ u → t || u ≡ ltb a (b + 1)
    go true e u q = sym (lt-ltb a (b + 1) (omega (arith, ltb-true a b e)))
    go false e true q = sym (lt-ltb a (b + 1) (omega (arith, eqb-true b a q)))
    go false e false q = sym (le-ltb a (b + 1) (omega (arith, ltb-false a b e, eqb-false b a q)))

not_below : (a b : ℕ) → not (ltb a b) ≡ leb b a
not_below a b = go (ltb a b) refl
  where
    go : (t : Bool) → ltb a b ≡ t → not t ≡ leb b a
    go true e = sym (lt-leb b a (ltb-true a b e))
    go false e = sym (le-leb b a (ltb-false a b e))

-- tests of the entries of a list that is one longer
module _ (q : ℕ → Bool) (l : List ℕ) (b : ℕ) where
  longer : length (l ++ (b ∷ [])) ≡ length l + 1
  longer = length-append l (b ∷ [])

  earlier : (i : ℕ) → i < length l → q (get_or (l ++ (b ∷ [])) i 0) ≡ q (get_or l i 0)
  earlier i h = ap q (get_or-append l (b ∷ []) 0 i h)

  last : q (get_or (l ++ (b ∷ [])) (length l) 0) ≡ q b
  last = ap q (get_or_at l b [] 0 (length l) refl)

  any_entry : any (length (l ++ (b ∷ []))) (λ i. q (get_or (l ++ (b ∷ [])) i 0)) ≡ any (length l) (λ i. q (get_or l i 0)) || q b
  any_entry =
      rw (longer, any_more, last, any_same (λ i. q (get_or (l ++ (b ∷ [])) i 0)) (λ i. q (get_or l i 0)) (length l) earlier)

  count_entry : count (length (l ++ (b ∷ []))) (λ i. q (get_or (l ++ (b ∷ [])) i 0)) ≡ count (length l) (λ i. q (get_or l i 0)) + cond (q b) 1 0
  count_entry =
      rw (longer, count_more, last, count_same (λ i. q (get_or (l ++ (b ∷ [])) i 0)) (λ i. q (get_or l i 0)) (length l) earlier)

pub listed_more : (l : List ℕ) (b a : ℕ) → listed (l ++ (b ∷ [])) a ≡ listed l a || eqb b a
unfolding listed
listed_more l b a = any_entry (λ e. eqb e a) l b

pub listed_none : (a : ℕ) → listed [] a ≡ false
unfolding listed
listed_none a = any_none (λ i. eqb (get_or [] i 0) a)

module _ (x : List ℕ) where
  pub due_more : (l : List ℕ) (b : ℕ) → due x (l ++ (b ∷ [])) ≡ due x l + cond (sync x b) 1 0
  unfolding due
  due_more l b = rw (count_entry (sync x) l b) (omega arith)

  pub serial_more : (k : ℕ) → serial x (k + 1) ≡ serial x k ++ (turn x (serial x k) ∷ [])
  unfolding serial
  serial_more k = rw add-one

  pub length_serial : (k : ℕ) → length (serial x k) ≡ k
  unfolding serial
  length_serial zero = refl
  length_serial (suc k) = rw (length-append, length_serial k) (add-one k)

  -- entry i is the position listed at step i
  pub serial_at : (k i : ℕ) → i < k → get_or (serial x k) i 0 ≡ turn x (serial x i)
  unfolding serial
  serial_at zero i h = absurd (let z : ⊥ = omega arith in z)
  serial_at (suc k) i h =
      ⊎_elim (λ (q : i ≡ k). rw q (get_or_at (serial x k) (turn x (serial x k)) [] 0 k (length_serial k)))
      (λ (q : i < k). get_or-append (serial x k) (turn x (serial x k) ∷ []) 0 i (omega (arith, length_serial k)) ∙ serial_at k i q)
      (eq-or-lt_of_le (let z : i ≤ k = omega arith in z))

  pub due_from : (l : List ℕ) → 1 ≤ due x l
  unfolding due
  due_from l = omega arith

  -- at most every entry is a synchronization action
  pub due_upto : (l : List ℕ) → due x l ≤ length l + 1
  unfolding due
  due_upto l = omega (arith, count_le (λ i. sync x (get_or l i 0)) (length l))

  -- what is still to be listed of thread t
  abbrev left : List ℕ → ℕ → ℕ → Bool
  left l t a = eqb (thread x a) t && not (listed l a)

  next_is : (l : List ℕ) (t : ℕ) → First (size x) (left l t) (next x l t)
  unfolding next
  next_is l t = first_is (left l t) (size x)

  -- t's next action is t's, and not listed
  next_left : (l : List ℕ) (t : ℕ) → next x l t < size x → (eqb (thread x (next x l t)) t ≡ true) × (not (listed l (next x l t)) ≡ true)
  next_left l t h =
      (and-eq-true_iff (eqb (thread x (next x l t)) t) (not (listed l (next x l t)))).0 ((next_is l t).holds h)

  pub next_thread : (l : List ℕ) (t : ℕ) → next x l t < size x → thread x (next x l t) ≡ t
  next_thread l t h = eqb-true (thread x (next x l t)) t (next_left l t h).0

  pub next_unlisted : (l : List ℕ) (t : ℕ) → next x l t < size x → listed l (next x l t) ≡ false
  next_unlisted l t h = not-true (listed l (next x l t)) (next_left l t h).1

  -- an action that is not listed: its thread's next action is it or stands before it
  pub next_upto : (l : List ℕ) (a : ℕ) → listed l a ≡ false → next x l (thread x a) ≤ a
  unfolding next
  next_upto l a e = first_upto (left l (thread x a)) (size x) a (simp (e, eq-eqb (thread x a) (thread x a) refl))

  -- a position that isn't t's leaves t's next action
  pub next_kept : (l : List ℕ) (b t : ℕ) → (b < size x → thread x b ≡ t → ⊥) → next x (l ++ (b ∷ [])) t ≡ next x l t
  unfolding next
  next_kept l b t f =
      first_same (left (l ++ (b ∷ [])) t) (left l t) (size x) (λ a h. same a h (eqb (thread x a) t) refl)
    where
      same : (a : ℕ) → a < size x → (u : Bool) → eqb (thread x a) t ≡ u → u && not (listed (l ++ (b ∷ [])) a) ≡ u && not (listed l a)
      same a h true e =
          let z : eqb b a ≡ false = ne_eqb b a (λ q. f (omega arith) (ap (thread x) q ∙ eqb-true (thread x a) t e)) in
          rw (listed_more l b a, z, or-false)
      same a h false e = refl

  -- of each thread the actions before its next one are listed, and no others
  abbrev pub Prefix : List ℕ → Type 0
  Prefix l = (a : ℕ) → a < size x → listed l a ≡ ltb a (next x l (thread x a))

  prefix_none : Prefix []
  prefix_none a h = listed_none a ∙ sym (le-ltb a (next x [] (thread x a)) (next_upto [] a (listed_none a)))

  -- t's next action is listed now, and the one after it is t's first from the position after on
  module _ (l : List ℕ) (prefix : Prefix l) (t : ℕ) (h : next x l t < size x) where
    moved : (a : ℕ) → a < size x → thread x a ≡ t → listed (l ++ (next x l t ∷ [])) a ≡ ltb a (next x l t + 1)
    moved a m e = rw (listed_more l (next x l t) a, prefix a m, e) (one_more a (next x l t))

    pub next_moved : next x (l ++ (next x l t ∷ [])) t ≡ first (size x) (λ a. eqb (thread x a) t && leb (next x l t + 1) a)
    unfolding next
    next_moved =
        first_same (left (l ++ (next x l t ∷ [])) t) (λ a. eqb (thread x a) t && leb (next x l t + 1) a) (size x)
        (λ a m. same a m (eqb (thread x a) t) refl)
      where
        same : (a : ℕ) → a < size x → (u : Bool) → eqb (thread x a) t ≡ u → u && not (listed (l ++ (next x l t ∷ [])) a) ≡ u && leb (next x l t + 1) a
        same a m true e = rw (moved a m (eqb-true (thread x a) t e)) (not_below a (next x l t + 1))
        same a m false e = refl

    next_past : next x l t < next x (l ++ (next x l t ∷ [])) t
    next_past = let z : c ≤ next x l t → ⊥ = listed_again in omega arith
      where
        c : ℕ
        c = next x (l ++ (next x l t ∷ [])) t

        listed_again : c ≤ next x l t → ⊥
        listed_again q =
            let m : c < size x = omega arith in
            false≢true (sym (next_unlisted (l ++ (next x l t ∷ [])) t m) ∙ moved c m (next_thread (l ++ (next x l t ∷ [])) t m) ∙ lt-ltb c (next x l t + 1) (omega arith))

    prefix_moved : (a : ℕ) → a < size x → thread x a ≡ t → listed (l ++ (next x l t ∷ [])) a ≡ ltb a (next x (l ++ (next x l t ∷ [])) t)
    prefix_moved a m e = moved a m e ∙ go (ltb a (next x l t + 1)) refl
      where
        go : (u : Bool) → ltb a (next x l t + 1) ≡ u → u ≡ ltb a (next x (l ++ (next x l t ∷ [])) t)
        go true q =
            sym (lt-ltb a (next x (l ++ (next x l t ∷ [])) t) (omega (arith, ltb-true a (next x l t + 1) q, next_past)))
        go false q =
            sym (le-ltb a (next x (l ++ (next x l t ∷ [])) t) (rw e at (next_upto (l ++ (next x l t ∷ [])) a (moved a m e ∙ q))))

  -- Listing a thread's next action, or no position at all, keeps to this
  prefix_more : (l : List ℕ) (b : ℕ) → Prefix l → (b < size x → b ≡ next x l (thread x b)) → Prefix (l ++ (b ∷ []))
  prefix_more l b prefix f a h = go (ltb b (size x)) refl (eqb (thread x b) (thread x a)) refl
    where
      Kept : Type 0
      Kept = listed (l ++ (b ∷ [])) a ≡ ltb a (next x (l ++ (b ∷ [])) (thread x a))

      other : (b < size x → thread x b ≡ thread x a → ⊥) → Kept
      other g =
          rw (listed_more l b a, ne_eqb b a (λ q. g (omega arith) (ap (thread x) q)), or-false, next_kept l b (thread x a) g) (prefix a h)

      own : b < size x → thread x b ≡ thread x a → Kept
      own k e =
          let q : b ≡ next x l (thread x a) = rw e at (f k) in
          rw q (prefix_moved l prefix (thread x a) (omega arith) a h refl)

      go : (u : Bool) → ltb b (size x) ≡ u → (w : Bool) → eqb (thread x b) (thread x a) ≡ w → Kept
      go true p true q = own (ltb-true b (size x) p) (eqb-true (thread x b) (thread x a) q)
      go true p false q = other (λ k. eqb-false (thread x b) (thread x a) q)
      go false p w q = other (λ k e. omega (arith, ltb-false b (size x) p))

  -- the position listed at a step is its thread's next action
  pub turn_own : (l : List ℕ) → turn x l < size x → turn x l ≡ next x l (thread x (turn x l))
  unfolding turn
  turn_own l = go (ltb (first 16 (ready x l)) 16)
    where
      go : (u : Bool) → (let b = cond u (next x l (first 16 (ready x l))) (size x) in b < size x → b ≡ next x l (thread x b))
      go true h = rw (next_thread l (first 16 (ready x l)) h)
      go false h = absurd (let z : ⊥ = omega arith in z)

  pub serial_prefix : (k : ℕ) → Prefix (serial x k)
  unfolding serial
  serial_prefix zero = prefix_none
  serial_prefix (suc k) = prefix_more (serial x k) (turn x (serial x k)) (serial_prefix k) (turn_own (serial x k))

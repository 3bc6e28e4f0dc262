-- The list of order's answer 0 is a one-at-a-time order. For every section x whose threads are below 16 and whose synchronization actions have a place
-- other than 0, as number 6 asks, and to which neither 11 nor 12 is given (`Placed x`): at each of the n steps there is a thread "whose next action isn't
-- a synchronization action or has the next place due", so the list, `serial x (size x)`, has no entry but positions; each position is in it exactly
-- once; an action comes before the later ones of its thread, and a synchronization action before those of larger place (`serial_order`).
use Prim.Native.Nat.{ℕ, ◌<◌}
use native.Mathlib.Omega.{arith}
use mathlib.Core.Path.{◌≡◌, refl, sym, ap, ◌∙◌}
use mathlib.Core.List.{List}
use mathlib.Core.Bool.{true, false≢true}
use lib.ListN.{length, get_or}
use lib.Dec.{eqb}
use borrow.Author.Tests.{eqb-true, eq-eqb, lt-ltb}
use Rattle.model.specs.Search.{count}
use Rattle.model.specs.Layout.{size, thread, place, sync}
use Rattle.model.specs.Serial.{listed, next, due, turn, serial}
use Rattle.model.proofs.Search.{any_at}
pub mod Pigeonhole
pub mod Steps
pub mod Places
pub mod Progress
use Pigeonhole.{Into, image, count_all, count_one}
use Steps.{length_serial, serial_at, turn_own, serial_prefix}
use Places.{Placed}
use Progress.{Follows, entry, entry_below, entry_at, turn_follows, serial_synced}

-- l is a one-at-a-time order of section x: it has no entry but positions, and each position once; of two actions of one thread the one of smaller
-- position comes first, and of two synchronization actions the one of smaller place
pub record Order (x l : List ℕ) : Type 0 where
  pub whole : length l ≡ size x
  pub positions : (i : ℕ) → i < size x → get_or l i 0 < size x
  pub once : (a : ℕ) → a < size x → count (size x) (λ i. eqb (get_or l i 0) a) ≡ 1
  pub program : (i j : ℕ) → i < size x → j < size x → thread x (get_or l i 0) ≡ thread x (get_or l j 0) → get_or l i 0 < get_or l j 0 → i < j
  pub places : (i j : ℕ) → i < size x → j < size x → sync x (get_or l i 0) ≡ true → sync x (get_or l j 0) ≡ true → place x (get_or l i 0) < place x (get_or l j 0) → i < j

module _ (x : List ℕ) (placed : Placed x) where
  -- the position listed at step i
  abbrev step : ℕ → ℕ
  step i = turn x (serial x i)

  follows : (i : ℕ) → i < size x → Follows x (serial x i) (step i)
  follows i h =
      turn_follows x placed (serial x i) (serial_synced x placed i (omega arith)) (omega (arith, length_serial x i))

  -- it is listed from then on
  stays : (i j : ℕ) → i < j → listed (serial x j) (step i) ≡ true
  unfolding listed
  stays i j h =
      any_at (λ m. eqb (get_or (serial x j) m 0) (step i)) (length (serial x j)) i (omega (arith, length_serial x j))
      (eq-eqb (get_or (serial x j) i 0) (step i) (serial_at x j i h))

  later : (i j : ℕ) → i < j → j < size x → step i ≡ step j → ⊥
  later i j l h e = false≢true (sym (follows j h).new ∙ ap (listed (serial x j)) (sym e) ∙ stays i j l)

  apart : (i j : ℕ) → i < size x → j < size x → step i ≡ step j → i ≡ j
  apart i j h k e =
      let before : i < j → ⊥ = λ l. later i j l k e in
      let after : j < i → ⊥ = λ l. later j i l h (sym e) in
      omega arith

  -- what is listed by step j was listed at a step before
  before : (i j : ℕ) → i < size x → j < size x → listed (serial x j) (step i) ≡ true → i < j
  before i j h k e =
      let m : ℕ = entry (serial x j) (step i) in
      let l : m < j = omega (arith, entry_below (serial x j) (step i) e, length_serial x j) in
      let q : m ≡ i = apart m i (omega arith) h (sym (serial_at x j m l) ∙ entry_at (serial x j) (step i) e) in
      omega arith

  step_program : (i j : ℕ) → i < size x → j < size x → thread x (step i) ≡ thread x (step j) → step i < step j → i < j
  step_program i j h k e l =
      let q : step j ≡ next x (serial x j) (thread x (step i)) = turn_own x (serial x j) (follows j k).within ∙ ap (next x (serial x j)) (sym e) in
      before i j h k
      (serial_prefix x j (step i) (follows i h).within ∙ lt-ltb (step i) (next x (serial x j) (thread x (step i))) (omega arith))

  step_places : (i j : ℕ) → i < size x → j < size x → sync x (step i) ≡ true → sync x (step j) ≡ true → place x (step i) < place x (step j) → i < j
  step_places i j h k s r l =
      before i j h k
      (serial_synced x placed j (omega arith) (step i) (follows i h).within s
      ∙ lt-ltb (place x (step i)) (due x (serial x j)) (omega (arith, (follows j k).place_due r)))

  -- n steps list n positions, and so all of them
  steps_into : Into (size x) (λ i. true) (count (size x) (λ i. true)) (λ a. true) step
  steps_into =
      record {
        within = λ i h e. rw count_all (follows i h).within;
        holds = λ i h e. refl;
        apart = λ i j h k p q. apart i j h k;
      }

  step_at : (i : ℕ) → i < size x → get_or (serial x (size x)) i 0 ≡ step i
  step_at i h = serial_at x (size x) i h

  step_once : (a : ℕ) → a < size x → count (size x) (λ i. eqb (get_or (serial x (size x)) i 0) a) ≡ 1
  step_once a h =
      let m = image (size x) (λ i. true) step steps_into a (rw count_all h) in
      count_one (λ i. eqb (get_or (serial x (size x)) i 0) a) (size x) m.at m.below
      (eq-eqb (get_or (serial x (size x)) m.at 0) a (step_at m.at m.below ∙ m.equal))
      (λ j k q. apart j m.at k m.below (sym (step_at j k) ∙ eqb-true (get_or (serial x (size x)) j 0) a q ∙ sym m.equal))

  pub serial_order : Order x (serial x (size x))
  serial_order =
      record {
        whole = length_serial x (size x);
        positions = λ i h. rw (step_at i h) (follows i h).within;
        once = step_once;
        program = λ i j h k. rw (step_at i h, step_at j k) (step_program i j h k);
        places = λ i j h k. rw (step_at i h, step_at j k) (step_places i j h k);
      }

-- The greedy sequence of document 01 is `serial`, and no other list is greedy.
use Prim.Native.Nat.{ℕ, zero, suc, ◌<◌, ◌≤◌}
use native.Mathlib.Omega.{arith}
use mathlib.Core.Path.{◌≡◌, refl, sym, ◌∙◌}
use mathlib.Core.List.{List}
use mathlib.Core.Bool.{Bool, true, false, cond, not, ◌||◌}
use lib.ListN.{length, get_or, take, length-take}
use lib.Seq.{take-suc, take_all, ext_get_or, get_or-take}
use lib.Dec.{eqb, ltb}
use borrow.Author.Tests.{ltb-true, lt-ltb}
use Rattle.model.specs.Search.{first}
use Rattle.model.specs.Layout.{size, place, sync}
use Rattle.model.specs.Serial.{next, due, ready, turn, serial}
use Rattle.model.proofs.Search.{first_at, first_is, any_never}
use Rattle.model.proofs.Serial.Places.{Placed}
use Rattle.model.proofs.Serial.Progress.{turn_follows, serial_synced}
use Rattle.model.proofs.Serial.Steps.{length_serial, serial_at, next_thread}
use Rattle.model.proofs.Bools.{both}
use Rattle.demands.specs.Demands.{GoesOn, Greedy}

-- the first k steps of a longer sequence
serial_take : (x : List ℕ) (n k : ℕ) → k ≤ n → take k (serial x n) ≡ serial x k
serial_take x n k h =
    ext_get_or 0 (take k (serial x n)) (serial x k) long (λ i m. same i (omega (arith, long, length_serial x k)))
  where
    long : length (take k (serial x n)) ≡ length (serial x k)
    long = simp (length-take, length_serial x n, length_serial x k) (omega arith)

    same : (i : ℕ) → i < k → get_or (take k (serial x n)) i 0 ≡ get_or (serial x k) i 0
    same i q = get_or-take k (serial x n) i 0 q ∙ serial_at x n i (omega arith) ∙ sym (serial_at x k i q)

module _ (x : List ℕ) (placed : Placed x) (l : List ℕ) where
  -- the step of `serial` goes on with the lowest-numbered thread that is ready, where there is one
  turn_lowest : turn x l < size x → (t : ℕ) × GoesOn x l t (turn x l)
  unfolding turn
  turn_lowest = go (ltb t 16) refl
    where
      t : ℕ
      t = first 16 (ready x l)

      go : (b : Bool) → ltb t 16 ≡ b → cond b (next x l t) (size x) < size x → (u : ℕ) × GoesOn x l u (cond b (next x l t) (size x))
      go true e h = (t, ((first_is (ready x l) 16).holds (ltb-true t 16 e), (first_is (ready x l) 16).before, refl))
      go false e h = absurd (let z : ⊥ = omega arith in z)

  -- and no other step goes on so: `turn` looks at the threads below 16, and there are no others
  ready_below : (t : ℕ) → ready x l t ≡ true → t < 16
  unfolding ready
  ready_below t r =
      let a : ℕ = next x l t in
      let h : a < size x = ltb-true a (size x) (both (ltb a (size x)) (not (sync x a) || eqb (place x a) (due x l)) r).0 in
      omega (arith, placed.threads a h, next_thread x l t h)

  lowest_turn : (t a : ℕ) → GoesOn x l t a → a ≡ turn x l
  unfolding turn
  lowest_turn t a (r, f, e) =
      let h = ready_below t r in
      let q : first 16 (ready x l) ≡ t = first_at (ready x l) 16 t h (any_never (ready x l) t f) r in
      rw (q, lt-ltb t 16 h) e

module _ (x : List ℕ) (placed : Placed x) where
  -- some thread is ready at each step
  turn_below : (i : ℕ) → i < size x → turn x (serial x i) < size x
  turn_below i h =
      (turn_follows x placed (serial x i) (serial_synced x placed i (omega arith)) (omega (arith, length_serial x i))).within

  pub serial_greedy : Greedy x (serial x (size x))
  serial_greedy = (
    length_serial x (size x),
    λ i h. rw (serial_take x (size x) i (omega arith), serial_at x (size x) i h) (turn_lowest x placed (serial x i) (turn_below i h)),
  )

  pub greedy_serial : (l : List ℕ) → Greedy x l → l ≡ serial x (size x)
  unfolding serial
  greedy_serial l (whole, f) = sym (take_all (size x) l (omega arith)) ∙ steps (size x) (omega arith)
    where
      steps : (k : ℕ) → k ≤ size x → take k l ≡ serial x k
      steps zero h = refl
      steps (suc k) h =
          let (t, g) = f k h in
          let e : take k l ≡ serial x k = steps k (omega arith) in
          let q : get_or l k 0 ≡ turn x (take k l) = lowest_turn x placed (take k l) t (get_or l k 0) g in
          take-suc l k 0 (omega arith) ∙ rw (q, e)

-- In a section that 11 and 12 let pass some thread is ready while an action is left, so no step of the order is without a position.
use Prim.Native.Nat.{ℕ, zero, suc, ◌+◌, ◌<◌, ◌≤◌}
use native.Mathlib.Nat.{add-zero}
use native.Mathlib.Omega.{arith}
use mathlib.Core.Path.{◌≡◌, refl, sym, ap, ◌∙◌}
use mathlib.Core.List.{List, [], ◌∷◌, ◌++◌}
use mathlib.Core.Bool.{Bool, true, false, not, cond, ◌||◌, or-false, and-eq-true_iff, false≢true}
use lib.ListN.{length, get_or}
use lib.Dec.{eqb, ltb}
use borrow.Author.Tests.{ltb-true, ltb-false, eqb-true, eqb-false, not-true, not-false, eq-eqb, ne_eqb, lt-ltb, le-ltb}
use Rattle.model.specs.Search.{any, first, count}
use Rattle.model.specs.Layout.{size, thread, place, sync}
use Rattle.model.specs.Serial.{listed, next, due, ready, turn, serial}
use Rattle.model.proofs.Search.{any_at, any_not}
use Rattle.model.proofs.Search.{first_is, any_first}
use Rattle.model.proofs.Serial.Pigeonhole.{Into, count_into, count_all}
use Rattle.model.proofs.Serial.Places.{Placed, place_upto, place_apart, place_grows, place_at}
use Rattle.model.proofs.Serial.Steps.{listed_more, listed_none, due_more, due_from, next_thread, next_unlisted, next_upto, one_more, length_serial}

-- where a stands in the list l
abbrev pub entry : List ℕ → ℕ → ℕ
entry l a = first (length l) (λ i. eqb (get_or l i 0) a)

module _ (l : List ℕ) (a : ℕ) (h : listed l a ≡ true) where
  pub entry_below : entry l a < length l
  unfolding listed
  entry_below = any_first (λ i. eqb (get_or l i 0) a) (length l) h

  pub entry_at : get_or l (entry l a) 0 ≡ a
  entry_at = eqb-true (get_or l (entry l a) 0) a ((first_is (λ i. eqb (get_or l i 0) a) (length l)).holds entry_below)

-- a list shorter than n leaves a position below n
some_left : (l : List ℕ) (n : ℕ) → length l < n → (a : ℕ) × (a < n) × (listed l a ≡ false)
some_left l n h = go (any n left) refl
  where
    left : ℕ → Bool
    left a = not (listed l a)

    here : any n left ≡ false → (a : ℕ) → a < n → listed l a ≡ true
    here e a k = not-false (listed l a) (any_not left n a k e)

    full : any n left ≡ false → Into n (λ a. true) (length l) (λ i. true) (entry l)
    full e =
        record {
          within = λ a k q. entry_below l a (here e a k);
          holds = λ a k q. refl;
          apart = λ a b k m q r z. sym (entry_at l a (here e a k)) ∙ ap (λ (i : ℕ). get_or l i 0) z ∙ entry_at l b (here e b m);
        }

    go : (u : Bool) → any n left ≡ u → (a : ℕ) × (a < n) × (listed l a ≡ false)
    go true e =
        let k : first n left < n = any_first left n e in
        (first n left, k, not-true (listed l (first n left)) ((first_is left n).holds k))
    go false e =
        absurd (let z : ⊥ = omega (arith, count_into n (λ a. true) (length l) (λ i. true) (entry l) (full e), count_all n, count_all (length l)) in z)

-- b may follow the positions l
pub record Follows (x l : List ℕ) (b : ℕ) : Type 0 where
  pub within : b < size x
  pub new : listed l b ≡ false
  pub place_due : sync x b ≡ true → place x b ≡ due x l

-- a test that is asked where s holds
asked : (s p : Bool) → (s ≡ true → p ≡ true) → not s || p ≡ true
asked true p f = f refl
asked false p f = refl

answered : (s p : Bool) → not s || p ≡ true → s ≡ true → p ≡ true
answered true p e r = e
answered false p e r = absurd (false≢true r)

-- thread t is ready exactly when its next action may follow
module _ (x l : List ℕ) (t : ℕ) where
  follows_ready : Follows x l (next x l t) → ready x l t ≡ true
  unfolding ready
  follows_ready f =
      let a : ℕ = next x l t in
      rw (lt-ltb a (size x) f.within) (asked (sync x a) (eqb (place x a) (due x l)) (λ s. eq-eqb (place x a) (due x l) (f.place_due s)))

  ready_follows : ready x l t ≡ true → Follows x l (next x l t)
  unfolding ready
  ready_follows e =
      let a : ℕ = next x l t in
      let b : (ltb a (size x) ≡ true) × (not (sync x a) || eqb (place x a) (due x l) ≡ true) = (and-eq-true_iff (ltb a (size x)) (not (sync x a) || eqb (place x a) (due x l))).0 e in
      let h : a < size x = ltb-true a (size x) b.0 in
      record {
        within = h;
        new = next_unlisted x l t h;
        place_due = λ s. eqb-true (place x a) (due x l) (answered (sync x a) (eqb (place x a) (due x l)) b.1 s);
      }

module _ (x : List ℕ) (placed : Placed x) where
  -- of the synchronization actions those are listed whose places are below the place due
  abbrev pub Synced : List ℕ → Type 0
  Synced l = (a : ℕ) → a < size x → sync x a ≡ true → listed l a ≡ ltb (place x a) (due x l)

  module _ (l : List ℕ) (synced : Synced l) where
    left_place : (a : ℕ) → a < size x → listed l a ≡ false → sync x a ≡ true → due x l ≤ place x a
    left_place a h e s = ltb-false (place x a) (due x l) (sym (synced a h s) ∙ e)

    -- the thread of the action with the place due
    due_ready : (b : ℕ) → b < size x → sync x b ≡ true → place x b ≡ due x l → ready x l (thread x b) ≡ true
    due_ready b h s e =
        follows_ready x l (thread x b)
        (record {
          within = k;
          new = next_unlisted x l (thread x b) k;
          place_due = λ r. omega (arith, place_grows x placed (next x l (thread x b)) b upto h r s (next_thread x l (thread x b) k), left_place (next x l (thread x b)) k (next_unlisted x l (thread x b) k) r);
        })
      where
        upto : next x l (thread x b) ≤ b
        upto = next_upto x l b (synced b h s ∙ le-ltb (place x b) (due x l) (omega arith))

        k : next x l (thread x b) < size x
        k = omega (arith, upto)

    -- while an action is left, some thread is ready
    some_ready : (a : ℕ) → a < size x → listed l a ≡ false → (t : ℕ) × (t < 16) × (ready x l t ≡ true)
    some_ready a h e = go (sync x c) refl
      where
        c : ℕ
        c = next x l (thread x a)

        k : c < size x
        k = omega (arith, next_upto x l a e)

        new : listed l c ≡ false
        new = next_unlisted x l (thread x a) k

        go : (u : Bool) → sync x c ≡ u → (t : ℕ) × (t < 16) × (ready x l t ≡ true)
        go false q =
            (thread x a, placed.threads a h, follows_ready x l (thread x a) (record { within = k; new = new; place_due = λ s. absurd (false≢true (sym q ∙ s)) }))
        go true q =
            let i = place_at x placed (due x l) (due_from x l) (omega (arith, left_place c k new q, place_upto x placed c k q)) in
            (thread x i.at, placed.threads i.at i.below, due_ready i.at i.below i.holds i.equal)

  -- a thread is ready, so the step lists a position that may follow
  pub turn_follows : (l : List ℕ) → Synced l → length l < size x → Follows x l (turn x l)
  unfolding turn
  turn_follows l synced h =
      let a = some_left l (size x) h in
      let t = some_ready l synced a.0 a.1 a.2 in
      let k : first 16 (ready x l) < 16 = any_first (ready x l) 16 (any_at (ready x l) 16 t.0 t.1 t.2) in
      rw (lt-ltb (first 16 (ready x l)) 16 k) (ready_follows x l (first 16 (ready x l)) ((first_is (ready x l) 16).holds k))

  synced_more : (l : List ℕ) (b : ℕ) → Synced l → Follows x l b → Synced (l ++ (b ∷ []))
  synced_more l b synced f a h s =
      rw (listed_more l b a, synced a h s, due_more x l b) (go (sync x b) refl)
    where
      same : sync x b ≡ true → (u : Bool) → eqb b a ≡ u → u ≡ eqb (due x l) (place x a)
      same q true r =
          sym (eq-eqb (due x l) (place x a) (sym (f.place_due q) ∙ ap (place x) (eqb-true b a r)))
      same q false r =
          sym (ne_eqb (due x l) (place x a) (λ e. eqb-false b a r (place_apart x placed b a f.within h q s (f.place_due q ∙ e))))

      go : (u : Bool) → sync x b ≡ u → ltb (place x a) (due x l) || eqb b a ≡ ltb (place x a) (due x l + cond u 1 0)
      go true q = rw (same q (eqb b a) refl) (one_more (place x a) (due x l))
      go false q =
          rw (ne_eqb b a (λ e. false≢true (sym q ∙ ap (sync x) e ∙ s)), or-false, add-zero)

  synced_none : Synced []
  unfolding due count
  synced_none a h s = listed_none a ∙ sym (le-ltb (place x a) 1 (placed.places a h s))

  pub serial_synced : (k : ℕ) → k ≤ size x → Synced (serial x k)
  unfolding serial
  serial_synced zero h = synced_none
  serial_synced (suc k) h =
      synced_more (serial x k) (turn x (serial x k)) (serial_synced k (omega arith))
      (turn_follows (serial x k) (serial_synced k (omega arith)) (omega (arith, length_serial x k)))

-- Laws of the searches: how a loop that looks at one position after another comes to what a rule states, and what a search says of the positions.
use Prim.Native.Nat.{ℕ, zero, suc, ◌+◌, ◌<◌, ◌≤◌}
use native.Mathlib.Numerals.{add-one}
use native.Mathlib.Nat.{eq-or-lt_of_le}
use native.Mathlib.Decide.{dec_lt, ℕ_discrete}
use native.Mathlib.Omega.{arith}
use mathlib.Core.Path.{◌≡◌, refl, sym, ap₂, ◌∙◌}
use mathlib.Core.Logic.{⊎_elim}
use mathlib.Core.Bool.{Bool, true, false, cond, ◌&&◌, ◌||◌, or-true, false≢true}
use lib.Dec.{ltb, leb}
use borrow.Author.Tests.{lt-ltb, le-ltb, le-leb, lt-leb, ltb-true, ltb-false}
use Rattle.model.specs.Search.{any, first, count, found, none}

module _ (p : ℕ → Bool) where
  -- one position more
  pub any_more : (n : ℕ) → any (n + 1) p ≡ any n p || p n
  unfolding any
  any_more n = rw add-one

  pub count_more : (n : ℕ) → count (n + 1) p ≡ count n p + cond (p n) 1 0
  unfolding count
  count_more n = rw add-one

  -- none so far
  pub any_none : any 0 p ≡ false
  unfolding any
  any_none = refl

  pub count_none : count 0 p ≡ 0
  unfolding count
  count_none = refl

  -- none below n, and none at n
  pub any_pass : (n : ℕ) → any n p ≡ false → p n ≡ false → any (n + 1) p ≡ false
  any_pass n h e = rw (any_more n, h) e

  -- one at a position below n
  pub any_at : (n a : ℕ) → a < n → p a ≡ true → any n p ≡ true
  unfolding any
  any_at zero a l e = absurd (let h : ⊥ = omega arith in h)
  any_at (suc n) a l e =
      ⊎_elim (λ (q : a ≡ n). rw (← q, e) (or-true (any a p)))
      (λ (q : a < n). rw (any_at n a q e))
      (eq-or-lt_of_le (let h : a ≤ n = omega arith in h))

  -- nowhere below n, so not at a position below n
  pub any_not : (n a : ℕ) → a < n → any n p ≡ false → p a ≡ false
  any_not n a l h = not_both (p a) (λ (e : p a ≡ true). let z : ◌≡◌ {A = Bool} true false = sym (any_at n a l e) ∙ h in z)
    where
      not_both : (b : Bool) → (b ≡ true → true ≡ false) → b ≡ false
      not_both true f = f refl
      not_both false f = refl

  -- nowhere below a larger bound, so nowhere below a smaller one
  pub any_less : (n a : ℕ) → a ≤ n → any n p ≡ false → any a p ≡ false
  any_less n zero l h = any_none
  any_less n (suc a) l h =
      let q : any a p ≡ false = any_less n a (omega arith) h in
      rw add-one at (any_pass a q (any_not n a l h))

  -- the first position at which p holds
  pub first_none : (n : ℕ) → any n p ≡ false → first n p ≡ n
  unfolding first
  first_none zero h = refl
  first_none (suc n) h =
      simp (first_none n (any_less (suc n) n (omega arith) h), le-ltb n n (omega arith), any_not (suc n) n (omega arith) h)

  pub first_at : (n a : ℕ) → a < n → any a p ≡ false → p a ≡ true → first n p ≡ a
  unfolding first
  first_at zero a l h e = absurd (let z : ⊥ = omega arith in z)
  first_at (suc n) a l h e =
      ⊎_elim (λ (q : a ≡ n). rw (← q) (simp (first_none a h, le-ltb a a (omega arith), e)))
      (λ (q : a < n). simp (first_at n a q h e, lt-ltb a n q))
      (eq-or-lt_of_le (let z : a ≤ n = omega arith in z))

  pub found_none : (n : ℕ) → any n p ≡ false → found n p ≡ none
  unfolding found
  found_none n h = simp (first_none n h, le-ltb n n (omega arith))

  pub found_at : (n a : ℕ) → a < n → any a p ≡ false → p a ≡ true → found n p ≡ a
  unfolding found
  found_at n a l h e = simp (first_at n a l h e, lt-ltb a n l)

-- two tests that agree below n
module _ (p q : ℕ → Bool) where
  pub any_same : (n : ℕ) → ((a : ℕ) → a < n → p a ≡ q a) → any n p ≡ any n q
  unfolding any
  any_same zero f = refl
  any_same (suc n) f =
      ap₂ ◌||◌ (any_same n (λ a l. f a (omega arith))) (f n (omega arith))

  pub first_same : (n : ℕ) → ((a : ℕ) → a < n → p a ≡ q a) → first n p ≡ first n q
  unfolding first
  first_same zero f = refl
  first_same (suc n) f = rw (first_same n (λ a l. f a (omega arith)), f n (omega arith))

  pub found_same : (n : ℕ) → ((a : ℕ) → a < n → p a ≡ q a) → found n p ≡ found n q
  unfolding found
  found_same n f = rw (first_same n f)

  pub count_same : (n : ℕ) → ((a : ℕ) → a < n → p a ≡ q a) → count n p ≡ count n q
  unfolding count
  count_same zero f = refl
  count_same (suc n) f = rw (count_same n (λ a l. f a (omega arith)), f n (omega arith))

pub count_le : (p : ℕ → Bool) (n : ℕ) → count n p ≤ n
unfolding count
count_le p zero = omega arith
count_le p (suc n) = step (p n) (count_le p n)
  where
    step : (b : Bool) → count n p ≤ n → count n p + cond b 1 0 ≤ suc n
    step true h = omega arith
    step false h = omega arith

-- a is the least position below n at which p holds, or n where there is none
pub record First (n : ℕ) (p : ℕ → Bool) (a : ℕ) : Type 0 where
  pub within : a ≤ n
  pub holds : a < n → p a ≡ true
  pub before : (b : ℕ) → b < a → p b ≡ false

module _ (p : ℕ → Bool) where
  pub first_is : (n : ℕ) → First n p (first n p)
  unfolding first
  first_is zero = record { within = omega arith; holds = λ h. absurd (let z : ⊥ = omega arith in z); before = λ b h. absurd (let z : ⊥ = omega arith in z) }
  first_is (suc n) = go (first n p) (first_is n) (ltb (first n p) n) refl (p n) refl
    where
      go : (a : ℕ) → First n p a → (t : Bool) → ltb a n ≡ t → (u : Bool) → p n ≡ u → First (suc n) p (cond t a (cond u n (suc n)))
      go a f true e u q =
          record {
            within = omega (arith, f.within);
            holds = λ h. f.holds (ltb-true a n e);
            before = f.before;
          }
      go a f false e true q =
          record {
            within = omega arith;
            holds = λ h. q;
            before = λ b h. f.before b (omega (arith, ltb-false a n e));
          }
      go a f false e false q =
          record {
            within = omega arith;
            holds = λ h. absurd (let z : ⊥ = omega arith in z);
            before = λ b h. ⊎_elim (λ (r : b ≡ n). rw r q) (λ (r : b < n). f.before b (omega (arith, ltb-false a n e))) (eq-or-lt_of_le (let z : b ≤ n = omega arith in z));
          }

  -- none below n
  pub any_never : (n : ℕ) → ((b : ℕ) → b < n → p b ≡ false) → any n p ≡ false
  unfolding any
  any_never zero f = refl
  any_never (suc n) f = rw (any_never n (λ b h. f b (omega arith))) (f n (omega arith))

  -- some position below n, so the first is below n
  pub any_first : (n : ℕ) → any n p ≡ true → first n p < n
  any_first n e =
      let z : n ≤ first n p → ⊥ = λ h. false≢true (sym (any_never n (λ b k. (first_is n).before b (omega arith))) ∙ e) in
      omega arith

  -- where p holds at a, the first position is at most a
  pub first_upto : (n a : ℕ) → p a ≡ true → first n p ≤ a
  first_upto n a e =
      let z : a < first n p → ⊥ = λ h. false≢true (sym ((first_is n).before a h) ∙ e) in omega arith

  pub first_least : (n : ℕ) → any (first n p) p ≡ false
  first_least n = any_never (first n p) (first_is n).before

  -- some position below n passes the test exactly when the first one is below n
  pub first_any : (n : ℕ) → ltb (first n p) n ≡ any n p
  first_any n =
      elim (dec_lt (first n p) n) [
        | yes h ↦ lt-ltb (first n p) n h ∙ sym (any_at p n (first n p) h ((first_is n).holds h))
        | no g ↦ le-ltb (first n p) n (omega arith) ∙ sym (any_less p (first n p) n (omega arith) (first_least n))
      ]

  pub first_below : (n a : ℕ) → a < n → p a ≡ true → first n p < n
  first_below n a l e = omega (arith, first_upto n a e)

  -- the position at which p holds, where there is one
  pub any_some : (n : ℕ) → any n p ≡ true → (a : ℕ) × (a < n) × (p a ≡ true)
  any_some n e = let h : first n p < n = any_first n e in (first n p, h, (first_is n).holds h)

  -- what follows from each position at which p holds
  pub any_elim : {R : Type 0} (n : ℕ) → any n p ≡ true → ((a : ℕ) → a < n → p a ≡ true → R) → R
  any_elim n h f = let (a, l, e) = any_some n h in f a l e

  -- p holds at a alone
  pub first_only : (n a : ℕ) → a < n → p a ≡ true → ((b : ℕ) → b < n → p b ≡ true → b ≡ a) → first n p ≡ a
  first_only n a h e f = let l : first n p < n = first_below n a h e in f (first n p) l ((first_is n).holds l)

  -- a search that goes on past n, where the test fails
  pub any_clip : (n m : ℕ) → n ≤ m → any m (λ b. ltb b n && p b) ≡ any n p
  unfolding any
  any_clip n m l = go (any n p) refl
    where
      at : (b : ℕ) → b < n → ltb b n && p b ≡ p b
      at b k = rw (lt-ltb b n k)

      go : (t : Bool) → any n p ≡ t → any m (λ b. ltb b n && p b) ≡ t
      go true e = let (b, k, h) = any_some n e in any_at (λ b. ltb b n && p b) m b (omega arith) (at b k ∙ h)
      go false e = clipped m
        where
          clipped : (m : ℕ) → any m (λ b. ltb b n && p b) ≡ false
          clipped zero = refl
          clipped (suc m) =
              rw (clipped m)
              (elim (dec_lt m n) [ yes h ↦ at m h ∙ any_not p n m h e | no g ↦ rw (le-ltb m n (omega arith)) ])

  -- from position a on is at a, or from the next on
  pub any_from : (s a : ℕ) → s ≡ a + 1 → (n : ℕ) → any n (λ c. leb a c && p c) ≡ any n (λ c. leb s c && p c) || ltb a n && p a
  unfolding any
  any_from s a e zero = rw (le-ltb a 0 (omega arith))
  any_from s a e (suc n) =
      rw (any_from s a e n)
      (elim (ℕ_discrete a n) [
        | yes q ↦
            rw (← q, le-ltb a a (omega arith), lt-ltb a (suc a) (omega arith), le-leb a a (omega arith), lt-leb s a (omega arith))
        | no o ↦
            elim (dec_lt a n) [
              | yes h ↦
                  rw (lt-ltb a n h, lt-ltb a (suc n) (omega arith), le-leb a n (omega arith), le-leb s n (omega arith))
                  (turned (any n (λ c. leb s c && p c)) (p a) (p n))
              | no g ↦ rw (le-ltb a n (omega arith), le-ltb a (suc n) (omega arith), lt-leb a n (omega arith), lt-leb s n (omega arith))
            ]
      ])
    where
      turned : (t u v : Bool) → (t || u) || v ≡ (t || v) || u
      turned true u v = refl
      turned false true true = refl
      turned false true false = refl
      turned false false true = refl
      turned false false false = refl

  -- a position below a passes the test exactly when the one that is found is below a
  pub found_before : (n : ℕ) → n ≤ none → (a : ℕ) → a ≤ n → ltb (found n p) a ≡ any a p
  unfolding found
  found_before n fits a l = go (ltb (first n p) n) refl
    where
      go : (b : Bool) → ltb (first n p) n ≡ b → ltb (found n p) a ≡ any a p
      go true h =
          rw h
          (elim (dec_lt (first n p) a) [
            | yes k ↦ lt-ltb (first n p) a k ∙ sym (any_at p a (first n p) k ((first_is n).holds (ltb-true (first n p) n h)))
            | no g ↦ le-ltb (first n p) a (omega arith) ∙ sym (any_less p (first n p) a (omega arith) (first_least n))
          ])
      go false h = rw h (le-ltb none a (omega arith) ∙ sym (any_less p n a l (sym (first_any n) ∙ h)))

  -- whether something is found says where the first position is
  pub found_nothing : (n : ℕ) → n ≤ none → found n p ≡ none → ltb (first n p) n ≡ false
  unfolding found
  found_nothing n fits = go (ltb (first n p) n) refl
    where
      go : (b : Bool) → ltb (first n p) n ≡ b → found n p ≡ none → ltb (first n p) n ≡ false
      go true e h = absurd (let z : ⊥ = omega (arith, ltb-true (first n p) n e, rw e at h) in z)
      go false e h = e

  pub found_something : (n : ℕ) → (found n p ≡ none → ⊥) → (first n p ≡ found n p) × (ltb (first n p) n ≡ true)
  unfolding found
  found_something n = go (ltb (first n p) n) refl
    where
      go : (b : Bool) → ltb (first n p) n ≡ b → (found n p ≡ none → ⊥) → (first n p ≡ found n p) × (ltb (first n p) n ≡ true)
      go true e h = (rw e, e)
      go false e h = absurd (h (rw e))

-- The latest write to a read's variable before the read: by a relation on positions, and in a list of positions.
use Prim.Native.Nat.{ℕ, zero, suc, ◌+◌, ◌<◌, ◌≤◌}
use native.Mathlib.Omega.{arith}
use mathlib.Core.Path.{◌≡◌, refl}
use mathlib.Core.List.{List}
use mathlib.Core.Bool.{Bool, true, false, not, ◌&&◌}
use mathlib.Mathlib.Data.Bool.Basic.{eq-false_of_not-eq-true}
use lib.ListN.{length, get_or}
use lib.Dec.{eqb, ltb}
use borrow.Author.Tests.{ltb-true, ltb-false, lt-ltb, not-true}
use Rattle.model.specs.Search.{any, first}
use Rattle.model.specs.Layout.{size, place}
use Rattle.model.specs.Rules.{rival, earlier, latest}
use Rattle.model.proofs.Search.{any_same, any_not, any_at, first_same, first_none, first_is, any_first, any_never, any_some, first_only}
use Rattle.model.proofs.Serial.Progress.{entry}
use Rattle.model.proofs.Bools.{both, asked}

module _ (B : ℕ → ℕ → Bool) (x : List ℕ) (a : ℕ) where
  -- b is a write to a's variable, before a by B
  abbrev pub earlier_by : ℕ → Bool
  earlier_by b = rival x a b && B b a

  -- and none of these is after b
  abbrev pub last : ℕ → Bool
  last b = earlier_by b && not (any (size x) (λ c. earlier_by c && B b c))

  -- the last write to a's variable before a; the section's size where there is none, which is the initial write
  unfoldable pub latest_by : ℕ
  latest_by = first (size x) last

  pub latest_upto : latest_by ≤ size x
  unfolding latest_by
  latest_upto = (first_is last (size x)).within

-- rule 17's write of largest place is the latest one by places
pub latest_place : (x : List ℕ) (a : ℕ) → latest x a ≡ latest_by (λ b c. ltb (place x b) (place x c)) x a
unfolding earlier latest latest_by
latest_place x a = refl

-- b stands before c in the list l
abbrev pub before : List ℕ → ℕ → ℕ → Bool
before l b c = ltb (entry l b) (entry l c)

-- the last write to a's variable that stands before a in l; the section's size where there is none
abbrev pub latest_in : List ℕ → List ℕ → ℕ → ℕ
latest_in x l = latest_by (before l) x

-- Two relations that agree between a's rivals, and from each rival to a
module _
    (B C : ℕ → ℕ → Bool) (x : List ℕ) (a : ℕ)
    (to : (b : ℕ) → b < size x → rival x a b ≡ true → B b a ≡ C b a)
    (between : (b c : ℕ) → b < size x → c < size x → rival x a b ≡ true → rival x a c ≡ true → B b c ≡ C b c)
  where
    earlier_same : (b : ℕ) → b < size x → earlier_by B x a b ≡ earlier_by C x a b
    earlier_same b h = asked (rival x a b) (B b a) (C b a) (to b h)

    last_same : (b : ℕ) → b < size x → last B x a b ≡ last C x a b
    last_same b h =
        cc (
          earlier_same b h,
          asked (earlier_by B x a b) (not (any (size x) (λ c. earlier_by B x a c && B b c))) (not (any (size x) (λ c. earlier_by C x a c && C b c)))
              (λ e. cc (any_same (λ c. earlier_by B x a c && B b c) (λ c. earlier_by C x a c && C b c) (size x) (same (both (rival x a b) (B b a) e).0))),
        )
      where
        same : rival x a b ≡ true → (c : ℕ) → c < size x → earlier_by B x a c && B b c ≡ earlier_by C x a c && C b c
        same r c k =
            cc (
              earlier_same c k,
              asked (earlier_by B x a c) (B b c) (C b c) (λ e. between b c h k r (both (rival x a c) (B c a) e).0),
            )

    pub latest_same : latest_by B x a ≡ latest_by C x a
    unfolding latest_by
    latest_same = first_same (last B x a) (last C x a) (size x) last_same

-- What it is to be the latest in a list
module _ (x l : List ℕ) (a : ℕ) where
  -- w is the last write to a's variable that stands before a
  pub record Last (w : ℕ) : Type 0 where
    pub within : w < size x
    pub writes : rival x a w ≡ true
    pub stands : entry l w < entry l a
    pub largest : (b : ℕ) → b < size x → rival x a b ≡ true → entry l b < entry l a → entry l b ≤ entry l w

  -- no write to a's variable stands before a
  abbrev pub Initial : Type 0
  Initial = (b : ℕ) → b < size x → rival x a b ≡ true → entry l a ≤ entry l b

  abbrev stands_before : ℕ → Bool
  stands_before = earlier_by (before l) x a

  abbrev stands_after : ℕ → ℕ → Bool
  stands_after w c = stands_before c && before l w c

  is_earlier : (b : ℕ) → stands_before b ≡ true → (rival x a b ≡ true) × (entry l b < entry l a)
  is_earlier b e =
      let t = both (rival x a b) (before l b a) e in (t.0, ltb-true (entry l b) (entry l a) t.1)

  earlier_is : (b : ℕ) → rival x a b ≡ true → entry l b < entry l a → stands_before b ≡ true
  earlier_is b r h = rw (r, lt-ltb (entry l b) (entry l a) h)

  last_is : (w : ℕ) → w < size x → last (before l) x a w ≡ true → Last w
  last_is w h e =
      let t = both (stands_before w) (not (any (size x) (stands_after w))) e in
      let none : any (size x) (stands_after w) ≡ false = not-true (any (size x) (stands_after w)) t.1 in
      record {
        within = h;
        writes = (is_earlier w t.0).0;
        stands = (is_earlier w t.0).1;
        largest = λ b k r s. ltb-false (entry l w) (entry l b) (rw (earlier_is b r s) at (any_not (stands_after w) (size x) b k none));
      }

  is_last : (w : ℕ) → Last w → last (before l) x a w ≡ true
  is_last w f =
      let none : any (size x) (stands_after w) ≡ false = any_never (stands_after w) (size x) (λ b k. eq-false_of_not-eq-true (later b k)) in
      rw (earlier_is w f.writes f.stands, none)
    where
      later : (b : ℕ) → b < size x → stands_after w b ≡ true → ⊥
      later b k e =
          let t = both (stands_before b) (before l w b) e in
          let s = is_earlier b t.0 in
          omega (arith, f.largest b k s.0 s.1, ltb-true (entry l w) (entry l b) t.1)

  -- a write before a is the last, or there is one that stands after it
  step : (b : ℕ) → b < size x → stands_before b ≡ true
      → ((c : ℕ) → c < size x → stands_before c ≡ true → entry l b < entry l c → any (size x) (last (before l) x a) ≡ true)
      → any (size x) (last (before l) x a) ≡ true
  step b h e f = go (any (size x) (stands_after b)) refl
    where
      go : (u : Bool) → any (size x) (stands_after b) ≡ u → any (size x) (last (before l) x a) ≡ true
      go true q =
          let (c, k, r) = any_some (stands_after b) (size x) q in
          let t = both (stands_before c) (before l b c) r in
          f c k t.0 (ltb-true (entry l b) (entry l c) t.1)
      go false q = any_at (last (before l) x a) (size x) b h (rw (e, q))

  climb : (k b : ℕ) → length l ≤ entry l b + k → b < size x → stands_before b ≡ true → any (size x) (last (before l) x a) ≡ true
  climb zero b m h e =
      step b h e (λ c k t s. absurd (let z : ⊥ = omega (arith, (first_is (λ i. eqb (get_or l i 0) c) (length l)).within) in z))
  climb (suc k) b m h e = step b h e (λ c j t s. climb k c (omega arith) j t)

  pub latest_last : latest_in x l a < size x → Last (latest_in x l a)
  unfolding latest_by
  latest_last h = last_is (latest_in x l a) h ((first_is (last (before l) x a) (size x)).holds h)

  pub latest_initial : latest_in x l a ≡ size x → Initial
  unfolding latest_by
  latest_initial e b h r =
      let z : entry l b < entry l a → ⊥ = λ s. omega (arith, e, any_first (last (before l) x a) (size x) (climb (length l) b (omega arith) h (earlier_is b r s))) in
      omega arith

  pub last_latest : ((b c : ℕ) → b < size x → c < size x → entry l b ≡ entry l c → b ≡ c) → (w : ℕ) → Last w → latest_in x l a ≡ w
  unfolding latest_by
  last_latest apart w f =
      first_only (last (before l) x a) (size x) w f.within (is_last w f)
      (λ b h e. let g = last_is b h e in apart b w h f.within (omega (arith, f.largest b h g.writes g.stands, g.largest w f.within f.writes f.stands)))

  pub initial_latest : Initial → latest_in x l a ≡ size x
  unfolding latest_by
  initial_latest f =
      first_none (last (before l) x a) (size x)
      (any_never (last (before l) x a) (size x) (λ b h. eq-false_of_not-eq-true (λ e. let g = last_is b h e in omega (arith, f b h g.writes, g.stands))))

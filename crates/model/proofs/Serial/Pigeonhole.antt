-- Counting by a map: as many positions as have images of their own are there at most, and where the images fill the numbers below a bound, each number is one.
use Prim.Native.Nat.{ℕ, zero, suc, ◌+◌, ◌<◌, ◌≤◌}
use native.Mathlib.Nat.{eq-or-lt_of_le}
use native.Mathlib.Omega.{arith}
use mathlib.Core.Path.{◌≡◌, refl, ap, ◌∙◌}
use mathlib.Core.Logic.{⊎_elim}
use mathlib.Core.Bool.{Bool, true, false, not, cond, ◌&&◌, and-true, and-eq-true_iff}
use lib.Dec.{eqb}
use borrow.Author.Tests.{eqb-true, eq-eqb, ne_eqb}
use Rattle.model.specs.Search.{any, first, count}
use Rattle.model.proofs.Search.{count_same, any_not}
use Rattle.model.proofs.Search.{first_is, any_first}

-- every position counts, or none does
pub count_all : (n : ℕ) → count n (λ a. true) ≡ n
unfolding count
count_all zero = refl
count_all (suc n) = rw (count_all n) (omega arith)

count_never : (n : ℕ) → count n (λ a. false) ≡ 0
unfolding count
count_never zero = refl
count_never (suc n) = rw (count_never n)

-- q with position c left out
abbrev without : (ℕ → Bool) → ℕ → ℕ → Bool
without q c j = q j && not (eqb j c)

without_other : (q : ℕ → Bool) (c j : ℕ) → (j ≡ c → ⊥) → without q c j ≡ q j
without_other q c j f = rw (ne_eqb j c f, and-true)

count_without : (q : ℕ → Bool) (m c : ℕ) → c < m → q c ≡ true → count m q ≡ suc (count m (without q c))
unfolding count
count_without q zero c l e = absurd (let z : ⊥ = omega arith in z)
count_without q (suc m) c l e =
    ⊎_elim (λ (r : c ≡ m). rw (← r, e, eq-eqb c c refl, count_same (without q c) q c (λ j k. without_other q c j (omega arith))) (omega arith))
    (λ (r : c < m). rw (count_without q m c r e, without_other q c m (omega arith)) (omega arith))
    (eq-or-lt_of_le (let z : c ≤ m = omega arith in z))

-- q holds at c and at no other position below m
pub count_one : (q : ℕ → Bool) (m c : ℕ) → c < m → q c ≡ true → ((j : ℕ) → j < m → q j ≡ true → j ≡ c) → count m q ≡ 1
count_one q m c l e f =
    count_without q m c l e ∙ ap suc (count_same (without q c) (λ j. false) m (λ j k. off j k (q j) refl) ∙ count_never m)
  where
    off : (j : ℕ) → j < m → (u : Bool) → q j ≡ u → u && not (eqb j c) ≡ false
    off j k true r = rw (eq-eqb j c (f j k r))
    off j k false r = refl

-- f maps the positions below n at which p holds to positions below m at which q holds, and no two to one
pub record Into (n : ℕ) (p : ℕ → Bool) (m : ℕ) (q : ℕ → Bool) (f : ℕ → ℕ) : Type 0 where
  pub within : (a : ℕ) → a < n → p a ≡ true → f a < m
  pub holds : (a : ℕ) → a < n → p a ≡ true → q (f a) ≡ true
  pub apart : (a b : ℕ) → a < n → b < n → p a ≡ true → p b ≡ true → f a ≡ f b → a ≡ b

pub count_into : (n : ℕ) (p : ℕ → Bool) (m : ℕ) (q : ℕ → Bool) (f : ℕ → ℕ) → Into n p m q f → count n p ≤ count m q
unfolding count
count_into zero p m q f h = omega arith
count_into (suc n) p m q f h = go (λ r i. count_into n p m r f i) (p n) refl
  where
    -- the positions below n, which map to what position n leaves
    rest : (r : ℕ → Bool) → ((a : ℕ) → a < n → p a ≡ true → r (f a) ≡ true) → Into n p m r f
    rest r g =
        record {
          within = λ a l. h.within a (omega arith);
          holds = g;
          apart = λ a b l k. h.apart a b (omega arith) (omega arith);
        }

    go : ((r : ℕ → Bool) → Into n p m r f → count n p ≤ count m r) → (u : Bool) → p n ≡ u → count n p + cond u 1 0 ≤ count m q
    go ih true e =
        let r : ℕ → Bool = without q (f n) in
        let g : (a : ℕ) → a < n → p a ≡ true → r (f a) ≡ true = λ a l k. without_other q (f n) (f a) (λ z. let w : a ≡ n = h.apart a n (omega arith) (omega arith) k e z in omega arith) ∙ h.holds a (omega arith) k in
        omega (arith, ih r (rest r g), count_without q m (f n) (h.within n (omega arith) e) (h.holds n (omega arith) e))
    go ih false e = omega (arith, ih q (rest q (λ a l. h.holds a (omega arith))))

-- f maps the positions below n at which p holds to the numbers below their count, no two to one: each of these numbers is an image
pub record Image (n : ℕ) (p : ℕ → Bool) (f : ℕ → ℕ) (d : ℕ) : Type 0 where
  pub at : ℕ
  pub below : at < n
  pub holds : p at ≡ true
  pub equal : f at ≡ d

pub image : (n : ℕ) (p : ℕ → Bool) (f : ℕ → ℕ) → Into n p (count n p) (λ j. true) f → (d : ℕ) → d < count n p → Image n p f d
image n p f h d l = go (any n hit) refl
  where
    hit : ℕ → Bool
    hit a = p a && eqb (f a) d

    -- d left out, there are fewer numbers than positions
    missed : any n hit ≡ false → Into n p (count n p) (without (λ j. true) d) f
    missed e =
        record {
          within = h.within;
          holds = λ a k q. let z : eqb (f a) d ≡ false = rw q at (any_not hit n a k e) in rw z;
          apart = h.apart;
        }

    go : (u : Bool) → any n hit ≡ u → Image n p f d
    go true e =
        let a : ℕ = first n hit in
        let k : a < n = any_first hit n e in
        let b : (p a ≡ true) × (eqb (f a) d ≡ true) = (and-eq-true_iff (p a) (eqb (f a) d)).0 ((first_is hit n).holds k) in
        record { at = a; below = k; holds = b.0; equal = eqb-true (f a) d b.1 }
    go false e =
        let m : ℕ = count n p in
        let few : m ≤ count m (without (λ j. true) d) = count_into n p m (without (λ j. true) d) f (missed e) in
        absurd (let z : ⊥ = omega (arith, count_without (λ j. true) m d l refl, count_all m) in z)

-- Laws of the answers: what a chain of checks comes to, which answers pass as a whole, and what an answer that passes says.
use Prim.Native.Nat.{ℕ, zero, suc, ◌+◌, ◌<◌, ◌≤◌}
use native.Mathlib.Numerals.{add-one}
use native.Mathlib.Nat.{eq-or-lt_of_le}
use native.Mathlib.Omega.{arith}
use mathlib.Core.Path.{◌≡◌, refl, sym, ap, ◌∙◌}
use mathlib.Core.Logic.{⊎_elim}
use mathlib.Core.Bool.{Bool, true, false}
use lib.Dec.{eqb}
use borrow.Author.Tests.{eq-eqb, ne_eqb, eqb-true, eqb-false, ltb-true, lt-ltb}
use Rattle.model.specs.declared.Answer.{Answer}
use Rattle.model.specs.Search.{any, first, found, none}
use Rattle.model.specs.Answers.{answer, pass, when, naming, rule, rule₂, up_to, ◌then◌}
use Rattle.model.proofs.Search.{found_none, found_something, found_at, found_same, any_same, any_at, any_first}

found_within : (p : ℕ → Bool) (n : ℕ) → (found n p ≡ none → ⊥) → found n p < n
found_within p n h = let (e, l) = found_something p n h in rw e at (ltb-true (first n p) n l)

-- a check that gives 0 hands over to the next; one that gives a number ends the chain
pub then_next : (r q : Answer) → r.n ≡ 0 → r then q ≡ q
then_next r q h = rw (◌then◌, eq-eqb r.n 0 h)

pub then_ends : (r q : Answer) → (r.n ≡ 0 → ⊥) → r then q ≡ r
then_ends r q h = rw (◌then◌, ne_eqb r.n 0 h)

pub then_assoc : (r q t : Answer) → (r then q) then t ≡ r then q then t
then_assoc r q t = go (eqb r.n 0) refl
  where
    go : (b : Bool) → eqb r.n 0 ≡ b → (r then q) then t ≡ r then q then t
    go true e =
        let h : r.n ≡ 0 = eqb-true r.n 0 e in
        ap (λ (k : Answer). k then t) (then_next r q h) ∙ sym (then_next r (q then t) h)
    go false e = simp (◌then◌, e)

module _ (f : ℕ → Answer) where
  pub up_to_more : (n : ℕ) → up_to (n + 1) f ≡ up_to n f then f n
  unfolding up_to
  up_to_more n = rw add-one

  -- nothing broken below n, and nothing at n
  pub up_to_pass : (n : ℕ) → up_to n f ≡ pass → f n ≡ pass → up_to (n + 1) f ≡ pass
  up_to_pass n h e = rw (up_to_more n, h) e

  -- nothing broken below a, and a number at a
  pub up_to_at : (n a : ℕ) → a < n → (up_to a f).n ≡ 0 → ((f a).n ≡ 0 → ⊥) → up_to n f ≡ f a
  unfolding up_to
  up_to_at zero a l h e = absurd (let z : ⊥ = omega arith in z)
  up_to_at (suc n) a l h e =
      ⊎_elim (λ (q : a ≡ n). rw (← q) (then_next (up_to a f) (f a) h))
      (λ (q : a < n). rw (up_to_at n a q h e) (then_ends (f a) (f n) e))
      (eq-or-lt_of_le (let z : a ≤ n = omega arith in z))

module _ (N s : ℕ) where
  pub naming_none : (a b : ℕ) → a ≡ none → naming N s a b ≡ pass
  naming_none a b h = rw (naming, eq-eqb a none h)

  pub naming_at : (a b : ℕ) → a < none → naming N s a b ≡ answer N s a b
  naming_at a b h = rw (naming, ne_eqb a none (λ e. omega arith))

  -- p holds nowhere below n; p holds at a and nowhere before
  module _ (n : ℕ) (p : ℕ → Bool) where
    pub rule_none : any n p ≡ false → rule N s n p ≡ pass
    unfolding rule
    rule_none h = naming_none (found n p) none (found_none p n h)

    pub rule_at : (a : ℕ) → n ≤ none → a < n → any a p ≡ false → p a ≡ true → rule N s n p ≡ answer N s a none
    unfolding rule
    rule_at a f l h e = rw (found_at p n a l h e) (naming_at a none (omega arith))

  pub rule_same : (n : ℕ) (p q : ℕ → Bool) → ((a : ℕ) → a < n → p a ≡ q a) → rule N s n p ≡ rule N s n q
  unfolding rule
  rule_same n p q h = rw (found_same p q n h)

  -- the same for a test of two positions: it holds between none below n; it holds between x and y, from no smaller x, and to no smaller y
  module _ (n : ℕ) (p : ℕ → ℕ → Bool) where
    pub rule₂_none : any n (λ x. any n (p x)) ≡ false → rule₂ N s n p ≡ pass
    unfolding rule₂
    rule₂_none h =
        let x = found n (λ x. any n (p x)) in naming_none x (found n (p x)) (found_none (λ x. any n (p x)) n h)

    pub rule₂_at : (x y : ℕ) → n ≤ none → x < n → y < n → any x (λ x. any n (p x)) ≡ false → any y (p x) ≡ false → p x y ≡ true → rule₂ N s n p ≡ answer N s x y
    unfolding rule₂
    rule₂_at x y f l m h i e =
        rw (found_at (λ x. any n (p x)) n x l h (any_at (p x) n y m e), found_at (p x) n y m i e)
        (naming_at x y (omega arith))

  pub rule₂_same : (n : ℕ) (p q : ℕ → ℕ → Bool) → ((x y : ℕ) → x < n → y < n → p x y ≡ q x y) → rule₂ N s n p ≡ rule₂ N s n q
  unfolding rule₂
  rule₂_same n p q h = rw (← same) (go (eqb x none) refl)
    where
      x : ℕ
      x = found n (λ x. any n (p x))

      same : x ≡ found n (λ x. any n (q x))
      same = found_same (λ x. any n (p x)) (λ x. any n (q x)) n (λ a l. any_same (p a) (q a) n (λ b. h a b l))

      go : (t : Bool) → eqb x none ≡ t → naming N s x (found n (p x)) ≡ naming N s x (found n (q x))
      go true e = simp (naming, e)
      go false e = ap (naming N s x) (found_same (p x) (q x) n (λ b. h x b (found_within (λ x. any n (p x)) n (eqb-false x none e))))

-- Answers that pass as a whole where they give 0: those that the chains are made of, and the chains
abbrev pub Clean : Answer → Type 0
Clean r = r.n ≡ 0 → r ≡ pass

pub clean_answer : (N s a b : ℕ) → 0 < N → Clean (answer N s a b)
clean_answer N s a b l h = absurd (let z : ⊥ = omega arith in z)

pub clean_then : (r q : Answer) → Clean r → Clean q → Clean (r then q)
clean_then r q f g = go (eqb r.n 0) refl
  where
    go : (b : Bool) → eqb r.n 0 ≡ b → Clean (r then q)
    go true e = rw (◌then◌, e) g
    go false e = rw (◌then◌, e) f

pub clean_when : (b : Bool) (r : Answer) → Clean r → Clean (when b r)
clean_when true r f = f
clean_when false r f = λ h. refl

pub clean_up_to : (f : ℕ → Answer) → ((a : ℕ) → Clean (f a)) → (n : ℕ) → Clean (up_to n f)
unfolding up_to
clean_up_to f g zero = λ h. refl
clean_up_to f g (suc n) = clean_then (up_to n f) (f n) (clean_up_to f g n) (g n)

pub clean_naming : (N s a b : ℕ) → 0 < N → Clean (naming N s a b)
clean_naming N s a b l = go (eqb a none) refl
  where
    go : (t : Bool) → eqb a none ≡ t → Clean (naming N s a b)
    go true e = rw (naming, e) (λ h. refl)
    go false e = rw (naming, e) (clean_answer N s a b l)

pub clean_rule : (N s n : ℕ) (p : ℕ → Bool) → 0 < N → Clean (rule N s n p)
unfolding rule
clean_rule N s n p l = clean_naming N s (found n p) none l

pub clean_rule₂ : (N s n : ℕ) (p : ℕ → ℕ → Bool) → 0 < N → Clean (rule₂ N s n p)
unfolding rule₂
clean_rule₂ N s n p l = let x = found n (λ x. any n (p x)) in clean_naming N s x (found n (p x)) l

-- a chain that gives 0 is made of checks that do
pub then_both : (r q : Answer) → (r then q).n ≡ 0 → (r.n ≡ 0) × (q.n ≡ 0)
then_both r q = go (eqb r.n 0) refl
  where
    go : (b : Bool) → eqb r.n 0 ≡ b → (r then q).n ≡ 0 → (r.n ≡ 0) × (q.n ≡ 0)
    go true e = rw (◌then◌, e) (λ h. (eqb-true r.n 0 e, h))
    go false e = rw (◌then◌, e) (λ h. absurd (eqb-false r.n 0 e h))

pub up_to_each : (f : ℕ → Answer) (n : ℕ) → (up_to n f).n ≡ 0 → (a : ℕ) → a < n → (f a).n ≡ 0
unfolding up_to
up_to_each f zero h a l = absurd (let z : ⊥ = omega arith in z)
up_to_each f (suc n) h a l =
    let both = then_both (up_to n f) (f n) h in
    ⊎_elim (λ (e : a ≡ n). rw e both.1) (λ (m : a < n). up_to_each f n both.0 a m)
    (eq-or-lt_of_le (let z : a ≤ n = omega arith in z))

pub when_not : (b : Bool) (N s : ℕ) → 0 < N → (when b (answer N s none none)).n ≡ 0 → b ≡ false
when_not true N s l h = absurd (let z : ⊥ = omega arith in z)
when_not false N s l h = refl

-- a search that gives 0 found nothing
naming_nowhere : (N s n : ℕ) (p : ℕ → Bool) (b : ℕ) → 0 < N → n ≤ none → (naming N s (found n p) b).n ≡ 0 → any n p ≡ false
unfolding found
naming_nowhere N s n p b pos fits h = go (any n p) refl
  where
    go : (t : Bool) → any n p ≡ t → any n p ≡ false
    go false e = e
    go true e =
        let l = any_first p n e in
        let at : found n p ≡ first n p = rw (lt-ltb (first n p) n l) in
        let given : naming N s (first n p) b ≡ answer N s (first n p) b = naming_at N s (first n p) b (omega arith) in
        let z : 0 ≡ N = sym h ∙ ap (λ (a : ℕ). (naming N s a b).n) at ∙ ap (λ (q : Answer). q.n) given in
        absurd (let w : ⊥ = omega arith in w)

pub rule_nowhere : (N s n : ℕ) (p : ℕ → Bool) → 0 < N → n ≤ none → (rule N s n p).n ≡ 0 → any n p ≡ false
unfolding rule
rule_nowhere N s n p pos fits h = naming_nowhere N s n p none pos fits h

pub rule₂_nowhere : (N s n : ℕ) (p : ℕ → ℕ → Bool) → 0 < N → n ≤ none → (rule₂ N s n p).n ≡ 0 → any n (λ x. any n (p x)) ≡ false
unfolding rule₂
rule₂_nowhere N s n p pos fits h =
    naming_nowhere N s n (λ x. any n (p x)) (found n (p (found n (λ x. any n (p x))))) pos fits h

-- One pass that keeps the best candidate so far comes to the first candidate that none is better than.
use Prim.Native.Nat.{ℕ, ◌+◌, ◌<◌}
use native.Mathlib.Numerals.{add-one}
use native.Mathlib.Omega.{arith}
use mathlib.Core.Path.{◌≡◌, refl, sym, ap, ◌∙◌}
use mathlib.Core.Logic.{◌⊎◌, inl, inr, ⊎_elim}
use mathlib.Core.Bool.{Bool, true, false, not, ◌&&◌, true≢false}
use lib.Dec.{ltb, leb}
use borrow.Author.Tests.{ltb-true, ltb-false, lt-ltb, le-ltb}
use Rattle.model.specs.Search.{any, found, none}
use Rattle.model.proofs.Search.{any_none, any_pass, any_at, any_not, any_never, found_none, found_at}

-- A pass over candidates by their places. It keeps the best, m, and a bound v, by which `test v i` says whether i is better; it starts at the bound `start`, and m's own is `key m`
pub record Pass : Type 0 where
  pub candidate : ℕ → Bool
  pub better : ℕ → ℕ → Bool
  pub test : ℕ → ℕ → Bool
  pub start : ℕ
  pub key : ℕ → ℕ
  pub keyed : (i m : ℕ) → test (key m) i ≡ better i m
  pub alone : (a : ℕ) → better a a ≡ false
  pub one_way : (a b : ℕ) → better a b ≡ true → better b a ≡ false
  pub over : (a b c : ℕ) → better a b ≡ true → better c b ≡ false → better a c ≡ true

-- the least place is best: the bound is the best's place
abbrev pub least_pass : (ℕ → Bool) → (ℕ → ℕ) → ℕ → Pass
least_pass p f start = record {
  candidate = p;
  better = λ a b. ltb (f a) (f b);
  test = λ v i. ltb (f i) v;
  start = start;
  key = f;
  keyed = λ i m. refl;
  alone = λ a. le-ltb (f a) (f a) (omega arith);
  one_way = λ a b h. le-ltb (f b) (f a) (omega (arith, ltb-true (f a) (f b) h));
  over = λ a b c h k. lt-ltb (f a) (f c) (omega (arith, ltb-true (f a) (f b) h, ltb-false (f c) (f b) k));
}

-- the largest place is best: the bound is the place after the best's
abbrev pub largest_pass : (ℕ → Bool) → (ℕ → ℕ) → ℕ → Pass
largest_pass p f start = record {
  candidate = p;
  better = λ a b. ltb (f b) (f a);
  test = λ v i. leb v (f i);
  start = start;
  key = λ m. f m + 1;
  keyed = λ i m. rw add-one;
  alone = λ a. le-ltb (f a) (f a) (omega arith);
  one_way = λ a b h. le-ltb (f a) (f b) (omega (arith, ltb-true (f b) (f a) h));
  over = λ a b c h k. lt-ltb (f c) (f a) (omega (arith, ltb-true (f b) (f a) h, ltb-false (f b) (f c) k));
}

-- p && q fails where p holds only if q does
but : (p q : Bool) → (p ≡ true → q ≡ false) → p && q ≡ false
but true q f = f refl
but false q f = refl

fails : (p q : Bool) → (p ≡ true → q ≡ true) → p && q ≡ false → p ≡ false
fails true q f h = sym (f refl) ∙ h
fails false q f h = refl

clash : {A : Type 0} (b : Bool) → b ≡ true → b ≡ false → A
clash b h k = absurd (true≢false (sym h ∙ k))

module _ (s : Pass) where
  open s use {candidate, better, test, start, key, keyed, alone, one_way, over}

  -- what the rules ask of b among the first n
  abbrev pub best : ℕ → ℕ → Bool
  best n b = candidate b && not (any n (λ c. candidate c && better c b))

  -- better than m, among the candidates
  abbrev beats : ℕ → ℕ → Bool
  beats m c = candidate c && better c m

  module _ (no : ℕ) where
    -- after i positions: no candidate, or m is the best and better than each before it
    abbrev pub Kept : ℕ → ℕ → ℕ → Type 0
    Kept i m v =
        ((m ≡ no) × (v ≡ start) × (any i candidate ≡ false))
        ⊎ ((m < i) × (candidate m ≡ true) × (v ≡ key m) × (any i (beats m) ≡ false)
        × ((c : ℕ) → c < m → candidate c ≡ true → better m c ≡ true))

    pub kept_none : Kept 0 no start
    kept_none = inl (refl, refl, any_none candidate)

    module _ (i m v : ℕ) (k : Kept i m v) where
      pub kept_take : candidate i ≡ true → test v i ≡ true → Kept (i + 1) i (key i)
      kept_take h t = inr (omega arith, h, refl, any_pass (beats i) i (any_never (beats i) i below) (but (candidate i) (better i i) (λ e. alone i)), above)
        where
          above : (c : ℕ) → c < i → candidate c ≡ true → better i c ≡ true
          above c l e =
              ⊎_elim (λ w. clash (candidate c) e (any_not candidate i c l w.2))
              (λ w. over i m c (sym (keyed i m) ∙ ap (λ (u : ℕ). test u i) (sym w.2) ∙ t) (rw e at (any_not (beats m) i c l w.3)))
              k

          below : (c : ℕ) → c < i → beats i c ≡ false
          below c l = but (candidate c) (better c i) (λ e. one_way i c (above c l e))

      pub kept_keep : (candidate i ≡ true → test start i ≡ true) → candidate i && test v i ≡ false → Kept (i + 1) m v
      kept_keep free h =
          ⊎_elim
          (λ w. inl (w.0, w.1, any_pass candidate i w.2 (fails (candidate i) (test v i) (rw w.1 free) h)))
          (λ w.
          inr (
            omega arith,
            w.1,
            w.2,
            any_pass (beats m) i w.3 (ap (◌&&◌ (candidate i)) (sym (keyed i m) ∙ ap (λ (u : ℕ). test u i) (sym w.2)) ∙ h),
            w.4,
          ))
          k

    -- after all n: there is no best, or m is the first
    pub searched : (n m v : ℕ) → Kept n m v → ((m ≡ no) × (any n (best n) ≡ false)) ⊎ ((m < n) × (any m (best n) ≡ false) × (best n m ≡ true))
    searched n m v k =
        ⊎_elim (λ w. inl (w.0, any_never (best n) n (λ b l. rw (any_not candidate n b l w.2))))
        (λ w.
        inr (
          w.0,
          any_never (best n) m
              (λ c l.
              but (candidate c) (not (any n (beats c)))
              (λ e. rw (any_at (beats c) n m w.0 (rw w.1 (w.4 c l e))))),
          rw (w.1, w.3),
        ))
        k

  pub kept_found : (n m v : ℕ) → Kept none n m v → found n (best n) ≡ m
  kept_found n m v k =
      ⊎_elim (λ w. found_none (best n) n w.1 ∙ sym w.0)
      (λ w. found_at (best n) n m w.0 w.1 w.2)
      (searched none n m v k)

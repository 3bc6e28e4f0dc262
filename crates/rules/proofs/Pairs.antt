-- 31: the least pair in the list of the plain accesses is the least that races.
use Prim.Native.Nat.{ℕ, zero, suc, ◌+◌, ◌<◌, ◌≤◌}
use native.Mathlib.Numerals.{add-one}
use native.Mathlib.Nat.{eq-or-lt_of_le}
use native.Mathlib.Omega.{arith}
use mathlib.Core.Path.{◌≡◌, refl, sym, ap, ◌∙◌}
use mathlib.Core.Logic.{⊎_elim}
use mathlib.Core.Bool.{Bool, true, false, not, cond, ◌&&◌, ◌||◌, and_assoc, and-false}
use mathlib.Core.List.{List, [], ◌∷◌, ◌++◌}
use lib.Dec.{eqb, leb, ltb}
use lib.ListN.{length, drop}
use borrow.Author.Tests.{le-leb, lt-leb}
use Rattle.std.specs.Prelude.{Some, None}
use Rattle.std.specs.List.{find, filter}
use Rattle.model.specs.Limits.{max_actions}
use Rattle.model.specs.Search.{any, first, none, below, found₂}
use Rattle.model.specs.Answers.{checked, named₂}
use Rattle.model.specs.Layout.{size, target, write}
use Rattle.model.specs.Relations.{plain, race}
use Rattle.model.specs.Rules.{racing}
use Rattle.model.proofs.Search.{any_none, any_pass, any_never, any_first, first_same, first_none}
use Rattle.model.proofs.Answers.{rule₂_same}
use Rattle.positions.specs.Lists.{positions}
use Rattle.positions.proofs.Listing.{positions_same, find_listed}
use Rattle.model.proofs.Options.{below_some, below_none, pair_none, pair_first}
use Rattle.model.proofs.Checks.{checked_rule₂}
use Rattle.rules.specs.Searches.{meets, races, least_pair}

-- the positions from a on at which q holds
abbrev from : (ℕ → Bool) → ℕ → ℕ → Bool
from q a b = leb a b && q b

module _ (q : ℕ → Bool) where
  from_past : (n a : ℕ) → n ≤ a → positions (from q a) n ≡ []
  unfolding positions
  from_past zero a h = refl
  from_past (suc n) a h = rw (from_past n a (omega arith), lt-leb a n (omega arith)) refl

  -- a stands before those after it, if it is one
  from_next : (n a : ℕ) → a < n → positions (from q a) n ≡ cond (q a) (a ∷ positions (from q (suc a)) n) (positions (from q (suc a)) n)
  unfolding positions
  from_next zero a h = absurd (let z : ⊥ = omega arith in z)
  from_next (suc n) a h =
      ⊎_elim
      (λ (e : a ≡ n).
      rw (from_past n a (omega arith), from_past n (suc a) (omega arith), e, le-leb n n (omega arith), lt-leb (suc n) n (omega arith))
      refl)
      (λ (l : a < n).
      rw (from_next n a l, le-leb a n (omega arith), le-leb (suc a) n (omega arith))
      (go (q a) (positions (from q (suc a)) n) (cond (q n) (n ∷ []) [])))
      (eq-or-lt_of_le (let z : a ≤ n = omega arith in z))
    where
      go : (b : Bool) (l m : List ℕ) → cond b (a ∷ l) l ++ m ≡ cond b (a ∷ (l ++ m)) (l ++ m)
      go true l m = refl
      go false l m = refl

-- what the code tests
pub met_are :
    (h : ℕ → ℕ → Bool) (x : List ℕ) (a : ℕ) (l : List ℕ) {v : ℕ} → v ≡ target x a →
    find (λ b. eqb v (target x b) && (not (h a b) && not (h b a))) l ≡ find (meets h x a) l
unfolding meets
met_are h x a l e = rw e refl

-- a write meets any, and a read the writes alone
module _ (h : ℕ → ℕ → Bool) (x : List ℕ) (a : ℕ) where
  races_meets : (b : ℕ) → races h x a b ≡ (write x a || write x b) && meets h x a b
  unfolding races meets
  races_meets b = middle (eqb (target x a) (target x b)) (write x a || write x b) (not (h a b) && not (h b a))
    where
      middle : (p q r : Bool) → p && q && r ≡ q && (p && r)
      middle true true r = refl
      middle true false r = refl
      middle false true r = refl
      middle false false r = refl

  pub raced_write : write x a ≡ true → (l : List ℕ) → find (meets h x a) l ≡ find (races h x a) l
  raced_write w [] = refl
  raced_write w (b ∷ l) = rw (races_meets b, w, raced_write w l) refl

  pub raced_read : write x a ≡ false → (l : List ℕ) → find (meets h x a) (filter (write x) l) ≡ find (races h x a) l
  raced_read w [] = refl
  raced_read w (b ∷ l) = rw (races_meets b, w) (go (raced_read w l) (write x b))
    where
      go :
          find (meets h x a) (filter (write x) l) ≡ find (races h x a) l →
          (t : Bool) → find (meets h x a) (cond t (b ∷ filter (write x) l) (filter (write x) l)) ≡ cond (t && meets h x a b) (Some b) (find (races h x a) l)
      go rest true = rw rest refl
      go rest false = rest

-- the writes behind a, of those from a on
pub behind_filter :
    (x : List ℕ) {a : ℕ} {later rest from_a behind_a : List ℕ} → behind_a ≡ drop (cond (write x a) 1 0) from_a → from_a ≡ filter (write x) rest → rest ≡ a ∷ later →
    behind_a ≡ filter (write x) later
behind_filter x {a} {later} d e r = d ∙ ap (drop (cond (write x a) 1 0)) (e ∙ ap (filter (write x)) r) ∙ go (write x a)
  where
    go : (t : Bool) → drop (cond t 1 0) (cond t (a ∷ filter (write x) later) (filter (write x) later)) ≡ filter (write x) later
    go true = refl
    go false = refl

-- the first entry has a later one, or not
module _ (t : ℕ → ℕ → Bool) (a : ℕ) (l : List ℕ) where
  pub pair_here : {b : ℕ} → find (t a) l ≡ Some b → least_pair t (a ∷ l) ≡ Some (a, b)
  unfolding least_pair
  pair_here h = rw (h, least_pair) refl

  pub pair_later : find (t a) l ≡ None → least_pair t (a ∷ l) ≡ least_pair t l
  unfolding least_pair
  pair_later h = rw (h, least_pair) refl

pub pair_nowhere : (t : ℕ → ℕ → Bool) (l : List ℕ) → length l ≡ 0 → least_pair t l ≡ None
unfolding least_pair
pair_nowhere t [] h = refl
pair_nowhere t (a ∷ l) h = absurd (let z : ⊥ = omega arith in z)

module _ (q : ℕ → Bool) (t : ℕ → ℕ → Bool) (n : ℕ) (few : n ≤ none) where
  abbrev pair : ℕ → ℕ → Bool
  pair a b = ltb a b && (q a && (q b && t a b))

  unpaired : (a : ℕ) → q a ≡ false → any n (pair a) ≡ false
  unpaired a h = any_never (pair a) n (λ b u. rw h (and-false (ltb a b)))

  finds : (a : ℕ) → q a ≡ true → find (t a) (positions (from q (suc a)) n) ≡ below n (first n (pair a))
  finds a h =
      find_listed (from q (suc a)) (t a) n refl refl
      ∙ ap (below n) (first_same _ _ n (λ b u. rw h (and_assoc (ltb a b) (q b) (t a b))))

  least_from : (d a : ℕ) → a + d ≡ n → any a (λ x. any n (pair x)) ≡ false → least_pair t (positions (from q a) n) ≡ found₂ n pair
  least_from zero a e h = rw (from_past q n a (omega arith), pair_nowhere t [] refl) (pair_none n pair (let z : a ≡ n = omega arith in rw z at h))
  least_from (suc d) a e h = rw (from_next q n a (omega arith)) (go (λ k. least_from d (suc a) (omega arith) k) (q a) refl)
    where
      rest : List ℕ
      rest = positions (from q (suc a)) n

      go :
          (any (suc a) (λ x. any n (pair x)) ≡ false → least_pair t rest ≡ found₂ n pair) → (b : Bool) → q a ≡ b →
          least_pair t (cond b (a ∷ rest) rest) ≡ found₂ n pair
      go more false k = more (rw add-one at (any_pass (λ x. any n (pair x)) a h (unpaired a k)))
      go more true k = chosen (any n (pair a)) refl
        where
          chosen : (b : Bool) → any n (pair a) ≡ b → least_pair t (a ∷ rest) ≡ found₂ n pair
          chosen true z =
              pair_here t a rest (finds a k ∙ below_some (any_first (pair a) n z))
              ∙ pair_first n pair few a (omega arith) h z
          chosen false z =
              pair_later t a rest (finds a k ∙ rw (first_none (pair a) n z) (below_none (omega arith)))
              ∙ more (rw add-one at (any_pass (λ x. any n (pair x)) a h z))

pub least_is : (q : ℕ → Bool) (t : ℕ → ℕ → Bool) (n : ℕ) → n ≤ none → least_pair t (positions q n) ≡ found₂ n (λ a b. ltb a b && (q a && (q b && t a b)))
least_is q t n few = ap (least_pair t) (positions_same (λ b. rw (le-leb 0 b (omega arith)) refl) n) ∙ least_from q t n few n 0 (omega arith) (any_none _)

-- the six tests of a race, as the code makes them
grouped : (p q r s u v : Bool) → p && q && r && s && u && v ≡ p && (q && (r && s && (u && v)))
grouped false q r s u v = refl
grouped true false r s u v = refl
grouped true true false s u v = refl
grouped true true true false u v = refl
grouped true true true true u v = refl

pub least_races :
    (h : ℕ → ℕ → Bool) (x : List ℕ) → size x ≤ max_actions →
    named₂ 31 0 (least_pair (races h x) (positions (plain x) (size x))) ≡ checked (racing h x)
unfolding racing race races
least_races h x few =
    checked_rule₂ 31 0 (size x) _ (omega arith) (least_is (plain x) (races h x) (size x) (omega arith)) refl
    ∙ ap checked (rule₂_same 31 0 (size x) _ _ (λ a b u v. ap (λ (z : Bool). ltb a b && z) (sym (grouped (plain x a) (plain x b) _ _ _ _))))

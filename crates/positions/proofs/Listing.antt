-- The positions at which something holds, as a list: what a walk over the list, or a chain, comes to in the searches of the model.
use Prim.Native.Nat.{ℕ, zero, suc, ◌+◌, ◌<◌, ◌≤◌}
use native.Mathlib.Numerals.{add-one}
use native.Mathlib.Nat.{eq-or-lt_of_le}
use native.Mathlib.Omega.{arith}
use mathlib.Core.Path.{◌≡◌, refl, sym, ap, ◌∙◌}
use mathlib.Core.Logic.{⊎_elim}
use mathlib.Core.Bool.{Bool, true, false, cond, ◌&&◌, ◌||◌, or-false}
use mathlib.Core.List.{List, [], ◌∷◌, ◌++◌}
use lib.Dec.{leb, ltb}
use lib.ListN.{length, get_or, take}
use Rattle.std.specs.List.{find, filter, list_any, count_by}
use Rattle.std.proofs.lemmas.List.Elements.{filter-append}
use Rattle.std.proofs.lemmas.List.Folds.{list_any-append, find-append}
use borrow.Author.Tests.{leb-true, le-leb, ltb-true, ltb-false}
use Rattle.std.proofs.lemmas.List.Sums.{sum_by-append}
use Rattle.std.proofs.lemmas.List.{length-append, get_or_append_left, take-append-le}
use lib.Seq.{get_or-append_seam, take-append_seam}
use native.Mathlib.Decide.{dec_lt}
use Rattle.std.specs.Option.{option_or}
use Rattle.std.proofs.Common.{Option}
use Rattle.model.specs.Limits.{max_actions}
use Rattle.model.specs.Layout.{size}
use Rattle.model.proofs.Options.{below_some, below_none}
use Rattle.model.specs.Search.{any, first, count, below}
use Rattle.positions.specs.Lists.{of_kinds, positions, within, listed}

append_none : {A : Type 0} (l : List A) → l ++ [] ≡ l
append_none [] = refl
append_none (x ∷ l) = ap (λ m. x ∷ m) (append_none l)

module _ (q : ℕ → Bool) where
  -- a listed position before n stands before the end of the list of those below n
  pub count_lt : (n b : ℕ) → b < n → q b ≡ true → count b q < count n q
  unfolding count
  count_lt zero b l e = absurd (let z : ⊥ = omega arith in z)
  count_lt (suc n) b l e =
      ⊎_elim (λ (z : b ≡ n). rw (← z, e) (omega arith))
      (λ (z : b < n). let h : count b q < count n q = count_lt n b z e in omega arith)
      (eq-or-lt_of_le (let z : b ≤ n = omega arith in z))

  pub positions_none : positions q 0 ≡ []
  unfolding positions
  positions_none = refl

  -- one position more
  pub positions_in : (n : ℕ) → q n ≡ true → positions q (n + 1) ≡ positions q n ++ n ∷ []
  unfolding positions
  positions_in n e = rw (add-one, e) refl

  pub positions_out : (n : ℕ) → q n ≡ false → positions q (n + 1) ≡ positions q n
  unfolding positions
  positions_out n e = rw (add-one, e) (append_none (positions q n))

  pub length_positions : (n : ℕ) → length (positions q n) ≤ n
  unfolding positions
  length_positions zero = omega arith
  length_positions (suc n) = go (q n) (length_positions n)
    where
      go : (b : Bool) → length (positions q n) ≤ n → length (positions q n ++ cond b (n ∷ []) []) ≤ suc n
      go true h = rw (length-append (positions q n) (n ∷ [])) (omega arith)
      go false h = rw (append_none (positions q n)) (omega arith)

-- the same positions
pub positions_same : {q p : ℕ → Bool} → ((b : ℕ) → q b ≡ p b) → (n : ℕ) → positions q n ≡ positions p n
unfolding positions
positions_same is zero = refl
positions_same is (suc n) = rw (positions_same is n, is n) refl

-- of those positions, those that pass a test
pub positions_filter : (q p : ℕ → Bool) (n : ℕ) → positions (λ b. q b && p b) n ≡ filter p (positions q n)
unfolding positions
positions_filter q p zero = refl
positions_filter q p (suc n) = rw (positions_filter q p n, filter-append p (positions q n) (cond (q n) (n ∷ []) [])) (ap (λ l. filter p (positions q n) ++ l) (go (q n)))
  where
    go : (b : Bool) → cond (b && p n) (n ∷ []) [] ≡ filter p (cond b (n ∷ []) [])
    go true = refl
    go false = refl

-- the list of a set of kinds, of which `is` says what it is in the model's words (proofs/Sets.antt)
pub is_listed : (x : List ℕ) (s : ℕ) {p : ℕ → Bool} → ((b : ℕ) → of_kinds x s b ≡ p b) → size x ≤ max_actions → listed x s ≡ positions p (size x)
unfolding listed
is_listed x s is h = rw (le-leb (size x) max_actions h) (positions_same is (size x))

pub within_fits : (x : List ℕ) → within x ≤ max_actions
within_fits x = go (leb (size x) max_actions) refl
  where
    go : (b : Bool) → leb (size x) max_actions ≡ b → cond b (size x) 0 ≤ max_actions
    go true e = leb-true (size x) max_actions e
    go false e = omega arith

module _ (q test : ℕ → Bool) where
  abbrev admitted : ℕ → Bool
  admitted b = q b && test b

  -- the last position by itself
  tail : ℕ → List ℕ
  tail n = cond (q n) (n ∷ []) []

  any_positions : (n : ℕ) → list_any test (positions q n) ≡ any n admitted
  unfolding positions any tail
  any_positions zero = refl
  any_positions (suc n) = rw (list_any-append test (positions q n) (tail n), any_positions n) (ap (λ t. any n admitted || t) (go (q n)))
    where
      go : (b : Bool) → list_any test (cond b (n ∷ []) []) ≡ b && test n
      go true = or-false (test n)
      go false = refl

  first_more : (n : ℕ) → first (suc n) admitted ≡ cond (ltb (first n admitted) n) (first n admitted) (cond (q n && test n) n (suc n))
  unfolding first
  first_more n = refl

  -- where none before is admitted, the last position is looked at
  find_last : (n : ℕ) (b : Bool) → q n ≡ b → (c : Bool) → test n ≡ c → find test (cond b (n ∷ []) []) ≡ below (suc n) (cond (b && c) n (suc n))
  find_last n true e true h = rw h (sym (below_some (omega arith)))
  find_last n true e false h = rw h (sym (below_none (omega arith)))
  find_last n false e c h = sym (below_none (omega arith))

  find_positions : (n : ℕ) → find test (positions q n) ≡ below n (first n admitted)
  unfolding positions first
  find_positions zero = sym (below_none (omega arith))
  find_positions (suc n) =
      find-append test (positions q n) (cond (q n) (n ∷ []) []) ∙ rw (find_positions n, first_more n) (go (ltb (first n admitted) n) refl)
    where
      go : (b : Bool) → ltb (first n admitted) n ≡ b → option_or (below n (first n admitted)) (find test (cond (q n) (n ∷ []) [])) ≡ below (suc n) (cond b (first n admitted) (cond (q n && test n) n (suc n)))
      go true e = let l : first n admitted < n = ltb-true (first n admitted) n e in rw (below_some l) (sym (below_some (omega arith)))
      go false e = let l : n ≤ first n admitted = ltb-false (first n admitted) n e in rw (below_none l) (find_last n (q n) refl (test n) refl)

  count_positions : (n : ℕ) → count_by test (positions q n) ≡ count n admitted
  unfolding positions count tail
  count_positions zero = refl
  count_positions (suc n) =
      sum_by-append (λ b. cond (test b) 1 0) (positions q n) (tail n) ∙ rw (count_positions n) (ap (λ t. count n admitted + t) (go (q n)))
    where
      go : (b : Bool) → count_by test (cond b (n ∷ []) []) ≡ cond (b && test n) 1 0
      go true = omega arith
      go false = refl

  -- entry k of the list is a position that is listed, and those before it stand before it
  pub positions_at : (n k : ℕ) → k < length (positions q n) → (get_or (positions q n) k 0 < n) × (q (get_or (positions q n) k 0) ≡ true) × (take k (positions q n) ≡ positions q (get_or (positions q n) k 0))
  unfolding positions
  positions_at zero k l = absurd (let z : ⊥ = omega arith in z)
  positions_at (suc n) k l = go (λ u. positions_at n k u) (q n) refl l
    where
      go : (k < length (positions q n) → (get_or (positions q n) k 0 < n) × (q (get_or (positions q n) k 0) ≡ true) × (take k (positions q n) ≡ positions q (get_or (positions q n) k 0))) → (b : Bool) → q n ≡ b → k < length (positions q n ++ cond b (n ∷ []) []) → (get_or (positions q n ++ cond b (n ∷ []) []) k 0 < suc n) × (q (get_or (positions q n ++ cond b (n ∷ []) []) k 0) ≡ true) × (take k (positions q n ++ cond b (n ∷ []) []) ≡ positions q (get_or (positions q n ++ cond b (n ∷ []) []) k 0))
      go rest true e h =
          elim (dec_lt k (length (positions q n))) [
            | yes u ↦
                let z : _ = rest u in
                rw (get_or_append_left (positions q n) (n ∷ []) 0 k u, take-append-le k (positions q n) (n ∷ []) (omega arith)) (omega (arith, z.0), z.1, z.2)
            | no u ↦
                let d : k ≡ length (positions q n) = omega (arith, rw (length-append (positions q n) (n ∷ [])) at h) in
                rw (d, get_or-append_seam (positions q n) n [] 0, take-append_seam (positions q n) (n ∷ [])) (omega arith, e, refl)
          ]
      go rest false e h =
          let z : _ = rest (rw (append_none (positions q n)) at h) in rw (append_none (positions q n)) (omega (arith, z.0), z.1, z.2)

-- A chain over such a list, of which l is what the code got
module _ (q test : ℕ → Bool) (n : ℕ) {l : List ℕ} (e : l ≡ positions q n) where
  pub any_listed : {r : Bool} → r ≡ list_any test l → r ≡ any n (λ b. q b && test b)
  any_listed h = h ∙ rw e (any_positions q test n)

  pub find_listed : {r : Option ℕ} → r ≡ find test l → r ≡ below n (first n (λ b. q b && test b))
  find_listed h = h ∙ rw e (find_positions q test n)

  pub count_listed : {r : ℕ} → r ≡ count_by test l → r ≡ count n (λ b. q b && test b)
  count_listed h = h ∙ rw e (count_positions q test n)

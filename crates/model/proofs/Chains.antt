-- Chains over positions: what `any` and `find` over a range, or over a list of positions, come to in the searches of the model.
use Prim.Native.Nat.{ℕ, ◌<◌, ◌≤◌}
use native.Mathlib.Omega.{arith}
use mathlib.Core.Path.{◌≡◌, refl, sym, ap, ◌∙◌}
use mathlib.Core.Bool.{Bool, true, false, ◌&&◌}
use lib.ListN.{length}
use mathlib.Core.List.{List}
use lib.Dec.{leb}
use borrow.Author.Tests.{le-leb, lt-leb}
use native.Mathlib.Decide.{dec_le}
use denote.Param.Members.{Mut}
use denote.Ref.{Bor}
use Rattle.std.specs.Prelude.{Option, Some, None}
use Rattle.std.specs.declared.ops.Range.{Range}
use Rattle.std.specs.Bool.{⊤, MatchBool}
use Rattle.std.specs.Fn.{Called, CalledAt}
use Rattle.std.specs.Option.{MatchOption}
use Rattle.std.specs.Iterator.{YieldsThen}
use Rattle.std.specs.List.{FoldsTo, range_with_len, slice_index_or, HoldsAt, AllWithin}
use Rattle.std.proofs.iter.Yields.{nat_range_steps}
use Rattle.std.proofs.lemmas.Iterator.{YieldsList-from_range, cases_from_any, first_from_Range}
use Rattle.std.proofs.lemmas.List.FromFn.{length-range_with_len, get_or-range_with_len}
use Rattle.model.specs.Search.{any, first, found, none, position, below}
use Rattle.model.proofs.Search.{any_at, any_never, first_none, first_at}
use Rattle.model.proofs.Options.{position_never, position_at, below_some, below_none}

-- The number at place k of those below m is k.
counted : (m k : ℕ) → k < m → slice_index_or (range_with_len 0 m) k 0 ≡ k
counted m k l = get_or-range_with_len 0 m k 0 l ∙ (omega arith)

shorter : {m k : ℕ} → k < length (range_with_len 0 m) → k < m
shorter {m} {k} l = let e : length (range_with_len 0 m) ≡ m = length-range_with_len 0 m in omega arith

module _ (p : ℕ → Bool) {m n : ℕ} (d : m ≡ n) where
  some_below : (r : Bool) → MatchBool r ((k : ℕ) × (k < length (range_with_len 0 m)) × HoldsAt (λ x. true ≡ p x) (range_with_len 0 m) k) (AllWithin (λ x. false ≡ p x) (range_with_len 0 m) 0 (length (range_with_len 0 m))) → r ≡ any n p
  some_below true z =
      let l : z.0 < m = shorter z.1 in
      let h : true ≡ p z.0 = z.2 0 ∙ ap p (counted m z.0 l) in sym (any_at p n z.0 (omega arith) (sym h))
  some_below false z =
      sym (any_never p n (λ k l.
      let e : length (range_with_len 0 m) ≡ m = length-range_with_len 0 m in
      let h : k < m = omega arith in sym (z k 0 (omega arith) (omega arith) ∙ ap p (counted m k h))))

  least_below : (r : Option ℕ) → MatchOption r ((k : ℕ) → 0 ≤ k → k < m → false ≡ p k) (λ i. (0 ≤ i) × (i < m) × (true ≡ p i) × ((k : ℕ) → 0 ≤ k → k < i → false ≡ p k)) → n ≤ none → r ≡ position (found n p)
  least_below None z l = position_never p n (λ k h. sym (z k (omega arith) (omega arith)))
  least_below (Some i) z l =
      position_at p n i (omega arith) (omega arith) (any_never p i (λ k h. sym (z.3 k (omega arith) h))) (sym z.2)

module _ {F : Type 0} {g : Mut F (ℕ × Unit {0}) Bool} {s u : Range ℕ} {f : F} {r : Bool} where
  pub any_below : {m n : ℕ} {p : ℕ → Bool} → s ≡ record { start = 0; end = m } → m ≡ n
      → ((xs : List ℕ) × (o : Option ℕ) × (j : F) × YieldsThen nat_range_steps s xs o u × FoldsTo (λ p x q. Called g p (x, tt) false q) f xs j × MatchOption o (r ≡ false) (λ x. (r ≡ true) × ((h : F) × Called g j (x, tt) true h)))
      → ((x : ℕ) (b : Bool) (q : F) → Called g f (x, tt) b q → (q ≡ f) × (b ≡ p x))
      → r ≡ any n p
  any_below {m} {n} {p} e d ran k =
      some_below p d r (cases_from_any u f r (λ x. true ≡ p x) (λ x. false ≡ p x) ran (YieldsList-from_range 0 m m e (omega arith)) (λ x q c. (k x true q c).1) (λ x q c. k x false q c))

module _ {F : Type 0} {g : Mut F (Bor ℕ × Unit {0}) Bool} (u : Range ℕ) {f : F} {r : Option ℕ} where
  pub found_below : {m n : ℕ} {p : ℕ → Bool} → m ≡ n → n ≤ none
      → ((xs : List ℕ) × (j : F) × YieldsThen nat_range_steps (record { start = 0; end = m }) xs r u × FoldsTo (λ p x q. CalledAt g p x false q) f xs j × MatchOption r ⊤ (λ x. (h : F) × CalledAt g j x true h))
      → ((x : ℕ) (b : Bool) (q : F) → CalledAt g f x b q → (q ≡ f) × (b ≡ p x))
      → r ≡ position (found n p)
  found_below {m} {n} {p} d l ran k =
      least_below p d r (first_from_Range (record { start = 0; end = m }) u f r (λ x. true ≡ p x) (λ x. false ≡ p x) ran (λ x q c. (k x true q c).1) (λ x q c. k x false q c)) l

-- `find` over a range that begins at s
module _ (p : ℕ → Bool) (s : ℕ) where
  passed_over : (a : ℕ) → (s ≤ a → false ≡ p a) → leb s a && p a ≡ false
  passed_over a h =
      elim (dec_le s a) [
        | yes l ↦ rw (le-leb s a l) (sym (h l))
        | no l ↦ rw (lt-leb s a (omega arith)) refl
      ]

  least_from : {m n : ℕ} → m ≡ n → (r : Option ℕ) → MatchOption r ((k : ℕ) → s ≤ k → k < m → false ≡ p k) (λ i. (s ≤ i) × (i < m) × (true ≡ p i) × ((k : ℕ) → s ≤ k → k < i → false ≡ p k)) → r ≡ below n (first n (λ a. leb s a && p a))
  least_from {m} {n} d None z =
      let e : first n (λ a. leb s a && p a) ≡ n = first_none (λ a. leb s a && p a) n (any_never (λ a. leb s a && p a) n (λ a h. passed_over a (λ l. z a l (omega arith)))) in
      rw e (sym (below_none (omega arith)))
  least_from {m} {n} d (Some i) z =
      let e : first n (λ a. leb s a && p a) ≡ i = first_at (λ a. leb s a && p a) n i (omega arith) (any_never (λ a. leb s a && p a) i (λ a h. passed_over a (λ l. z.3 a l h))) (rw (le-leb s i z.0) (sym z.2)) in
      rw e (sym (below_some (omega arith)))

module _ {F : Type 0} {g : Mut F (Bor ℕ × Unit {0}) Bool} (u : Range ℕ) {f : F} {r : Option ℕ} where
  pub first_from : {s m n : ℕ} {p : ℕ → Bool} → m ≡ n
      → ((xs : List ℕ) × (j : F) × YieldsThen nat_range_steps (record { start = s; end = m }) xs r u × FoldsTo (λ p x q. CalledAt g p x false q) f xs j × MatchOption r ⊤ (λ x. (h : F) × CalledAt g j x true h))
      → ((x : ℕ) (b : Bool) (q : F) → CalledAt g f x b q → (q ≡ f) × (b ≡ p x))
      → r ≡ below n (first n (λ a. leb s a && p a))
  first_from {s} {m} {n} {p} d ran k =
      least_from p s d r (first_from_Range (record { start = s; end = m }) u f r (λ x. true ≡ p x) (λ x. false ≡ p x) ran (λ x q c. (k x true q c).1) (λ x q c. k x false q c))

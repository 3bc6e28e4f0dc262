-- A table that one pass fills has the first position of each key, and answers whether one stands before a position.
use Prim.Native.Nat.{ℕ, suc, ◌+◌, ◌<◌, ◌≤◌}
use native.Mathlib.Numerals.{add-one}
use native.Mathlib.Omega.{arith}
use native.Mathlib.Decide.{ℕ_discrete}
use mathlib.Core.Path.{◌≡◌, refl, sym, ◌∙◌}
use mathlib.Core.Bool.{Bool, true, false, cond, ◌&&◌}
use mathlib.Core.List.{List}
use lib.Dec.{eqb, ltb}
use lib.ListN.{length, replicate, set, get_or, get_or-replicate, length-set}
use lib.Seq.{get_or-set_same, get_or-set_other, ext_get_or}
use borrow.Author.Tests.{eq-eqb, ne_eqb, ltb-true, lt-ltb, le-ltb}
use Rattle.model.specs.Search.{any, first, found, none}
use Rattle.model.specs.WorkArea.{list}
use Rattle.model.specs.Layout.{size, thread, kind, target, place, sync}
use Rattle.model.proofs.Search.{any_same, found_at, first_any, found_nothing, found_before}
use Rattle.model.proofs.Words.{length_list, get_or_list}
use Rattle.positions.specs.declared.firsts.Key.{Key}
use Rattle.positions.specs.declared.firsts.Key.TheVariants.{Place, Thread, Start}
use Rattle.positions.specs.Firsts.{keys, key_of, firsts}

module _ (p : ℕ → Bool) (n : ℕ) where
  -- one position more: it is found where it passes and nothing was found before
  found_old : (found n p ≡ none → p n ≡ false) → found (n + 1) p ≡ found n p
  unfolding found first
  found_old f = rw add-one (go (ltb (first n p) n) refl)
    where
      go : (b : Bool) → ltb (first n p) n ≡ b → found (suc n) p ≡ found n p
      go true e = rw e (rw (lt-ltb (first n p) (suc n) (omega (arith, ltb-true (first n p) n e))))
      go false e = rw (e, f (rw e)) (rw (le-ltb (suc n) (suc n) (omega arith)))

  found_new : n ≤ none → found n p ≡ none → p n ≡ true → found (n + 1) p ≡ n
  found_new fits h e = found_at p (n + 1) n (omega arith) (sym (first_any p n) ∙ found_nothing p n fits h) e

-- the entries after n positions, of the key k
pub record Kept (k : ℕ → ℕ) (l : List ℕ) (n : ℕ) : Type 0 where
  pub sized : length l ≡ keys
  pub entry : (v : ℕ) → v < keys → get_or l v 0 ≡ found n (λ b. eqb (k b) v)

module _ (k : ℕ → ℕ) where
  pub kept_none : Kept k (replicate keys none) 0
  unfolding found first
  kept_none = record { sized = refl; entry = λ v h. get_or-replicate {A = ℕ} keys v none 0 h }

  module _ (l : List ℕ) (n : ℕ) (kept : Kept k l n) where
    -- position n has no key, or one that an earlier position has
    pub kept_old : (k n < keys → get_or l (k n) 0 ≡ none → ⊥) → Kept k l (n + 1)
    kept_old f =
        record {
          sized = kept.sized;
          entry = λ v u.
              kept.entry v u
              ∙ sym (found_old (λ b. eqb (k b) v) n (λ e. ne_eqb (k n) v (λ z. f (rw z u) (rw z (kept.entry v u ∙ e)))));
        }

    pub kept_new : {w : ℕ} → n ≤ none → w ≡ k n → w < keys → get_or l w 0 ≡ none → Kept k (set l w n) (n + 1)
    kept_new {w} fits q m h =
        record {
          sized = simp length-set kept.sized;
          entry = λ v u.
              elim (ℕ_discrete v w) [
                | yes e ↦
                    rw (e, get_or-set_same l w n 0 (rw kept.sized m))
                    (sym (found_new (λ b. eqb (k b) w) n fits (sym (kept.entry w m) ∙ h) (eq-eqb (k n) w (sym q))))
                | no g ↦
                    get_or-set_other l w v n 0 (λ z. g z) ∙ kept.entry v u
                    ∙ sym (found_old (λ b. eqb (k b) v) n (λ e. ne_eqb (k n) v (λ z. g (sym (q ∙ z)))))
              ];
        }

pub kept_all : (x : List ℕ) (key : Key) (l : List ℕ) → Kept (key_of x key) l (size x) → l ≡ firsts x key
unfolding firsts
kept_all x key l kept =
    ext_get_or 0 l (list keys f) (kept.sized ∙ sym (length_list keys f))
    (λ v h. let u : v < keys = rw kept.sized at h in kept.entry v u ∙ sym (get_or_list keys f v u))
  where
    f : ℕ → ℕ
    f v = found (size x) (λ b. eqb (key_of x key b) v)

-- what the entry of key v says
pub first_entry : (x : List ℕ) (key : Key) (v : ℕ) → v < keys → get_or (firsts x key) v 0 ≡ found (size x) (λ b. eqb (key_of x key b) v)
unfolding firsts
first_entry x key = get_or_list keys (λ v. found (size x) (λ b. eqb (key_of x key b) v))

-- the key of an action that isn't in the table is none of the keys
pub keyed : (q : Bool) (k v : ℕ) → v < keys → eqb (cond q k keys) v ≡ q && eqb k v
keyed true k v h = refl
keyed false k v h = ne_eqb keys v (λ e. omega arith)

-- an action of a key w stands before a exactly when the entry is below a
module _ (x : List ℕ) (fits : size x ≤ none) (a : ℕ) {v w : ℕ} (same : v ≡ w) (small : v < keys) (inside : a ≤ size x) where
  first_before : (key : Key) → ltb (get_or (firsts x key) v 0) a ≡ any a (λ b. eqb (key_of x key b) v)
  first_before key = rw (first_entry x key v small) (found_before (λ b. eqb (key_of x key b) v) (size x) fits a inside)

  module _ {l : List ℕ} where
    pub place_before : l ≡ firsts x Place → ltb (get_or l v 0) a ≡ any a (λ b. sync x b && eqb (place x b) w)
    place_before e =
        rw (e, ← same) (first_before Place ∙ any_same _ _ a (λ b u. keyed (sync x b) (place x b) v small))

    pub thread_before : l ≡ firsts x Thread → ltb (get_or l v 0) a ≡ any a (λ b. eqb (thread x b) w)
    thread_before e = rw (e, ← same) (first_before Thread)

    pub start_before : l ≡ firsts x Start → ltb (get_or l v 0) a ≡ any a (λ b. eqb (kind x b) 7 && eqb (target x b) w)
    start_before e =
        rw (e, ← same) (first_before Start ∙ any_same _ _ a (λ b u. keyed (eqb (kind x b) 7) (target x b) v small))

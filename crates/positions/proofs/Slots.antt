-- The search for an identifier from its slot on is the search in the whole section.
use Prim.Native.Nat.{ℕ, ◌+◌, ◌%◌, ◌<◌, ◌≤◌}
use native.Mathlib.Omega.{arith}
use mathlib.Core.Path.{◌≡◌, refl, ap, ◌∙◌}
use mathlib.Core.Bool.{Bool, true, false, ◌&&◌, and-false}
use mathlib.Core.List.{List}
use lib.Dec.{eqb, leb}
use lib.ListN.{get_or}
use borrow.Author.Tests.{eq-eqb, eqb-true, ltb-true, le-leb}
use Rattle.model.specs.Search.{found, none}
use Rattle.model.specs.Layout.{size, ident}
use Rattle.model.specs.Rules.{twin}
use Rattle.model.proofs.Search.{any_at, first_same, found_before}
use Rattle.positions.specs.declared.firsts.Key.TheVariants.{Ident}
use Rattle.positions.specs.Firsts.{firsts}
use Rattle.positions.specs.Idents.{from_slot}
use Rattle.positions.proofs.Tables.{first_entry}

-- what is found is at or before each position at which the test holds
found_upto : (p : ℕ → Bool) (n : ℕ) → n ≤ none → (a : ℕ) → a < n → p a ≡ true → found n p ≤ a
found_upto p n fits a l e =
    omega (arith, ltb-true (found n p) (a + 1) (found_before p n fits (a + 1) (omega arith) ∙ any_at p (a + 1) a (omega arith) e))

pub slot_twin : (x t : List ℕ) (d : ℕ) → size x ≤ none → t ≡ firsts x Ident → from_slot x t d ≡ twin x d
unfolding from_slot twin
slot_twin x t d fits e = first_same (λ a. leb (get_or t (d % 256) 0) a && eqb (ident x a) d) (λ a. eqb (ident x a) d) (size x) (λ a l. go a l (eqb (ident x a) d) refl)
  where
    low : ℕ → Bool
    low b = eqb (ident x b % 256) (d % 256)

    entry : get_or t (d % 256) 0 ≡ found (size x) low
    entry = rw e (first_entry x Ident (d % 256) (omega arith))

    go : (a : ℕ) → a < size x → (b : Bool) → eqb (ident x a) d ≡ b → leb (get_or t (d % 256) 0) a && b ≡ b
    go a l false q = and-false (leb (get_or t (d % 256) 0) a)
    go a l true q =
        let same : low a ≡ true = eq-eqb (ident x a % 256) (d % 256) (ap (λ (i : ℕ). i % 256) (eqb-true (ident x a) d q)) in
        rw (le-leb (get_or t (d % 256) 0) a (rw entry (found_upto low (size x) fits a l same)))

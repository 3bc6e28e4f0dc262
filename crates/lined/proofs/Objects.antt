-- What the table of kinds says of the objects that actions give and take, and that their rows tell them apart.
use Prim.Native.Nat.{ℕ, ◌<◌}
use native.Mathlib.Omega.{arith}
use mathlib.Core.Path.{◌≡◌, refl}
use mathlib.Core.List.{List}
use mathlib.Core.Bool.{Bool, true, false, not, cond, ◌&&◌, ◌||◌, beq}
use lib.Dec.{eqb, ltb}
use borrow.Author.Tests.{eq-eqb, eqb-true, eqb-false, ltb-true, not-true}
use Rattle.model.specs.declared.Objects.{Objects}
use Rattle.model.specs.Search.{any}
use Rattle.model.specs.Kinds.{kind_row, number_of, same_class}
use Rattle.model.specs.Layout.{thread, kind, target, row}
use Rattle.model.specs.Relations.{number}
use Rattle.model.proofs.Bools.{both, same_truth, same_bool}
use Rattle.model.proofs.Synchronizes.{every_row}
use Rattle.relations.specs.Objects.{given, taken}
use Rattle.lined.specs.Line.{given_row, taken_row, freely}

module _ (x : List ℕ) (a : ℕ) where
  pub given_class : (given x a).class < 5
  unfolding given any kind_row
  given_class = ltb-true _ 5 (every_row (λ k. ltb (number_of k.gives.class) 5) refl (kind x a))

  pub taken_class : (taken x a).class < 6
  unfolding taken any kind_row
  taken_class = ltb-true _ 6 (every_row (λ k. ltb (number_of k.takes.class) 6) refl (kind x a))

  pub taken_some : (taken x a).class ≡ 4 → ⊥
  unfolding taken any kind_row
  taken_some = eqb-false _ 4 (not-true _ (every_row (λ k. not (eqb (number_of k.takes.class) 4)) refl (kind x a)))

  -- the class says whether places decide
  pub given_placed : (row x a).gives.placed ≡ ltb (given x a).class 2
  unfolding given any kind_row
  given_placed = same_bool _ _ (every_row (λ k. beq k.gives.placed (ltb (number_of k.gives.class) 2)) refl (kind x a))

  pub taken_placed : (row x a).takes.placed ≡ ltb (taken x a).class 2
  unfolding taken any kind_row
  taken_placed = same_bool _ _ (every_row (λ k. beq k.takes.placed (ltb (number_of k.takes.class) 2)) refl (kind x a))

  -- no action takes what it gives
  pub own_class : eqb (given x a).class (taken x a).class ≡ false
  unfolding given taken any kind_row
  own_class = not-true _ (every_row (λ k. not (same_class k.gives.class k.takes.class)) refl (kind x a))

  -- what gives or takes, and not by its place, is what synchronizes freely
  pub given_freely : freely x a || ((row x a).gives.placed || eqb (given x a).class 4) ≡ true
  unfolding given any kind_row
  given_freely =
      every_row (λ k. not (k.gives.placed || k.takes.placed) && k.sync || (k.gives.placed || eqb (number_of k.gives.class) 4)) refl (kind x a)

  pub taken_freely : freely x a || (ltb (taken x a).class 2 || eqb (taken x a).class 5) ≡ true
  unfolding taken any kind_row
  taken_freely =
      every_row (λ k. not (k.gives.placed || k.takes.placed) && k.sync || (ltb (number_of k.takes.class) 2 || eqb (number_of k.takes.class) 5)) refl (kind x a)

  -- a number is one of the two fields
  numbered : thread x a < 64 → target x a < 64 → (o : Objects) → number o x a < 64
  numbered h g o = go o.own
    where
      go : (t : Bool) → cond t (thread x a) (target x a) < 64
      go true = h
      go false = g

  pub given_number : thread x a < 64 → target x a < 64 → (given x a).number < 64
  unfolding given
  given_number h g = numbered h g (row x a).gives

  pub taken_number : thread x a < 64 → target x a < 64 → (taken x a).number < 64
  unfolding taken
  taken_number h g = numbered h g (row x a).takes

  pub given_below : (given x a).number < 64 → given_row x a < 384
  given_below h = let c = given_class in omega arith

  pub taken_below : (taken x a).number < 64 → taken_row x a < 384
  taken_below h = let c = taken_class in omega arith

-- what is given and what is taken are of one row where they are one object
pub same_row :
    (x : List ℕ) (a b : ℕ) → (given x a).number < 64 → (taken x b).number < 64 →
    eqb (given_row x a) (taken_row x b) ≡ eqb (given x a).class (taken x b).class && eqb (given x a).number (taken x b).number
same_row x a b m n =
    same_truth _ _
    (λ h.
    let e = eqb-true (given_row x a) (taken_row x b) h in
    rw (eq-eqb (given x a).class (taken x b).class (omega arith), eq-eqb (given x a).number (taken x b).number (omega arith)))
    (λ h.
    let (q, r) = both _ _ h in
    eq-eqb (given_row x a) (taken_row x b) (omega (arith, eqb-true (given x a).class (taken x b).class q, eqb-true (given x a).number (taken x b).number r)))

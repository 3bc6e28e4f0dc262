-- An action synchronizes with those that accept what it offers, and its object then has the key of theirs.
use Prim.Native.Nat.{ℕ}
use mathlib.Core.Path.{◌≡◌, refl, sym, ◌∙◌}
use mathlib.Core.List.{List}
use mathlib.Core.Bool.{Bool, true, false, not, cond, ◌&&◌, ◌||◌}
use lib.Dec.{eqb, ltb}
use borrow.Author.Tests.{eqb-true, not-true}
use Rattle.model.specs.declared.Objects.{Objects}
use Rattle.model.specs.Search.{any}
use Rattle.model.specs.Kinds.{kind_row, number_of, same_class}
use Rattle.model.specs.declared.Class.TheVariants.{NothingGiven, NothingTaken}
use Rattle.model.specs.Layout.{thread, kind, target, place, row}
use Rattle.model.specs.Relations.{number, sw, hands, tabled_sw}
use Rattle.model.proofs.Bools.{both, neither}
use Rattle.model.proofs.Synchronizes.{sw_table, every_row}
use Rattle.relations.specs.Objects.{given, taken, key, offered, near, accepts}

module _ (x : List ℕ) (a b : ℕ) where
  pub accepts_sw : accepts x (offered x a) b ≡ sw x a b
  unfolding taken offered accepts tabled_sw hands
  accepts_sw = sym (sw_table x a b)

  pub sw_key : sw x a b ≡ true → key (given x a) ≡ key (taken x b)
  unfolding given taken tabled_sw hands
  sw_key h =
      let g = given x a in
      let t = taken x b in
      let (p, _) = both (eqb g.class t.class && eqb g.number t.number) (not (row x a).gives.placed || ltb (place x a) (place x b)) (sym (sw_table x a b) ∙ h) in
      let (c, n) = both (eqb g.class t.class) (eqb g.number t.number) p in
      rw (eqb-true g.class t.class c, eqb-true g.number t.number n)

-- what is nothing is neither taken nor given
module _ (x : List ℕ) (a : ℕ) where
  untaken : eqb (number_of NothingGiven) (taken x a).class ≡ false
  unfolding taken any kind_row
  untaken = not-true _ (every_row (λ k. not (same_class NothingGiven k.takes.class)) refl (kind x a))

  ungiven : eqb (given x a).class (number_of NothingTaken) ≡ false
  unfolding given any kind_row
  ungiven = not-true _ (every_row (λ k. not (same_class k.gives.class NothingTaken)) refl (kind x a))

pub sw_nothing_given : (x : List ℕ) (a b : ℕ) → (given x a).class ≡ number_of NothingGiven → sw x a b ≡ false
unfolding given taken tabled_sw hands
sw_nothing_given x a b e = sw_table x a b ∙ rw (e, untaken x b)

pub sw_nothing_taken : (x : List ℕ) (a b : ℕ) → (taken x b).class ≡ number_of NothingTaken → sw x a b ≡ false
unfolding given taken tabled_sw hands
sw_nothing_taken x a b e = sw_table x a b ∙ rw (e, ungiven x a)

-- a number is that of the thread or of the target
pub far : (x : List ℕ) (v b : ℕ) → near x v b ≡ false → (o : Objects) → eqb v (number o x b) ≡ false
far x v b h o = let (p, q) = neither (eqb v (target x b)) (eqb v (thread x b)) h in go o.own p q
  where
    go : (t : Bool) → eqb v (target x b) ≡ false → eqb v (thread x b) ≡ false → eqb v (cond t (thread x b) (target x b)) ≡ false
    go true p q = q
    go false p q = p

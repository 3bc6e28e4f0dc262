-- 28 by the mask of the actions in C_i outside C_(i-1), and by the keys of what the actions give and take.
use Prim.Native.Nat.{ℕ, ◌<◌, ◌≤◌}
use mathlib.Core.Path.{◌≡◌, refl, sym, ap, ◌∙◌}
use mathlib.Core.List.{List}
use mathlib.Core.Bool.{Bool, true, false, not, ◌&&◌, and_comm}
use mathlib.Mathlib.Data.Bool.Basic.{eq-false_of_not-eq-true}
use lib.Dec.{eqb}
use lib.ListN.{get_or}
use borrow.Author.Tests.{eqb-false}
use Rattle.std.specs.Prelude.{Option}
use Rattle.model.specs.Limits.{max_actions}
use Rattle.model.specs.Search.{any, found, position}
use Rattle.model.specs.Layout.{section, size, ident}
use Rattle.model.specs.declared.Class.TheVariants.{NothingGiven}
use Rattle.model.specs.Kinds.{number_of}
use Rattle.model.specs.Relations.{po, sw}
use Rattle.model.specs.WorkArea.{shown}
use Rattle.model.specs.Justified.{new, through, sufficient, missing, broken28}
use Rattle.model.proofs.Search.{any_same, found_same}
use Rattle.justify.specs.Row.{shares, Masked}
use Rattle.justify.specs.Found.{Holds}
use Rattle.relations.specs.Objects.{given, taken, key}
use Rattle.relations.proofs.Objects.{sw_key, sw_nothing_given}
use Rattle.edges.specs.Edge.{loose}
use Rattle.justify.proofs.Words.{shares_masked}

-- the code tests l after s
regroup : (s p b l m : Bool) → s && p && b && l && m ≡ s && (l && (p && b && m))
regroup false p b l m = refl
regroup true false b true m = refl
regroup true false b false m = refl
regroup true true false true m = refl
regroup true true false false m = refl
regroup true true true l m = refl

module _ (r e f : List ℕ) (i : ℕ) (first : e ≡ section r 0) (own : f ≡ section r i) (part : List ℕ) where
  abbrev hb : ℕ → ℕ → Bool
  hb = shown part

  module _ (mask : List ℕ) (few : size f ≤ max_actions) (held : Masked mask (size f) (new e f i)) where
    leads : (y : ℕ) → any max_actions (shares part mask y) ≡ any (size f) (λ z. hb y z && new e f i z)
    leads y =
        shares_masked (new e f i) mask (size f) held few part y
        ∙ any_same (λ z. new e f i z && hb y z) (λ z. hb y z && new e f i z) (size f) (λ z k. and_comm (new e f i z) (hb y z))

    pub by_lead28 : (x y : ℕ) → broken28 hb r i x y ≡ sw f x y && (any max_actions (shares part mask y) && loose hb r f i x y)
    unfolding broken28 sufficient loose
    by_lead28 x y =
        rw (← first, ← own, leads y)
        (regroup (sw f x y) (not (po f x y)) (not (any (size f) (through hb x y))) (any (size f) (λ z. hb y z && new e f i z)) (missing r i (ident f x) (ident f y)))

  no_edge28 : (x y : ℕ) → sw f x y ≡ false → broken28 hb r i x y ≡ false
  unfolding broken28 sufficient
  no_edge28 x y n = rw (← own, n)

  -- x is asked only about what it gives
  pub idle28 : (x y : ℕ) → (given f x).class ≡ number_of NothingGiven → broken28 hb r i x y ≡ false
  idle28 x y n = no_edge28 x y (sw_nothing_given f x y n)

  -- only a y that takes what x gives is looked at
  module _ (x k : ℕ) (heard : List ℕ) (gives : k ≡ key (given f x)) (held : Holds heard (size f) (λ y. key (taken f y))) where
    heard28 : (y : ℕ) → y < size f → eqb (get_or heard y 0) k && broken28 hb r i x y ≡ broken28 hb r i x y
    heard28 y l = go (eqb (get_or heard y 0) k) refl
      where
        go : (b : Bool) → eqb (get_or heard y 0) k ≡ b → b && broken28 hb r i x y ≡ broken28 hb r i x y
        go true s = refl
        go false s =
            sym
            (no_edge28 x y
            (eq-false_of_not-eq-true (λ w. eqb-false (get_or heard y 0) k s (held.entry y l ∙ sym (sw_key f x y w) ∙ sym gives))))

    pub by_key28 : {o : Option ℕ} → o ≡ position (found (size f) (λ y. eqb (get_or heard y 0) k && broken28 hb r i x y)) → o ≡ position (found (size f) (broken28 hb r i x))
    by_key28 e =
        e ∙ ap position (found_same (λ y. eqb (get_or heard y 0) k && broken28 hb r i x y) (broken28 hb r i x) (size f) heard28)

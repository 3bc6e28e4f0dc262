-- Membership in C_i by the stage.
use Prim.Native.Nat.{ℕ, zero, suc, ◌<◌}
use native.Mathlib.Omega.{arith}
use mathlib.Core.Path.{◌≡◌, refl, sym}
use mathlib.Core.List.{List}
use mathlib.Core.Bool.{Bool, true, false, cond, ◌&&◌, ◌||◌, or-false}
use lib.Dec.{eqb, ltb, leb}
use borrow.Author.Tests.{lt-leb, ltb-true, ltb-false, leb-true, leb-false}
use Rattle.model.specs.Search.{any, none}
use Rattle.model.specs.Layout.{size, ident, commit}
use Rattle.model.specs.Justified.{C, C#}
use Rattle.justify.specs.Found.{lower, least_commit, stage}

-- the smaller of two numbers is at most i when one of them is
smaller : (b : Bool) (c s i : ℕ) → leb (cond (b && ltb c s) c s) i ≡ leb s i || b && leb c i
smaller false c s i = sym (or-false (leb s i))
smaller true c s i = go (ltb c s) (leb s i) (leb c i) refl refl refl
  where
    go : (t u v : Bool) → ltb c s ≡ t → leb s i ≡ u → leb c i ≡ v → leb (cond t c s) i ≡ u || v
    go true true true p q r = r
    go true true false p q r =
        let z : ⊥ = omega (arith, ltb-true c s p, leb-true s i q, leb-false c i r) in absurd z
    go true false v p q r = r
    go false true v p q r = q
    go false false true p q r =
        let z : ⊥ = omega (arith, ltb-false c s p, leb-false s i q, leb-true c i r) in absurd z
    go false false false p q r = q

module _ (e : List ℕ) (d i : ℕ) where
  lower_stage : (a s : ℕ) → leb (lower e d a s) i ≡ leb s i || eqb (ident e a) d && C e i a
  unfolding lower
  lower_stage a s = smaller (eqb (ident e a) d) (commit e a) s i

  least_stage : i < none → (n : ℕ) → any n (λ a. eqb (ident e a) d && C e i a) ≡ leb (least_commit e d n) i
  unfolding any least_commit
  least_stage l zero = sym (lt-leb none i l)
  least_stage l (suc n) = rw (least_stage l n) (sym (lower_stage n (least_commit e d n)))

  -- the identifier d is in C_i
  pub in_c : i < none → C# e i d ≡ leb (stage e d) i
  unfolding C# stage
  in_c l = go (eqb d 0)
    where
      go : (b : Bool) → cond b (leb 1 i) (any (size e) (λ a. eqb (ident e a) d && C e i a)) ≡ leb (cond b 1 (least_commit e d (size e))) i
      go true = refl
      go false = least_stage l (size e)

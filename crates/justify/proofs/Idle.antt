-- An action that is seen to be idle breaks 22 or 23 with no action.
use Prim.Native.Nat.{ℕ, ◌<◌, ◌≤◌}
use native.Mathlib.Omega.{arith}
use mathlib.Core.Path.{◌≡◌, refl, ◌∙◌}
use mathlib.Core.List.{List}
use mathlib.Core.Bool.{Bool, true, false, not, ◌&&◌, beq}
use lib.Dec.{eqb, ltb}
use borrow.Author.Tests.{lt-ltb, eqb-true, not-false}
use Rattle.model.specs.Limits.{max_actions}
use Rattle.model.specs.Search.{any}
use Rattle.model.specs.Layout.{size, place}
use Rattle.model.specs.WorkArea.{shown}
use Rattle.model.specs.Justified.{C, twin_of, just_one, before}
use Rattle.model.proofs.Search.{any_not}
use Rattle.rows.specs.Part.{has}
use Rattle.justify.specs.Row.{differs, Masked}
use Rattle.justify.specs.Idle.{strays22, strays23}

beq_same : (b : Bool) → not (beq b b) ≡ false
beq_same true = refl
beq_same false = refl

module _ (e f : List ℕ) (i x y : ℕ) where
  -- x is not in C_i
  pub uncommitted : (R S : ℕ → ℕ → Bool) → C e i x ≡ false → just_one R S e f i x y ≡ false
  unfolding just_one
  uncommitted R S c = rw c

  -- two actions of C_i between which the relations agree
  agreed : (R S : ℕ → ℕ → Bool) → (C e i x ≡ true → C e i y ≡ true → not (beq (R x y) (S (twin_of e f x) (twin_of e f y))) ≡ false) → just_one R S e f i x y ≡ false
  unfolding just_one
  agreed R S h = go (C e i x) refl (C e i y) refl
    where
      go : (b : Bool) → C e i x ≡ b → (c : Bool) → C e i y ≡ c → b && c && not (beq (R x y) (S (twin_of e f x) (twin_of e f y))) ≡ false
      go false s c t = refl
      go true s false t = refl
      go true s true t = h s t

  module _ (m : x < size e) (n : y < size e) where
    -- an action of C_i stands in f where it stands in e, or has the place that it has in e
    stays22 : (b : ℕ) → b < size e → any (size e) (strays22 e f i) ≡ false → C e i b ≡ true → twin_of e f b ≡ b
    unfolding strays22
    stays22 b l none c = eqb-true (twin_of e f b) b (not-false (eqb (twin_of e f b) b) (rw c at (any_not (strays22 e f i) (size e) b l none)))

    stays23 : (b : ℕ) → b < size e → any (size e) (strays23 e f i) ≡ false → C e i b ≡ true → place f (twin_of e f b) ≡ place e b
    unfolding strays23
    stays23 b l none c =
        eqb-true (place f (twin_of e f b)) (place e b) (not-false (eqb (place f (twin_of e f b)) (place e b)) (rw c at (any_not (strays23 e f i) (size e) b l none)))

    -- none strays, and the rows of x agree in the mask, which is C_i
    pub calm22 :
        (p q mask : List ℕ) → any (size e) (strays22 e f i) ≡ false → size e ≤ max_actions → Masked mask (size e) (C e i)
        → any max_actions (differs p q mask x) ≡ false → just_one (shown p) (shown q) e f i x y ≡ false
    unfolding differs
    calm22 p q mask none few held agree =
        agreed (shown p) (shown q)
        (λ s t.
        let w : y < max_actions = omega arith in
        let b : has mask y ≡ true = held.bits y ∙ rw (lt-ltb y (size e) n) t in
        rw (stays22 x m none s, stays22 y n none t) (rw b at (any_not (differs p q mask x) max_actions y w agree)))

    pub calm23 : any (size e) (strays23 e f i) ≡ false → just_one (before e) (before f) e f i x y ≡ false
    unfolding before
    calm23 none =
        agreed (before e) (before f)
        (λ s t. rw (stays23 x m none s, stays23 y n none t) (beq_same (ltb (place e x) (place e y))))

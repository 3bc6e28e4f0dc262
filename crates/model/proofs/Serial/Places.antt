-- Places of a section that 11 and 12 let pass: they are the numbers from 1 to the number of its synchronization actions, each once, and grow along
-- each thread.
use Prim.Native.Nat.{ℕ, ◌-◌, ◌<◌, ◌≤◌}
use native.Mathlib.Nat.{eq-or-lt_of_le}
use native.Mathlib.Omega.{arith}
use mathlib.Core.Path.{◌≡◌, refl, sym}
use mathlib.Core.List.{List}
use mathlib.Core.Logic.{⊎_elim}
use mathlib.Core.Bool.{Bool, true, false, ◌&&◌}
use lib.Dec.{eqb, ltb}
use borrow.Author.Tests.{ltb-false, eqb-false, eq-eqb}
use Rattle.model.specs.Search.{any, count}
use Rattle.model.specs.Layout.{size, thread, place, sync}
use Rattle.model.specs.Rules.{broken11, broken12}
use Rattle.model.proofs.Bools.{neither}
use Rattle.model.proofs.Search.{any_not}
use Rattle.model.proofs.Serial.Pigeonhole.{Into, Image, image}

-- the section's threads are below 16 and its synchronization actions have places, as number 6 asks, and neither 11 nor 12 is given
pub record Placed (x : List ℕ) : Type 0 where
  pub threads : (a : ℕ) → a < size x → thread x a < 16
  pub places : (a : ℕ) → a < size x → sync x a ≡ true → 1 ≤ place x a
  pub rule11 : any (size x) (broken11 x) ≡ false
  pub rule12 : any (size x) (broken12 x) ≡ false

module _ (x : List ℕ) (placed : Placed x) where
  -- 11 at one action
  kept11 : (a : ℕ) → a < size x → sync x a ≡ true
      → (ltb (count (size x) (sync x)) (place x a) ≡ false) × (any a (λ b. sync x b && eqb (place x b) (place x a)) ≡ false)
  unfolding broken11
  kept11 a h s =
      neither (ltb (count (size x) (sync x)) (place x a)) (any a (λ b. sync x b && eqb (place x b) (place x a)))
      (rw s at (any_not (broken11 x) (size x) a h placed.rule11))

  pub place_upto : (a : ℕ) → a < size x → sync x a ≡ true → place x a ≤ count (size x) (sync x)
  place_upto a h s = ltb-false (count (size x) (sync x)) (place x a) (kept11 a h s).0

  place_later : (a b : ℕ) → b < a → a < size x → sync x a ≡ true → sync x b ≡ true → place x b ≡ place x a → ⊥
  place_later a b l h s r =
      eqb-false (place x b) (place x a)
      (rw r at (any_not (λ c. sync x c && eqb (place x c) (place x a)) a b l (kept11 a h s).1))

  pub place_apart : (a b : ℕ) → a < size x → b < size x → sync x a ≡ true → sync x b ≡ true → place x a ≡ place x b → a ≡ b
  place_apart a b h k s r e =
      let before : a < b → ⊥ = λ l. place_later b a l k r s e in
      let after : b < a → ⊥ = λ l. place_later a b l h s r (sym e) in
      omega arith

  -- 12: of two actions of one thread the earlier has no larger place
  pub place_grows : (a b : ℕ) → a ≤ b → b < size x → sync x a ≡ true → sync x b ≡ true → thread x a ≡ thread x b → place x a ≤ place x b
  unfolding broken12
  place_grows a b l h s r e = ⊎_elim (λ (q : a ≡ b). rw q (omega arith)) (λ (q : a < b). earlier q) (eq-or-lt_of_le l)
    where
      larger : ℕ → Bool
      larger c = sync x c && eqb (thread x c) (thread x b) && ltb (place x b) (place x c)

      earlier : a < b → place x a ≤ place x b
      earlier q =
          let none : any b larger ≡ false = rw r at (any_not (broken12 x) (size x) b h placed.rule12) in
          ltb-false (place x b) (place x a)
          (rw (s, eq-eqb (thread x a) (thread x b) e) at (any_not larger b a q none))

  -- the action with place d
  pub place_at : (d : ℕ) → 1 ≤ d → d ≤ count (size x) (sync x) → Image (size x) (sync x) (place x) d
  place_at d l m =
      let i = image (size x) (sync x) (λ a. place x a - 1) into (d - 1) (omega arith) in
      record {
        at = i.at;
        below = i.below;
        holds = i.holds;
        equal = omega (arith, placed.places i.at i.below i.holds, i.equal);
      }
    where
      into : Into (size x) (sync x) (count (size x) (sync x)) (λ j. true) (λ a. place x a - 1)
      into =
          record {
            within = λ a h s. omega (arith, placed.places a h s, place_upto a h s);
            holds = λ a h s. refl;
            apart = λ a b h k s r e. place_apart a b h k s r (omega (arith, placed.places a h s, placed.places b k r, e));
          }

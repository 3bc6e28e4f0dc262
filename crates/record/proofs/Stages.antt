-- The refusal, stage by stage: a number that is given ends it, and one that is not leaves the numbers after it.
use Prim.Native.Nat.{ℕ, ◌<◌, ◌≤◌}
use native.Mathlib.Omega.{arith}
use mathlib.Core.Path.{◌≡◌, refl, sym, ◌∙◌}
use mathlib.Core.List.{List, [], ◌∷◌}
use mathlib.Core.Bool.{Bool, true, false, not, or-true, true≢false}
use lib.Dec.{ltb, eqb}
use lib.ListN.{length}
use borrow.Author.Tests.{ltb-false}
use Rattle.std.proofs.lemmas.Bool.Decides.{nat_tests}
use Rattle.model.specs.declared.Answer.{Answer}
use Rattle.model.specs.declared.Header.{Header}
use Rattle.std.specs.Prelude.{Result, Err}
use Rattle.std.specs.List.{starts_with}
use Rattle.model.specs.Search.{any, none}
use Rattle.model.specs.Answers.{answer, when, checked, ◌then◌}
use Rattle.model.specs.Layout.{byte, mark}
use Rattle.model.specs.Refused.{unmarked, out_of_range}
use Rattle.model.proofs.Answers.{then_ends}
use Rattle.model.proofs.Checks.{checked_err}

-- where a test gives a number, the number is the answer; where it does not, the answer is that of the numbers after it
pub given : {b : Bool} {a : Answer} {N s : ℕ} (q : Answer) → 0 < N → b ≡ true → a ≡ answer N s none none → Err a ≡ checked (when b (answer N s none none) then q)
given {a = a} {N = N} {s = s} q l t e =
    rw t (checked_err N s l (then_ends (answer N s none none) q (λ z. omega arith)) (e ∙ sym (then_ends (answer N s none none) q (λ z. omega arith))))

pub not_given : {b : Bool} {r : Result (Unit {0}) Answer} (p q : Answer) → b ≡ false → r ≡ checked q → r ≡ checked (when b p then q)
not_given p q f e = rw f e

-- b is at most a where a test is false that would hold otherwise
pub at_most : (b a : ℕ) (t : Bool) → (ltb a b ≡ true → t ≡ true) → t ≡ false → b ≤ a
at_most b a t f e = go (ltb a b) refl
  where
    go : (l : Bool) → ltb a b ≡ l → b ≤ a
    go true h = absurd (true≢false (sym (f h) ∙ e))
    go false h = ltb-false a b h

pub long : (r : List ℕ) → unmarked r ≡ false → 17 ≤ length r
unfolding unmarked
long r e = at_most 17 (length r) (unmarked r) (λ t. rw t) e

pub in_range : (h : Header) → out_of_range h ≡ false → (h.justifying ≤ 8) × (h.threads ≤ 16)
unfolding out_of_range
in_range h e =
    (at_most h.justifying 8 (out_of_range h) (λ t. simp (t, or-true)) e, at_most h.threads 16 (out_of_range h) (λ t. simp (t, or-true)) e)

-- the first bytes are not those of the mark exactly where one of them differs
pub unlike : (r : List ℕ) → 3 ≤ length r → not (starts_with eqb r mark) ≡ any 3 (λ i. not (eqb (byte r i) (byte mark i)))
unfolding any
unlike [] l = absurd (let z : ⊥ = omega arith in z)
unlike (a ∷ []) l = absurd (let z : ⊥ = omega arith in z)
unlike (a ∷ b ∷ []) l = absurd (let z : ⊥ = omega arith in z)
unlike (a ∷ b ∷ c ∷ r) l = grind (arith, nat_tests)

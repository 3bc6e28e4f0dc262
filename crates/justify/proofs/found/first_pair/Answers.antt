-- `justify::found::first_pair` meets its contract: no x so far has a partner.
use Prim.Native.Nat.{ℕ, ◌<◌, ◌≤◌}
use native.Mathlib.Nat.{eq-or-lt_of_le}
use native.Mathlib.Omega.{arith}
use mathlib.Core.Path.{◌≡◌}
use mathlib.Core.Logic.{⊎_elim}
use mathlib.Core.Bool.{Bool, false}
use borrow.Author.Rules.{rules}
use Rattle.std.specs.Prelude.{Some, None}
use Rattle.model.specs.Search.{any, found, none, position}
use Rattle.model.proofs.Search.{any_never}
use Rattle.model.proofs.Options.{nothing_found, pair_none, pair_at}
use Rattle.justify.proofs.found.first_pair.Goals as goal

pub loop-x-init : goal.loop-x-init
loop-x-init g c = (search rules, λ x l. absurd (omega arith))

pub loop-x-preserved : goal.loop-x-preserved
loop-x-preserved g c = (
  search rules,
  λ x l.
      ⊎_elim (λ (e : x ≡ c.loop-x.x). rw e c.in_default.ensures) (λ (k : x < c.loop-x.x). c.loop-x.invariant.1 x k)
      (eq-or-lt_of_le (let z : x ≤ c.loop-x.x = omega arith in z)),
)

-- no x before a has a partner
lone : (n : ℕ) (p : ℕ → ℕ → Bool) (a : ℕ) → n ≤ none → ((x : ℕ) → x < a → None ≡ position (found n (p x))) → any a (λ x. any n (p x)) ≡ false
lone n p a fits h = any_never (λ x. any n (p x)) a (λ x l. nothing_found (p x) n fits (h x l))

pub returns-in-Some : goal.returns-in-Some
returns-in-Some g c = λ p h.
    let before = lone c.args.n p c.loop-x.x (omega arith) (λ a k. h a None (omega arith) (c.loop-x.invariant.1 a k)) in
    pair_at c.args.n p (omega arith) c.loop-x.x c.loop-x-test.true before (h c.loop-x.x (Some c.in-Some.y) c.loop-x-test.true c.in-Some.ensures)

pub returns : goal.returns
returns g c =
    let e : c.loop-x.x ≡ c.args.n = omega arith in
    λ p h. pair_none c.args.n p (lone c.args.n p c.args.n (omega arith) (λ x l. h x None l (c.loop-x.invariant.1 x (rw (← e) at l))))

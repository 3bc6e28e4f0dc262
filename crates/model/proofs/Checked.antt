-- Checks as results: what `?` hands on in a chain of checks, and a loop of checks that ends at the first that is broken.
use Prim.Native.Nat.{ℕ, ◌+◌, ◌<◌}
use mathlib.Core.Path.{◌≡◌, refl, sym, ap, ◌∙◌}
use mathlib.Core.Bool.{Bool, true, false, not}
use lib.Dec.{eqb}
use borrow.Author.Tests.{eq-eqb, ne_eqb, eqb-true, eqb-false, not-false, not-true}
use Rattle.std.specs.Prelude.{Result, Ok, Err}
use Rattle.model.specs.declared.Answer.{Answer}
use Rattle.model.specs.Answers.{up_to, ◌then◌, checked, answered}
use Rattle.model.proofs.Answers.{Clean, then_next, then_ends, up_to_more, up_to_at}

pub checked_pass : (r : Answer) → r.n ≡ 0 → checked r ≡ Ok tt
unfolding checked
checked_pass r h = let e : eqb r.n 0 ≡ true = eq-eqb r.n 0 h in rw (e, checked) refl

pub checked_broken : (r : Answer) → (r.n ≡ 0 → ⊥) → checked r ≡ Err r
unfolding checked
checked_broken r h = let e : eqb r.n 0 ≡ false = ne_eqb r.n 0 h in rw (e, checked) refl

-- which of the two a result is
abbrev broken : Result (Unit {0}) Answer → Bool
broken (Ok u) = false
broken (Err r) = true

broken_checked : (r : Answer) → broken (checked r) ≡ not (eqb r.n 0)
unfolding checked
broken_checked r = go (eqb r.n 0)
  where
    go : (b : Bool) → broken (elim b [ true ↦ Ok tt | false ↦ Err r ]) ≡ not b
    go true = refl
    go false = refl

pub passes : (r : Answer) → Ok tt ≡ checked r → r.n ≡ 0
passes r h = eqb-true r.n 0 (not-false (eqb r.n 0) (sym (broken_checked r) ∙ ap broken (sym h)))

pub breaks : (r : Answer) {e : Answer} → Err e ≡ checked r → (e ≡ r) × (r.n ≡ 0 → ⊥)
breaks r h =
    let f : eqb r.n 0 ≡ false = not-true (eqb r.n 0) (sym (broken_checked r) ∙ ap broken (sym h)) in
    (ap answered h ∙ ap answered (checked_broken r (eqb-false r.n 0 f)), eqb-false r.n 0 f)

-- the answer that a check comes to
pub answered_checked : (r : Answer) → Clean r → answered (checked r) ≡ r
answered_checked r clean = go (eqb r.n 0) refl
  where
    go : (b : Bool) → eqb r.n 0 ≡ b → answered (checked r) ≡ r
    go true e = let h : r.n ≡ 0 = eqb-true r.n 0 e in ap answered (checked_pass r h) ∙ sym (clean h)
    go false e = ap answered (checked_broken r (eqb-false r.n 0 e))

-- `?` after a check r, and before the others, q
module _ (r q : Answer) where
  pub on : {a : Result (Unit {0}) Answer} → Ok tt ≡ checked r → a ≡ checked q → a ≡ checked (r then q)
  on h e = e ∙ ap checked (sym (then_next r q (passes r h)))

  pub ended : {e : Answer} → Err e ≡ checked r → Err e ≡ checked (r then q)
  ended h = h ∙ ap checked (sym (then_ends r q ((breaks r h).1)))

-- a loop that is at check a, all before having passed
module _ (f : ℕ → Answer) where
  pub passed_none : (up_to 0 f).n ≡ 0
  unfolding up_to
  passed_none = refl

  pub passed_more : (a : ℕ) → (up_to a f).n ≡ 0 → Ok tt ≡ checked (f a) → (up_to (a + 1) f).n ≡ 0
  passed_more a h e = rw (up_to_more f a, then_next (up_to a f) (f a) h) (passes (f a) e)

  pub passed_all : (n : ℕ) → (up_to n f).n ≡ 0 → Ok tt ≡ checked (up_to n f)
  passed_all n h = sym (checked_pass (up_to n f) h)

  pub broken_at : (n a : ℕ) → a < n → (up_to a f).n ≡ 0 → {e : Answer} → Err e ≡ checked (f a) → Err e ≡ checked (up_to n f)
  broken_at n a l h b = b ∙ ap checked (sym (up_to_at f n a l h ((breaks (f a) b).1)))

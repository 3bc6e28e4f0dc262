-- Checks as results: what a check of one rule, an error that is made and handed on, and `try_for_each` come to.
use Prim.Native.Nat.{ℕ, ◌+◌, ◌<◌, ◌≤◌}
use native.Mathlib.Omega.{arith}
use mathlib.Core.Path.{◌≡◌, refl, sym, ap, subst, ◌∙◌}
use mathlib.Core.Bool.{Bool, true, false}
use lib.Dec.{eqb}
use borrow.Author.Tests.{ne_eqb}
use Rattle.std.specs.Prelude.{Option, Some, None, Result, Ok, Err}
use mathlib.Core.List.{List, [], ◌∷◌}
use denote.Param.Members.{Mut}
use Rattle.std.specs.declared.ops.Range.{Range}
use Rattle.std.specs.Fn.{Called}
use Rattle.std.specs.Option.{MatchOption}
use Rattle.std.specs.Result.{IsErr, IsErrAnd}
use Rattle.std.specs.Iterator.{Yields, YieldsThen}
use Rattle.std.specs.List.{FoldsTo}
use Rattle.std.proofs.iter.Yields.{nat_range_steps}
use Rattle.model.specs.declared.Answer.{Answer}
use Rattle.model.specs.Search.{any, found, none, position, found₂}
use Rattle.model.specs.Answers.{answer, naming, rule, rule₂, checked, named, named₂, up_to}
use Rattle.model.proofs.Checked.{checked_broken, passed_none, passed_more, passed_all, broken_at}

-- a rule that names the first position found
pub checked_rule : (N s n : ℕ) (p : ℕ → Bool) {o : Option ℕ} {r : Result (Unit {0}) Answer} → 0 < N → o ≡ position (found n p) → r ≡ named N s o → r ≡ checked (rule N s n p)
unfolding rule checked position
checked_rule N s n p l h e = rw (e, h) (go (eqb (found n p) none) refl)
  where
    nonzero : eqb N 0 ≡ false
    nonzero = ne_eqb N 0 (omega arith)

    go : (b : Bool) → eqb (found n p) none ≡ b → named N s (position (found n p)) ≡ checked (naming N s (found n p) none)
    go true k = simp (k, naming, checked, position)
    go false k = simp (k, naming, nonzero, checked, position)

-- and one that names the first pair
pub checked_rule₂ : (N s n : ℕ) (p : ℕ → ℕ → Bool) {o : Option (ℕ × ℕ)} {r : Result (Unit {0}) Answer} → 0 < N → o ≡ found₂ n p → r ≡ named₂ N s o → r ≡ checked (rule₂ N s n p)
unfolding rule₂ found₂ checked
checked_rule₂ N s n p l h e = rw (e, h) (go (eqb x none))
  where
    x : ℕ
    x = found n (λ a. any n (p a))

    go : (b : Bool) → named₂ N s (elim b [ true ↦ None | false ↦ Some (x, found n (p x)) ]) ≡ checked (elim b [ true ↦ answer 0 0 none none | false ↦ answer N s x (found n (p x)) ])
    go true = refl
    go false = rw (ne_eqb N 0 (omega arith), checked)

-- a number that is given is an error
pub checked_err : {e a : Answer} (N s : ℕ) → 0 < N → a ≡ answer N s none none → e ≡ a → Err e ≡ checked a
checked_err {e} {a} N s l h k = ap {B = Result (Unit {0}) Answer} (λ y. Err y) k ∙ sym (checked_broken a (let f = ap (λ (y : Answer). y.n) h in λ z. let w : ⊥ = omega arith in w))

-- what `?` returns where a check breaks
pub handed : {r : Result (Unit {0}) Answer} {e : Answer} → IsErr r × IsErrAnd r (λ y. y ≡ e) → r ≡ Err e
handed {r} {e} h = go r h.1
  where
    go : (r : Result (Unit {0}) Answer) → IsErrAnd r (λ y. y ≡ e) → r ≡ Err e
    go (Ok u) k = absurd k
    go (Err y) k = ap {B = Result (Unit {0}) Answer} (λ y. Err y) k

-- `try_for_each` over the positions below n: E is what `?` hands over, of which `broken` is the answer
module _ {F : Type 0} (g : Mut F (ℕ × Unit {0}) (Result (Unit {0}) Answer)) where
  -- a call after which the chain goes on, and how it ends
  abbrev Turn : F → ℕ → F → Type 0
  Turn p x q = (v : Result (Unit {0}) Answer) × Called g p (x, tt) v q × (v ≡ Ok tt)

  module _ {E : Type 0} (broken : E → Answer) (r : Result (Unit {0}) Answer) where
    abbrev End : F → Option ℕ → Type 0
    End j o = MatchOption o (r ≡ Ok tt) (λ x. (v : Result (Unit {0}) Answer) × (h : F) × (e : E) × Called g j (x, tt) v h × (v ≡ Err (broken e)) × (IsErr r × IsErrAnd r (λ y. y ≡ broken e)))

    module _ (f : F) (n : ℕ) (q : ℕ → Answer) (computes : (x : ℕ) (v : Result (Unit {0}) Answer) (k : F) → Called g f (x, tt) v k → (k ≡ f) × (v ≡ checked (q x))) where
      each : (xs : List ℕ) (a : ℕ) (s t u : Range ℕ) (o : Option ℕ) (j : F) → s.start ≡ a → s.end ≡ n → a ≤ n → (up_to a q).n ≡ 0 → Yields nat_range_steps s xs t → nat_range_steps t o u → FoldsTo Turn f xs j → End j o → r ≡ checked (up_to n q)
      each [] a s t u None j c d l e y p k m =
          let z : a ≡ n = omega (arith, ap (λ (s : Range ℕ). s.start) y, ap (λ (s : Range ℕ). s.end) y) in m ∙ passed_all q n (rw z at e)
      each [] a s t u (Some x) j c d l e y p k m =
          let at : x ≡ a = omega (arith, ap (λ (s : Range ℕ). s.start) y) in
          let here : a < n = omega (arith, ap (λ (s : Range ℕ). s.start) y, ap (λ (s : Range ℕ). s.end) y) in
          let v : m.0 ≡ checked (q a) = rw at at (computes x m.0 m.1 (subst (λ i. Called g i (x, tt) m.0 m.1) (sym k) m.3)).1 in
          handed m.5 ∙ broken_at q n a here e (sym m.4 ∙ v)
      each (x ∷ xs) a s t u o j c d l e y p k m =
          let at : x ≡ a = omega arith in
          let call = computes x k.1.0 k.0 k.1.1 in
          let v : k.1.0 ≡ checked (q a) = rw at at call.1 in
          each xs (a + 1) y.0 t u o j (omega arith) (omega arith) (omega arith) (passed_more q a e (sym k.1.2 ∙ v)) y.2 p (subst (λ i. FoldsTo Turn i xs j) call.0 k.2) m

pub checked_below : {E F : Type 0} {broken : E → Answer} {g : Mut F (ℕ × Unit {0}) (Result (Unit {0}) Answer)} {f : F} {r : Result (Unit {0}) Answer} {m n : ℕ} (q : ℕ → Answer) {s u : Range ℕ} → s ≡ record { start = 0; end = m } → m ≡ n
    → ((xs : List ℕ) × (o : Option ℕ) × (j : F) × YieldsThen nat_range_steps s xs o u × FoldsTo (Turn g) f xs j × End g broken r j o)
    → ((x : ℕ) (v : Result (Unit {0}) Answer) (k : F) → Called g f (x, tt) v k → (k ≡ f) × (v ≡ checked (q x)))
    → r ≡ checked (up_to n q)
checked_below {broken = broken} {g = g} {f = f} {r = r} {n = n} q {s} {u} e d ran h =
    each g broken r f n q h ran.0 0 s ran.3.0 u ran.1 ran.2 (ap (λ (s : Range ℕ). s.start) e) (ap (λ (s : Range ℕ). s.end) e ∙ d) (omega arith) (passed_none q) ran.3.1 ran.3.2 ran.4 ran.5

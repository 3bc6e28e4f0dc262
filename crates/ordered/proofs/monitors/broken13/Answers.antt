-- `ordered::monitors::broken13` meets its contract.
use Prim.Native.Nat.{ℕ, ◌<◌}
use native.Mathlib.Omega.{arith}
use mathlib.Core.Path.{◌≡◌, refl, sym, ◌∙◌, ap}
use mathlib.Core.Logic.{◌⊎◌, ⊎_elim}
use mathlib.Core.Bool.{true, false, not, or-false}
use mathlib.Core.List.{List}
use lib.Dec.{eqb}
use borrow.Author.Tests.{ne_eqb}
use Rattle.model.specs.declared.Kind.{Kind}
use Rattle.model.specs.declared.Kind.TheVariants.{Read, Write, VolatileRead, VolatileWrite, Lock, Unlock, Start, First, Last, Join, External}
use Rattle.model.specs.Bytes.{byte_of}
use Rattle.model.specs.Layout.{kind, thread}
use Rattle.model.specs.Rules.{held, broken13}
use Rattle.std.specs.Prelude.{Some}
use Rattle.ordered.specs.Monitors.{admits}
use Rattle.ordered.proofs.monitors.broken13.Goals as goal

-- what is asked of an action, by its kind
module _ (x : List ℕ) (a : ℕ) {k : ℕ} (e : k ≡ kind x a) where
  of_lock : 5 ≡ k → broken13 x a ≡ held x a (λ t. true)
  unfolding broken13
  of_lock h = rw (← e, ← h) (simp or-false)

  of_unlock : 6 ≡ k → broken13 x a ≡ not (held x a (λ t. eqb t (thread x a)))
  unfolding broken13
  of_unlock h = rw (← e, ← h)

  of_no_kind : (k ≡ 0) ⊎ (11 < k) → false ≡ broken13 x a
  unfolding broken13
  of_no_kind =
      ⊎_elim (λ h. rw (← e, h))
      (λ h. rw (← e, ne_eqb k 5 (λ z. omega arith), ne_eqb k 6 (λ z. omega arith)))

  of_others : (l : Kind) → byte_of l ≡ k → (l ≡ Lock → ⊥) → (l ≡ Unlock → ⊥) → false ≡ broken13 x a
  unfolding broken13
  of_others Read h f g = rw (← e, ← h)
  of_others Write h f g = rw (← e, ← h)
  of_others VolatileRead h f g = rw (← e, ← h)
  of_others VolatileWrite h f g = rw (← e, ← h)
  of_others Lock h f g = absurd (f refl)
  of_others Unlock h f g = absurd (g refl)
  of_others Start h f g = rw (← e, ← h)
  of_others First h f g = rw (← e, ← h)
  of_others Last h f g = rw (← e, ← h)
  of_others Join h f g = rw (← e, ← h)
  of_others External h f g = rw (← e, ← h)

pub returns-in-Lock : goal.returns-in-Lock
returns-in-Lock c =
    let h = rw c.in-Lock.is at c.in-Ok.ensures in
    c.held.ensures ∙ sym (of_lock c.args.x.now c.args.a c.kind.ensures h)

pub returns-in-Unlock : goal.returns-in-Unlock
returns-in-Unlock c =
    let h = rw c.in-Unlock.is at c.in-Ok.ensures in
    let by_own = ap (λ (t : ℕ). held c.args.x.now c.args.a (admits (Some t))) c.thread.ensures in
    ap not (c.held-in-Unlock.ensures ∙ by_own) ∙ sym (of_unlock c.args.x.now c.args.a c.kind.ensures h)

pub returns-in_default-kind : goal.returns-in_default-kind
returns-in_default-kind c =
    let d = c.in_default-kind in
    of_others c.args.x.now c.args.a c.kind.ensures c.in-Ok.kind c.in-Ok.ensures d.not-Lock d.not-Unlock

pub returns-in_default : goal.returns-in_default
returns-in_default c = of_no_kind c.args.x.now c.args.a c.kind.ensures c.in_default.ensures

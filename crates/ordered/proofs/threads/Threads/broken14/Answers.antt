-- `ordered::threads::Threads::broken14` meets its contract.
use Prim.Native.Nat.{ℕ, ◌<◌}
use native.Mathlib.Omega.{arith}
use mathlib.Core.Path.{◌≡◌, refl, sym, ◌∙◌}
use mathlib.Core.Logic.{◌⊎◌, ⊎_elim}
use mathlib.Core.Bool.{false, ◌&&◌, or-false}
use mathlib.Core.List.{List}
use lib.Dec.{eqb, ltb}
use borrow.Author.Tests.{ne_eqb}
use Rattle.model.specs.declared.Kind.{Kind}
use Rattle.model.specs.declared.Kind.TheVariants.{Read, Write, VolatileRead, VolatileWrite, Lock, Unlock, Start, First, Last, Join, External}
use Rattle.model.specs.Bytes.{byte_of}
use Rattle.model.specs.Search.{any}
use Rattle.model.specs.Layout.{size, kind, thread}
use Rattle.model.specs.Rules.{broken14, misstarted, misjoined}
use Rattle.positions.proofs.Tables.{thread_before}
use Rattle.ordered.proofs.Largest.{last_after}
use Rattle.ordered.proofs.threads.Threads.broken14.Goals as goal

-- what is asked of an action, by its kind
module _ (x : List ℕ) (a : ℕ) {k : ℕ} (e : k ≡ kind x a) where
  of_first : 8 ≡ k → broken14 x a ≡ any a (λ b. eqb (thread x b) (thread x a))
  unfolding broken14
  of_first h = rw (← e, ← h) (simp or-false)

  of_last : 9 ≡ k → broken14 x a ≡ any (size x) (λ b. ltb a b && eqb (thread x b) (thread x a))
  unfolding broken14
  of_last h = rw (← e, ← h) (simp or-false)

  of_start : 7 ≡ k → broken14 x a ≡ misstarted x a
  unfolding broken14
  of_start h = rw (← e, ← h) (simp or-false)

  of_join : 10 ≡ k → broken14 x a ≡ misjoined x a
  unfolding broken14
  of_join h = rw (← e, ← h)

  of_no_kind : (k ≡ 0) ⊎ (11 < k) → false ≡ broken14 x a
  unfolding broken14
  of_no_kind =
      ⊎_elim (λ h. rw (← e, h))
      (λ h. rw (← e, ne_eqb k 8 (λ z. omega arith), ne_eqb k 9 (λ z. omega arith), ne_eqb k 7 (λ z. omega arith), ne_eqb k 10 (λ z. omega arith)))

  of_others : (l : Kind) → byte_of l ≡ k → (l ≡ First → ⊥) → (l ≡ Last → ⊥) → (l ≡ Start → ⊥) → (l ≡ Join → ⊥) → false ≡ broken14 x a
  unfolding broken14
  of_others Read h f g s j = rw (← e, ← h)
  of_others Write h f g s j = rw (← e, ← h)
  of_others VolatileRead h f g s j = rw (← e, ← h)
  of_others VolatileWrite h f g s j = rw (← e, ← h)
  of_others Lock h f g s j = rw (← e, ← h)
  of_others Unlock h f g s j = rw (← e, ← h)
  of_others Start h f g s j = absurd (s refl)
  of_others First h f g s j = absurd (f refl)
  of_others Last h f g s j = absurd (g refl)
  of_others Join h f g s j = absurd (j refl)
  of_others External h f g s j = rw (← e, ← h)

pub returns-in-First : goal.returns-in-First
returns-in-First c =
    let x = c.args.self.now.x.now in
    let a = c.args.a in
    let h = rw c.in-First.is at c.in-Ok.ensures in
    thread_before x (omega (arith, c.args.self.now.limited)) a c.thread-thread.ensures (omega arith) (omega arith) c.args.self.now.have_first
    ∙ sym (of_first x a c.kind.ensures h)

pub returns-in-Last : goal.returns-in-Last
returns-in-Last c =
    let x = c.args.self.now.x.now in
    let a = c.args.a in
    let h = rw c.in-Last.is at c.in-Ok.ensures in
    last_after x c.args.self.now.last.now c.args.self.now.have_last a c.thread-thread.ensures (omega arith)
    ∙ sym (of_last x a c.kind.ensures h)

pub returns-in-Start : goal.returns-in-Start
returns-in-Start c =
    let h = rw c.in-Start.is at c.in-Ok.ensures in
    c.misstarted.ensures ∙ sym (of_start c.args.self.now.x.now c.args.a c.kind.ensures h)

pub returns-in-Join : goal.returns-in-Join
returns-in-Join c =
    let h = rw c.in-Join.is at c.in-Ok.ensures in
    c.misjoined.ensures ∙ sym (of_join c.args.self.now.x.now c.args.a c.kind.ensures h)

pub returns-in_default-kind : goal.returns-in_default-kind
returns-in_default-kind c =
    let d = c.in_default-kind in
    of_others c.args.self.now.x.now c.args.a c.kind.ensures c.in-Ok.kind c.in-Ok.ensures d.not-First d.not-Last d.not-Start d.not-Join

pub returns-in_default : goal.returns-in_default
returns-in_default c = of_no_kind c.args.self.now.x.now c.args.a c.kind.ensures c.in_default.ensures

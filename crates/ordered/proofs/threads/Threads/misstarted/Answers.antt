-- `ordered::threads::Threads::misstarted` meets its contract.
use Prim.Native.Nat.{ℕ}
use native.Mathlib.Omega.{arith}
use mathlib.Core.Path.{◌≡◌}
use mathlib.Core.Bool.{Bool, ◌&&◌, ◌||◌}
use mathlib.Core.List.{List}
use lib.Dec.{eqb}
use borrow.Author.Tests.{eq-eqb, ne_eqb}
use Rattle.model.specs.Search.{any}
use Rattle.model.specs.Layout.{thread, kind, target}
use Rattle.model.specs.Rules.{misstarted}
use Rattle.positions.proofs.Tables.{start_before}
use Rattle.ordered.proofs.threads.Threads.misstarted.Goals as goal
use Rattle.ordered.proofs.threads.Threads.misstarted.Goals.{then-target-thread, else-target-thread, Joined-target-thread}

-- a start of the own thread, or of one already started
abbrev again : List ℕ → ℕ → Bool
again x a = eqb (target x a) (thread x a) || any a (λ b. eqb (kind x b) 7 && eqb (target x b) (target x a))

-- what the code tests first
value_is : (c : Joined-target-thread) → c.if-target-thread.value ≡ again c.args.self.now.x.now c.args.a
value_is c =
    let x = c.args.self.now.x.now in
    let started = start_before x (omega (arith, c.args.self.now.limited)) c.args.a c.target-target.ensures (omega arith) (omega arith) c.args.self.now.have_start in
    elim c.if-target-thread.branch [
      | then-target-thread w ↦ rw (w.value-is, ← c.target-target.ensures, ← c.thread.ensures, eq-eqb _ _ w.if-target-thread.true)
      | else-target-thread w ↦ rw (w.value-is, started, ← c.target-target.ensures, ← c.thread.ensures, ne_eqb _ _ w.if-target-thread.false)
    ]

pub returns-then-self-target : goal.returns-then-self-target
unfolding misstarted
returns-then-self-target c = rw (← value_is (goal.at.returns-then-self-target c).Joined-target-thread, c.if-self-target.true)

pub returns-else-self-target : goal.returns-else-self-target
unfolding misstarted
returns-else-self-target c =
    rw (← value_is (goal.at.returns-else-self-target c).Joined-target-thread, c.if-self-target.false) c.begun.ensures

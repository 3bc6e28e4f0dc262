-- `positions::firsts::firsts` meets its contract: the table has the first actions before b.
use Prim.Native.Nat.{ℕ}
use native.Mathlib.Omega.{arith}
use mathlib.Core.Path.{◌≡◌}
use mathlib.Core.List.{List}
use Rattle.model.specs.Layout.{size}
use Rattle.positions.specs.Firsts.{key_of}
use Rattle.positions.proofs.Tables.{Kept, kept_none, kept_old, kept_new, kept_all}
use Rattle.positions.proofs.firsts.firsts.Goals as goal
use Rattle.positions.proofs.firsts.firsts.Goals.{then-v-lt-KEYS+then-first-v, then-v-lt-KEYS+else-first-v, else-v-lt-KEYS}

pub loop-b-init : goal.loop-b-init
loop-b-init c = (omega arith, kept_none _)

pub loop-b-preserved : goal.loop-b-preserved
loop-b-preserved c = (
  omega arith,
  elim c.if-v-lt-KEYS.branch [
    | then-v-lt-KEYS+then-first-v w ↦ rw w.first-is (kept_new k l b kept (omega arith) own w.if-v-lt-KEYS.true w.if-first-v.true)
    | then-v-lt-KEYS+else-first-v w ↦ rw w.first-is (kept_old k l b kept (λ m. rw (← own) w.if-first-v.false))
    | else-v-lt-KEYS w ↦ rw w.first-is (kept_old k l b kept (λ m. absurd (let z : ⊥ = omega (arith, own, w.if-v-lt-KEYS.false) in z)))
  ],
)
  where
    k : ℕ → ℕ
    k = let args = c.args in key_of args.x.now args.key

    l : List ℕ
    l = c.loop-b.first

    b : ℕ
    b = c.loop-b.b

    kept : Kept k l b
    kept = c.loop-b.invariant.1

    own : c.key_of-v.result ≡ k b
    own = c.key_of-v.ensures

pub returns : goal.returns
returns c =
    let args = c.args in
    let e : c.loop-b.b ≡ size args.x.now = omega (arith, c.size-n.ensures) in
    kept_all args.x.now args.key c.loop-b.first (rw e at c.loop-b.invariant.1)

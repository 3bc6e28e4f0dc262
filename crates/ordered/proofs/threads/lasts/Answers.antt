-- `ordered::threads::lasts` meets its contract: the table has the last actions before b.
use Prim.Native.Nat.{◌<◌}
use native.Mathlib.Omega.{arith}
use mathlib.Core.Path.{◌≡◌, refl}
use lib.ListN.{length-set}
use Rattle.model.specs.Layout.{size, thread}
use Rattle.positions.specs.Firsts.{keys}
use Rattle.ordered.proofs.Largest.{largest_none, largest_more, largest_le}
use Rattle.ordered.proofs.threads.lasts.Goals as goal

pub loop-b-init : goal.loop-b-init
loop-b-init c = (omega arith, refl, largest_none _ _)

pub loop-b-preserved : goal.loop-b-preserved
loop-b-preserved c =
    let x = c.args.x.now in
    let l = c.loop-b.last in
    let b = c.loop-b.b in
    let kept = c.loop-b.invariant.2 in
    let small : c.thread.result < keys = omega arith in (
      omega arith,
      simp length-set c.loop-b.invariant.1,
      largest_more (thread x) (λ b. b) b l kept c.thread.ensures refl (rw c.loop-b.invariant.1 small) small
          (largest_le (thread x) (λ b. b) b l kept (λ b. refl) c.thread.result small),
    )

pub returns : goal.returns
returns c =
    let e : c.loop-b.b ≡ size c.args.x.now = omega (arith, c.size-b-end.ensures) in
    rw e at c.loop-b.invariant.2

-- `ordered::order::first12` meets its contract: the table has the largest places before a, and nothing is broken there.
use Prim.Native.Nat.{ℕ, ◌<◌}
use native.Mathlib.Omega.{arith}
use mathlib.Core.Path.{◌≡◌, refl, sym, ◌∙◌}
use mathlib.Core.Bool.{false}
use mathlib.Core.List.{List}
use borrow.Author.Tests.{lt-ltb, le-ltb}
use lib.ListN.{length, length-set}
use Rattle.model.specs.Search.{any}
use Rattle.model.specs.Layout.{size, place, sync}
use Rattle.model.specs.Rules.{broken12}
use Rattle.positions.specs.Firsts.{keys}
use Rattle.model.proofs.Search.{any_none, any_pass}
use Rattle.model.proofs.Options.{position_none, position_at}
use Rattle.ordered.specs.Threads.{Largest, thread_key}
use Rattle.ordered.proofs.Largest.{largest_none, largest_past, largest_more, sync_key, largest_breaks, no_sync}
use Rattle.ordered.proofs.order.first12.Goals as goal
use Rattle.ordered.proofs.order.first12.Goals.{then-sync+else-place-largest, else-sync}

pub loop-a-init : goal.loop-a-init
loop-a-init c = (refl, largest_none _ _, omega arith, any_none _)

pub returns-then-place-largest : goal.returns-then-place-largest
returns-then-place-largest c =
    let l = c.loop-a in
    let synced = sym c.sync.ensures ∙ c.if-sync.true in
    let breaks = largest_breaks _ l.largest l.a l.invariant.1 synced c.thread-thread.ensures c.place-place.ensures (omega arith) in
    position_at _ _ l.a (omega arith) (omega arith) l.invariant.3 (sym breaks ∙ lt-ltb _ _ c.if-place-largest.true)

pub loop-a-preserved : goal.loop-a-preserved
loop-a-preserved c =
    elim c.if-sync.branch [
      | then-sync+else-place-largest w ↦
          let small : w.thread-thread.result < keys = omega arith in
          let synced = flag ∙ w.if-sync.true in (
            rw w.largest-is (simp length-set sized),
            rw w.largest-is (largest_more (thread_key x) (place x) a l kept (w.thread-thread.ensures ∙ sym (sync_key x a synced)) w.place-place.ensures (rw sized small) small w.if-place-largest.false),
            omega arith,
            any_pass _ a passed (sym (largest_breaks x l a kept synced w.thread-thread.ensures w.place-place.ensures small) ∙ le-ltb _ _ w.if-place-largest.false),
          )
      | else-sync w ↦
          let plain = flag ∙ w.if-sync.false in (
            rw w.largest-is sized,
            rw w.largest-is (largest_past (thread_key x) (place x) a l kept (rw plain (omega arith))),
            omega arith,
            any_pass _ a passed (no_sync x a plain),
          )
    ]
  where
    x : List ℕ
    x = c.args.x.now

    a : ℕ
    a = c.loop-a.a

    l : List ℕ
    l = c.loop-a.largest

    sized : length l ≡ keys
    sized = c.loop-a.invariant.0

    kept : Largest (thread_key x) (place x) a l
    kept = c.loop-a.invariant.1

    passed : any a (broken12 x) ≡ false
    passed = c.loop-a.invariant.3

    flag : sync x a ≡ c.sync.result
    flag = sym c.sync.ensures

pub returns : goal.returns
returns c =
    let e : c.loop-a.a ≡ size c.args.x.now = omega (arith, c.size-a-end.ensures) in position_none _ _ (rw e at c.loop-a.invariant.3)

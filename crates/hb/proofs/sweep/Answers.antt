-- `hb::sweep` meets its contract: the actions from a on are passed.
use Prim.Native.Nat.{◌+◌, ◌-◌}
use mathlib.Core.Path.{◌≡◌, ◌∙◌}
use native.Mathlib.Omega.{arith}
use Rattle.hb.proofs.Passing.{sweep_none, later_none, sweep_more, later_more}
use Rattle.hb.proofs.sweep.Goals as goal

pub loop-a-init : goal.loop-a-init
loop-a-init c = (c.clear.ensures ∙ sweep_none _ _ c.requires.part_len, later_none c.args.x.now _)

pub loop-a-preserved : goal.loop-a-preserved
loop-a-preserved c =
    let (h, by_thread) = c.loop-a.invariant in
    let x = c.args.x.now in
    let own = c.thread-t.ensures in
    let step : c.loop-a.a ≡ c.loop-a.a - 1 + 1 = omega arith in
    let swept = sweep_more x _ c.loop-a.a (c.loop-a.a - 1) step (omega arith) own _ by_thread (omega arith) (omega arith) c.requires.listed h c.join.ensures c.edges_from.ensures in (
      swept,
      c.set.ensures ∙ later_more x _ c.loop-a.a (c.loop-a.a - 1) step (omega arith) own _ by_thread (omega arith) (omega arith) swept c.join-in-loop-a.ensures,
    )

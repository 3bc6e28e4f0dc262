-- `lined::sweep` meets its contract: the actions from a on are passed.
use Prim.Native.Nat.{◌+◌, ◌-◌, ◌<◌}
use mathlib.Core.Path.{◌≡◌, ap, ◌∙◌}
use native.Mathlib.Omega.{arith}
use Rattle.model.specs.Layout.{size, thread}
use Rattle.lined.specs.Line.{slot, given_row, taken_row, lined_part}
use Rattle.lined.proofs.Objects.{given_below, taken_below}
use Rattle.lined.proofs.Line.{small, lined_parts}
use Rattle.lined.proofs.Passing.{passed_none, passed_all, noted_none, after_row, passed_more, from_row, noted_more}
use Rattle.lined.proofs.sweep.Goals as goal

pub loop-a-init : goal.loop-a-init
loop-a-init c =
    let x = c.args.x.now in
    let (len, few, fit, timely) = lined_parts _ _ c.requires in
    record {
      filled = c.clear.ensures ∙ rw c.size-a.ensures (passed_none x len);
      threads = rw c.size-a.ensures (noted_none x (thread x) 64);
      objects = rw c.size-a.ensures (noted_none x (taken_row x) 384);
    }

pub single-requires : goal.single-requires
single-requires c = let (len, few, fit, timely) = lined_parts _ _ c.requires in omega arith

pub loop-a-preserved : goal.loop-a-preserved
loop-a-preserved c =
    let i = c.loop-a.invariant in
    let x = c.args.x.now in
    let (len, few, fit, timely) = lined_parts _ _ c.requires in
    let a = c.loop-a.a - 1 in
    let step : c.loop-a.a ≡ a + 1 = omega arith in
    let inside : a < size x = omega arith in
    let own = c.thread-t.ensures in
    let (narrow, given, taken) = small x _ fit a inside in
    let gives : c.slot.result ≡ given_row x a = c.slot.ensures ∙ ap slot c.given.ensures in
    let takes : c.slot-in-loop-a.result ≡ taken_row x a = c.slot-in-loop-a.ensures ∙ ap slot c.taken.ensures in
    let after = after_row x c.loop-a.a a step inside fit timely own (omega arith) gives (rw gives (given_below x a given)) i.threads i.objects c.join.ensures c.join-in-loop-a.ensures in
    let from = from_row x c.loop-a.a a step inside fit timely after c.single.ensures c.join-in-loop-a-3.ensures in
    record {
      filled = passed_more x c.loop-a.a a step inside fit timely i.filled after (omega arith) c.join-in-loop-a-2.ensures;
      threads = noted_more x c.loop-a.a a step inside fit timely (thread x) 64 own (omega arith) i.threads from c.join-in-loop-a-4.ensures;
      objects = noted_more x c.loop-a.a a step inside fit timely (taken_row x) 384 takes (rw takes (taken_below x a taken)) i.objects from c.join-in-loop-a-5.ensures;
    }

pub returns : goal.returns
unfolding lined_part
returns c =
    let e : c.loop-a.a ≡ 0 = omega arith in rw c.requires ((rw e at c.loop-a.invariant.filled) ∙ passed_all _)

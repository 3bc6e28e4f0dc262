-- `lined::timely` meets its contract: no action before a is late, and the rows that they take are marked.
use mathlib.Core.Path.{refl, sym, ap, ◌∙◌}
use native.Mathlib.Omega.{arith}
use lib.ListN.{length-set}
use Rattle.model.proofs.Search.{any_none, any_pass}
use Rattle.lined.specs.Line.{slot}
use Rattle.lined.proofs.Objects.{given_below, taken_below}
use Rattle.lined.proofs.Line.{small, given_between, late_marked, late_not, marks_none, marks_more, marks_kept, taken_outside, refused}
use Rattle.lined.proofs.timely.Goals as goal
use Rattle.lined.proofs.timely.Goals.{then-freely+else-seen-slot, else-freely}

pub loop-a-init : goal.loop-a-init
loop-a-init c = record { all = refl; so_far = any_none _; marks = marks_none _ }

pub bounds-seen-slot : goal.bounds-seen-slot
bounds-seen-slot c =
    let row = c.slot.ensures ∙ ap slot c.given.ensures in
    omega (arith, given_below _ _ (small _ _ c.requires c.loop-a.a (omega arith)).1)

pub returns-then-seen-slot : goal.returns-then-seen-slot
returns-then-seen-slot c =
    let row = c.slot.ensures ∙ ap slot c.given.ensures in
    let free = sym c.freely.ensures ∙ c.if-freely.true in
    let (low, high) = given_between _ _ c.requires _ (omega arith) free in
    refused _ _ _ (omega arith)
    (sym (late_marked _ _ c.loop-a.seen c.loop-a.invariant.marks free low high) ∙ (rw row at c.if-seen-slot.true))

pub bounds-seen-slot-then-freely : goal.bounds-seen-slot-then-freely
bounds-seen-slot-then-freely c =
    let row = c.slot-then-freely.ensures ∙ ap slot c.taken.ensures in
    omega (arith, taken_below _ _ (small _ _ c.requires c.loop-a.a (omega arith)).2)

pub loop-a-preserved : goal.loop-a-preserved
loop-a-preserved c =
    let fit = c.requires in
    let i = c.loop-a.invariant in
    elim c.if-freely.branch [
      | then-freely+else-seen-slot w ↦
          let given = w.slot.ensures ∙ ap slot w.given.ensures in
          let taken = w.slot-then-freely.ensures ∙ ap slot w.taken.ensures in
          let free = sym c.freely.ensures ∙ w.if-freely.true in
          let (low, high) = given_between _ _ fit _ (omega arith) free in
          record {
            all = rw w.seen-is (simp length-set i.all);
            so_far = any_pass _ _ i.so_far (sym (late_marked _ _ c.loop-a.seen i.marks free low high) ∙ (rw given at w.if-seen-slot.false));
            marks = rw w.seen-is (marks_more _ _ c.loop-a.seen i.marks i.all taken (rw taken (taken_below _ _ (small _ _ fit _ (omega arith)).2)));
          }
      | else-freely w ↦
          let free = sym c.freely.ensures ∙ w.if-freely.false in
          record {
            all = rw w.seen-is i.all;
            so_far = any_pass _ _ i.so_far (late_not _ _ fit _ (omega arith) free);
            marks = rw w.seen-is (marks_kept _ _ c.loop-a.seen i.marks (taken_outside _ _ fit _ (omega arith) free));
          }
    ]

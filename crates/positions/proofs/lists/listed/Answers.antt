-- `positions::lists::listed` meets its contract: the list has the positions before b.
use native.Mathlib.Omega.{arith}
use mathlib.Core.Path.{◌≡◌, refl, sym, ◌∙◌}
use Rattle.positions.specs.Lists.{of_kinds, within, listed}
use Rattle.positions.proofs.Listing.{positions_in, positions_out, positions_none, length_positions, within_fits}
use Rattle.positions.proofs.lists.listed.Goals as goal
use Rattle.positions.proofs.lists.listed.Goals.{then-of_kinds, else-of_kinds}

pub loop-b-init : goal.loop-b-init
loop-b-init c = (omega arith, c.new-list.ensures ∙ sym (positions_none _))

pub push-requires : goal.push-requires
push-requires c =
    rw c.loop-b.invariant.1 (omega (arith, length_positions (of_kinds c.args.x.now c.args.set) c.loop-b.b, within_fits c.args.x.now, c.within-b-end.ensures))

pub loop-b-preserved : goal.loop-b-preserved
loop-b-preserved c =
    elim c.if-of_kinds.branch [
      | then-of_kinds w ↦
          (omega (arith, c.within-b-end.ensures), rw (w.list-is, w.push.ensures, c.loop-b.invariant.1) (sym (positions_in _ c.loop-b.b (sym c.of_kinds.ensures ∙ w.if-of_kinds.true))))
      | else-of_kinds w ↦
          (omega (arith, c.within-b-end.ensures), rw (w.list-is, c.loop-b.invariant.1) (sym (positions_out _ c.loop-b.b (sym c.of_kinds.ensures ∙ w.if-of_kinds.false))))
    ]

pub returns : goal.returns
unfolding listed
returns c =
    let e : c.loop-b.b ≡ within c.args.x.now = omega (arith, c.within-b-end.ensures) in rw (c.loop-b.invariant.1, e) refl

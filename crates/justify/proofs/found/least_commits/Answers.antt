-- `justify::found::least_commits` meets its contract: the entries are found for the actions before a.
use Prim.Native.Nat.{◌<◌}
use Rattle.model.specs.Layout.{size}
use native.Mathlib.Omega.{arith}
use mathlib.Core.Path.{◌≡◌, refl, ap, ◌∙◌}
use lib.ListN.{length, length-set}
use borrow.Author.Rules.{rules}
use Rattle.model.specs.Limits.{max_actions}
use Rattle.model.specs.Rules.{twin}
use Rattle.justify.proofs.Least.{twin_found, twin_below, least_none, least_skip, least_put}
use Rattle.justify.proofs.found.least_commits.Goals as goal
use Rattle.justify.proofs.found.least_commits.Goals.{then-c-t, else-c-t}

pub loop-a-init : goal.loop-a-init
loop-a-init c = (search rules, refl, least_none _ max_actions c.requires.few)

pub bounds-t-b-then-c-t : goal.bounds-t-b-then-c-t
bounds-t-b-then-c-t c =
    let within : c.position_of-b.result < max_actions = let l = twin_below c.args.e.now c.loop-a.a (rw c.size-n.ensures at c.loop-a-test.true) in
    let b : c.position_of-b.result < size c.args.e.now = rw (c.position_of-b.ensures ∙ twin_found _ c.requires, c.ident.ensures) l in
    omega (arith, c.requires.few) in
    within

pub bounds-t-b : goal.bounds-t-b
bounds-t-b c =
    let within : c.position_of-b.result < max_actions = let l = twin_below c.args.e.now c.loop-a.a (rw c.size-n.ensures at c.loop-a-test.true) in
    let b : c.position_of-b.result < size c.args.e.now = rw (c.position_of-b.ensures ∙ twin_found _ c.requires, c.ident.ensures) l in
    omega (arith, c.requires.few) in
    within

pub loop-a-preserved : goal.loop-a-preserved
loop-a-preserved c =
    let first = c.position_of-b.ensures ∙ twin_found _ c.requires ∙ ap (twin c.args.e.now) c.ident.ensures in
    let own = c.commit-c.ensures in
    let l : c.loop-a.a < size c.args.e.now = rw c.size-n.ensures at c.loop-a-test.true in
    elim c.if-c-t.branch [
      | then-c-t w ↦ (
        search rules,
        ap length w.t-is ∙ simp length-set c.loop-a.invariant.1,
        rw w.t-is (least_put _ _ _ c.loop-a.invariant.2 _ _ first own l (omega (arith, c.requires.few)) w.if-c-t.true),
      )
      | else-c-t w ↦ (
        search rules,
        ap length w.t-is ∙ c.loop-a.invariant.1,
        rw w.t-is (least_skip _ _ _ c.loop-a.invariant.2 _ _ first own w.if-c-t.false),
      )
    ]

pub returns : goal.returns
returns c =
    let e : c.loop-a.a ≡ c.size-n.result = omega arith in
    rw (← c.size-n.ensures, ← e) c.loop-a.invariant.2

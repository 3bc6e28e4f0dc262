-- `rows::round` meets its contract. The loop's invariant: the rows before `a` are through round k. The words, being lent ones, have 64 bits, so those bits settle them.
use mathlib.Core.Path.{◌≡◌, refl, sym}
use native.Mathlib.Omega.{arith}
use borrow.Author.Rules.{rules}
use lib.Dec.{lit<}
use Rattle.rows.proofs.Rounds.{round_none, round_more}
use Rattle.rows.proofs.Steps.{rounded_outside, rounded_wide, rounded_past, rounded_by}
use Rattle.rows.proofs.round.Goals as goal

pub returns-then-k-n : goal.returns-then-k-n
returns-then-k-n c = sym (rounded_outside _ _ _ _ c.if-k-n.true)

pub returns-then-n : goal.returns-then-n
returns-then-n c = sym (rounded_wide _ _ _ _ c.if-n.true)

pub returns-then-n-part : goal.returns-then-n-part
returns-then-n-part c = sym (rounded_past _ _ _ _ c.if-n-part.true)

pub loop-a-init : goal.loop-a-init
loop-a-init c = (omega arith, search rules, round_none _ _ _)

pub loop-a-preserved : goal.loop-a-preserved
loop-a-preserved c = (
  omega arith,
  λ i. (c.type_inv.part i).fits,
  round_more _ _ _ c.loop-a.part c.loop-a.a _ c.loop-a.invariant.2 c.copied-taken.ensures refl c.follow.ensures,
)

pub shape_of-part : goal.shape_of-part
shape_of-part c = c.loop-a.invariant.2.long

pub returns : goal.returns
returns c =
    let (l, small, s) = c.loop-a.invariant in
    let e : c.loop-a.a ≡ c.args.n = omega arith in
    rounded_by _ _ _ _ (lit< tt) (omega arith) (omega arith) (omega arith) small (rw e at s)

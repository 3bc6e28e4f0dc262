-- `justify::step::Step::fresh` meets its contract.
use Prim.Native.Nat.{◌-◌, ◌<◌}
use native.Mathlib.Omega.{arith}
use borrow.Author.Tests.{le-leb, lt-leb}
use Rattle.model.specs.Search.{none}
use Rattle.model.proofs.Ways.{not_leb}
use Rattle.justify.proofs.Stage.{in_c}
use Rattle.justify.proofs.step.Step.fresh.Goals as goal

pub returns-then-s-self : goal.returns-then-s-self
returns-then-s-self c =
    let own = c.args.self.now in
    let l : own.i < none = omega arith in
    rw (
      in_c own.e.now c.args.d own.i l,
      in_c own.e.now c.args.d (own.i - 1) (omega arith),
      ← c.stage-s.ensures,
      le-leb _ _ c.if-s-self.true,
      ← c.previous.ensures,
    )
    (not_leb c.previous.result c.stage-s.result)

pub returns-else-s-self : goal.returns-else-s-self
returns-else-s-self c =
    let own = c.args.self.now in
    let l : own.i < none = omega arith in
    rw (in_c own.e.now c.args.d own.i l, ← c.stage-s.ensures, lt-leb _ _ c.if-s-self.false)

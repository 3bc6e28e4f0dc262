-- `justify::step::Step::has` meets its contract.
use native.Mathlib.Omega.{arith}
use mathlib.Core.Path.{sym}
use Rattle.justify.proofs.Stage.{in_c}
use Rattle.justify.proofs.step.Step.has.Goals as goal

pub returns : goal.returns
returns c = rw (c.stage.ensures) (sym (in_c _ _ _ (omega arith)))

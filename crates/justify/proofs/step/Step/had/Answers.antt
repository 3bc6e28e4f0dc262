-- `justify::step::Step::had` meets its contract.
use native.Mathlib.Omega.{arith}
use mathlib.Core.Path.{sym}
use Rattle.justify.proofs.Stage.{in_c}
use Rattle.justify.proofs.step.Step.had.Goals as goal

pub returns : goal.returns
returns c = rw (c.stage.ensures, c.previous.ensures) (sym (in_c _ _ _ (omega arith)))

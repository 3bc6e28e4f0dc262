-- `jmm::order` meets its contract.
use mathlib.Core.Path.{ap, ◌∙◌}
use Rattle.model.specs.Answers.{answered}
use Rattle.model.proofs.Checked.{answered_checked}
use Rattle.jmm.proofs.Clean.{clean_order}
use Rattle.jmm.proofs.order.Goals as goal

pub returns-clause-answer : goal.returns-clause-answer
returns-clause-answer c = c.answered.ensures ∙ ap answered c.in_order.ensures.answer ∙ answered_checked _ (clean_order _ _ _)

-- `jmm::race` meets its contract.
use mathlib.Core.Path.{ap, ◌∙◌}
use Rattle.model.specs.Answers.{answered}
use Rattle.model.proofs.Checked.{answered_checked}
use Rattle.jmm.proofs.Clean.{clean_race}
use Rattle.jmm.proofs.race.Goals as goal

pub returns-clause-answer : goal.returns-clause-answer
returns-clause-answer c = c.answered.ensures ∙ ap answered c.in_race.ensures.answer ∙ answered_checked _ (clean_race _ _)

-- `jmm::jxe_race` meets its contract.
use mathlib.Core.Path.{ap, ◌∙◌}
use Rattle.model.specs.Answers.{packed}
use Rattle.jmm.proofs.jxe_race.Goals as goal

pub returns : goal.returns
returns c = c.packed.ensures ∙ ap packed c.race.ensures.answer

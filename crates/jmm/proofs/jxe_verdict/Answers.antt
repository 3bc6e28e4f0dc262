-- `jmm::jxe_verdict` meets its contract.
use mathlib.Core.Path.{ap, ◌∙◌}
use Rattle.model.specs.Answers.{packed}
use Rattle.jmm.proofs.jxe_verdict.Goals as goal

pub returns : goal.returns
returns c = c.packed.ensures ∙ ap packed c.verdict.ensures.answer

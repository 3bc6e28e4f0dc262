-- `jmm::packed` meets its contract.
use mathlib.Core.Path.{refl}
use Rattle.model.specs.Answers.{packed}
use Rattle.jmm.proofs.packed.Goals as goal

pub returns : goal.returns
unfolding packed
returns c = refl

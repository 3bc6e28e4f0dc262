-- No second result meets a public promise of this crate.
use mathlib.Core.Path.{sym, ◌∙◌}
use Rattle.model.proofs.Settles.{Settles}
use Rattle.answers.proofs.numbered.Reads as numbered
use Rattle.answers.proofs.rule.Reads as rule
use Rattle.answers.proofs.rule_of_pair.Reads as rule_of_pair
use Rattle.answers.proofs.answered.Reads as answered

pub numbered_unique : Settles numbered.Post (λ κs r s. r)
numbered_unique κs x r q s t e f = e ∙ sym f

pub rule_unique : Settles rule.Post (λ κs r s. r)
rule_unique κs x r q s t e f = e ∙ sym f

pub rule_of_pair_unique : Settles rule_of_pair.Post (λ κs r s. r)
rule_of_pair_unique κs x r q s t e f = e ∙ sym f

pub answered_unique : Settles answered.Post (λ κs r s. r)
answered_unique κs x r q s t e f = e ∙ sym f

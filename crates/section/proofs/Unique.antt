-- No second result meets a public promise of this crate.
use mathlib.Core.Path.{sym, ◌∙◌}
use Rattle.model.proofs.Settles.{Settles}
use Rattle.section.proofs.misfielded.Reads as misfielded
use Rattle.section.proofs.repeated.Reads as repeated

pub misfielded_unique : Settles misfielded.Post (λ κs r s. r)
misfielded_unique κs x r q s t e f = e ∙ sym f

pub repeated_unique : Settles repeated.Post (λ κs r s. r)
repeated_unique κs x r q s t e f = e ∙ sym f

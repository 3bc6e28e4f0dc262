-- No second result meets a public promise of this crate.
use mathlib.Core.Path.{sym, ◌∙◌}
use Rattle.model.proofs.Settles.{Settles}
use Rattle.ordered.proofs.ordered.Reads as ordered

pub ordered_unique : Settles ordered.Post (λ κs r s. r)
ordered_unique κs x r q s t e f = e ∙ sym f

-- No second result meets a public promise of this crate.
use mathlib.Core.Path.{sym, ◌∙◌}
use Rattle.model.proofs.Settles.{Settles}
use Rattle.justify.proofs.committing.Reads as committing

pub committing_unique : Settles committing.Post (λ κs r s. r)
committing_unique κs x r q s t e f = e ∙ sym f

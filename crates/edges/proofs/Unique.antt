-- No second result meets a public promise of this crate.
use mathlib.Core.Path.{sym, ◌∙◌}
use Rattle.model.proofs.Settles.{Settles}
use Rattle.edges.proofs.loose.Reads as loose

pub loose_unique : Settles loose.Post (λ κs r s. r)
loose_unique κs x r q s t e f = e ∙ sym f

-- No second result meets a public promise of this crate.
use mathlib.Core.Path.{sym, ◌∙◌}
use Rattle.model.proofs.Settles.{Settles}
use Rattle.action.proofs.fielded.Reads as fielded

pub fielded_unique : Settles fielded.Post (λ κs r s. r)
fielded_unique κs x r q s t e f = e ∙ sym f

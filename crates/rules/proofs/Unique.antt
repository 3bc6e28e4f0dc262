-- No second result meets a public promise of this crate.
use mathlib.Core.Path.{sym, ◌∙◌}
use Rattle.model.proofs.Settles.{Settles}
use Rattle.rules.proofs.well_formed.Reads as well_formed
use Rattle.rules.proofs.racing.Reads as racing

pub well_formed_unique : Settles well_formed.Post (λ κs r s. r)
well_formed_unique κs x r q s t e f = e ∙ sym f

pub racing_unique : Settles racing.Post (λ κs r s. r)
racing_unique κs x r q s t e f = e ∙ sym f

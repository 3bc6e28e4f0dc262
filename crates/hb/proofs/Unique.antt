-- No second result meets a public promise of this crate.
use mathlib.Core.Path.{sym, ◌∙◌}
use Rattle.model.proofs.Settles.{Settles}
use Rattle.hb.proofs.fill.Reads as fill

pub fill_unique : Settles fill.Post (λ κs r s. s.1.0.now)
fill_unique κs x r q s t e f = e ∙ sym f

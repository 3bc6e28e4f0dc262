-- No second result meets a public promise of this crate.
use mathlib.Core.Path.{sym, ◌∙◌}
use Rattle.model.proofs.Settles.{Settles}
use Rattle.serial.proofs.serial.Reads as serial

pub serial_unique : Settles serial.Post (λ κs r s. s.1.0.now)
serial_unique κs x r q s t e f = e ∙ sym f

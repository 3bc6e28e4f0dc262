-- No second result meets a public promise of this crate.
use mathlib.Core.Path.{sym, ◌∙◌}
use Rattle.model.proofs.Settles.{Settles}
use Rattle.record.proofs.bounds.Reads as bounds
use Rattle.record.proofs.section.Reads as section
use Rattle.record.proofs.refusal.Reads as refusal

pub bounds_unique : Settles bounds.Post (λ κs r s. r)
bounds_unique κs x r q s t e f = e ∙ sym f

pub section_unique : Settles section.Post (λ κs r s. r.now)
section_unique κs x r q s t e f = e ∙ sym f

pub refusal_unique : Settles refusal.Post (λ κs r s. r)
refusal_unique κs x r q s t e f = e ∙ sym f

-- No second result meets a public promise of this crate.
use mathlib.Core.Path.{sym, ◌∙◌}
use Rattle.model.proofs.Settles.{Settles}
use Rattle.jmm_c.proofs.jxe_verdict.Reads as jxe_verdict
use Rattle.jmm_c.proofs.jxe_race.Reads as jxe_race

pub jxe_verdict_unique : Settles jxe_verdict.Post (λ κs r s. r)
jxe_verdict_unique κs x r q s t e f = e ∙ sym f

pub jxe_race_unique : Settles jxe_race.Post (λ κs r s. r)
jxe_race_unique κs x r q s t e f = e ∙ sym f

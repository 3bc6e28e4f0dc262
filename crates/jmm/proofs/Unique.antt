-- No second result meets a public promise of this crate.
use mathlib.Core.Path.{sym, ◌∙◌}
use Rattle.model.proofs.Settles.{Settles}
use Rattle.jmm.proofs.verdict.Reads as verdict
use Rattle.jmm.proofs.race.Reads as race
use Rattle.jmm.proofs.order.Reads as order
use Rattle.jmm.proofs.packed.Reads as packed
use Rattle.jmm.proofs.jxe_verdict.Reads as jxe_verdict
use Rattle.jmm.proofs.jxe_race.Reads as jxe_race

pub verdict_answer_unique : Settles verdict.Post (λ κs r s. r)
verdict_answer_unique κs x r q s t e f = e.0 ∙ sym f.0

pub verdict_words_unique : Settles verdict.Post (λ κs r s. s.1.0.now)
verdict_words_unique κs x r q s t e f = e.1 ∙ sym f.1

pub race_answer_unique : Settles race.Post (λ κs r s. r)
race_answer_unique κs x r q s t e f = e.0 ∙ sym f.0

pub race_words_unique : Settles race.Post (λ κs r s. s.1.0.now)
race_words_unique κs x r q s t e f = e.1 ∙ sym f.1

pub order_answer_unique : Settles order.Post (λ κs r s. r)
order_answer_unique κs x r q s t e f = e.0 ∙ sym f.0

pub order_words_unique : Settles order.Post (λ κs r s. s.1.0.now)
order_words_unique κs x r q s t e f = e.1.0 ∙ sym f.1.0

pub order_list_unique : Settles order.Post (λ κs r s. s.1.1.0.now)
order_list_unique κs x r q s t e f = e.1.1 ∙ sym f.1.1

pub packed_unique : Settles packed.Post (λ κs r s. r)
packed_unique κs x r q s t e f = e ∙ sym f

pub jxe_verdict_unique : Settles jxe_verdict.Post (λ κs r s. r)
jxe_verdict_unique κs x r q s t e f = e ∙ sym f

pub jxe_race_unique : Settles jxe_race.Post (λ κs r s. r)
jxe_race_unique κs x r q s t e f = e ∙ sym f

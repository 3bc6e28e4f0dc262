-- No second result meets a public promise of this crate.
use mathlib.Core.Path.{sym, ◌∙◌}
use Rattle.model.proofs.Settles.{Settles}
use Rattle.lent_c.proofs.lent_verdict.Reads as lent_verdict
use Rattle.lent_c.proofs.lent_race.Reads as lent_race
use Rattle.lent_c.proofs.lent_order.Reads as lent_order

pub lent_verdict_answer_unique : Settles lent_verdict.Post (λ κs r s. r)
lent_verdict_answer_unique κs x r q s t e f = e.0 ∙ sym f.0

pub lent_verdict_words_unique : Settles lent_verdict.Post (λ κs r s. s.1.0.now)
lent_verdict_words_unique κs x r q s t e f = e.1 ∙ sym f.1

pub lent_race_answer_unique : Settles lent_race.Post (λ κs r s. r)
lent_race_answer_unique κs x r q s t e f = e.0 ∙ sym f.0

pub lent_race_words_unique : Settles lent_race.Post (λ κs r s. s.1.0.now)
lent_race_words_unique κs x r q s t e f = e.1 ∙ sym f.1

pub lent_order_answer_unique : Settles lent_order.Post (λ κs r s. r)
lent_order_answer_unique κs x r q s t e f = e.0 ∙ sym f.0

pub lent_order_words_unique : Settles lent_order.Post (λ κs r s. s.1.0.now)
lent_order_words_unique κs x r q s t e f = e.1.0 ∙ sym f.1.0

pub lent_order_list_unique : Settles lent_order.Post (λ κs r s. s.1.1.0.now)
lent_order_list_unique κs x r q s t e f = e.1.1 ∙ sym f.1.1

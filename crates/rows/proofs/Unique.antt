-- No second result meets a public promise of this crate.
use mathlib.Core.Path.{sym, ◌∙◌}
use Rattle.model.proofs.Settles.{Settles}
use Rattle.rows.proofs.get.Reads as get
use Rattle.rows.proofs.before.Reads as before
use Rattle.rows.proofs.clear.Reads as clear
use Rattle.rows.proofs.set.Reads as set
use Rattle.rows.proofs.join.Reads as join
use Rattle.rows.proofs.round.Reads as round

pub get_unique : Settles get.Post (λ κs r s. r)
get_unique κs x r q s t e f = e ∙ sym f

pub before_unique : Settles before.Post (λ κs r s. r)
before_unique κs x r q s t e f = e ∙ sym f

pub clear_unique : Settles clear.Post (λ κs r s. s.0.now)
clear_unique κs x r q s t e f = e ∙ sym f

pub set_unique : Settles set.Post (λ κs r s. s.0.now)
set_unique κs x r q s t e f = e ∙ sym f

pub join_unique : Settles join.Post (λ κs r s. s.0.now)
join_unique κs x r q s t e f = e ∙ sym f

pub round_unique : Settles round.Post (λ κs r s. s.0.now)
round_unique κs x r q s t e f = e ∙ sym f

-- No second result meets a public promise of this crate.
use mathlib.Core.Path.{sym, ◌∙◌}
use Rattle.model.proofs.Settles.{Settles}
use Rattle.relations.proofs.given.Reads as given
use Rattle.relations.proofs.taken.Reads as taken
use Rattle.relations.proofs.key.Reads as key
use Rattle.relations.proofs.offered.Reads as offered
use Rattle.relations.proofs.accepts.Reads as accepts
use Rattle.relations.proofs.po.Reads as po
use Rattle.relations.proofs.sw.Reads as sw

pub given_unique : Settles given.Post (λ κs r s. r)
given_unique κs x r q s t e f = e ∙ sym f

pub taken_unique : Settles taken.Post (λ κs r s. r)
taken_unique κs x r q s t e f = e ∙ sym f

pub key_unique : Settles key.Post (λ κs r s. r)
key_unique κs x r q s t e f = e ∙ sym f

pub offered_unique : Settles offered.Post (λ κs r s. r)
offered_unique κs x r q s t e f = e ∙ sym f

pub accepts_unique : Settles accepts.Post (λ κs r s. r)
accepts_unique κs x r q s t e f = e ∙ sym f

pub po_unique : Settles po.Post (λ κs r s. r)
po_unique κs x r q s t e f = e ∙ sym f

pub sw_unique : Settles sw.Post (λ κs r s. r)
sw_unique κs x r q s t e f = e ∙ sym f

-- No second result meets a public promise of this crate.
use mathlib.Core.Path.{sym, ◌∙◌}
use Rattle.model.proofs.Settles.{Settles}
use Rattle.positions.proofs.lists.of_kinds.Reads as of_kinds
use Rattle.positions.proofs.lists.listed.Reads as listed
use Rattle.positions.proofs.lists.Positions.as_slice.Reads as as_slice
use Rattle.positions.proofs.firsts.firsts.Reads as firsts
use Rattle.positions.proofs.idents.position_of.Reads as position_of

pub of_kinds_unique : Settles of_kinds.Post (λ κs r s. r)
of_kinds_unique κs x r q s t e f = e ∙ sym f

pub listed_unique : Settles listed.Post (λ κs r s. r)
listed_unique κs x r q s t e f = e ∙ sym f

pub as_slice_unique : Settles as_slice.Post (λ κs r s. r.now)
as_slice_unique κs x r q s t e f = e ∙ sym f

pub firsts_unique : Settles firsts.Post (λ κs r s. r)
firsts_unique κs x r q s t e f = e ∙ sym f

pub position_of_unique : Settles position_of.Post (λ κs r s. r)
position_of_unique κs x r q s t e f = e ∙ sym f

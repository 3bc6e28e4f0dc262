-- No second result meets a public promise of this crate.
use mathlib.Core.Path.{sym, ◌∙◌}
use Rattle.model.proofs.Settles.{Settles}
use Rattle.table.proofs.row_of.Reads as row_of
use Rattle.table.proofs.gives.Reads as gives
use Rattle.table.proofs.takes.Reads as takes
use Rattle.table.proofs.sync.Reads as sync
use Rattle.table.proofs.read.Reads as read
use Rattle.table.proofs.write.Reads as write

pub row_of_unique : Settles row_of.Post (λ κs r s. r)
row_of_unique κs x r q s t e f = e ∙ sym f

pub gives_unique : Settles gives.Post (λ κs r s. r)
gives_unique κs x r q s t e f = e ∙ sym f

pub takes_unique : Settles takes.Post (λ κs r s. r)
takes_unique κs x r q s t e f = e ∙ sym f

pub sync_unique : Settles sync.Post (λ κs r s. r)
sync_unique κs x r q s t e f = e ∙ sym f

pub read_unique : Settles read.Post (λ κs r s. r)
read_unique κs x r q s t e f = e ∙ sym f

pub write_unique : Settles write.Post (λ κs r s. r)
write_unique κs x r q s t e f = e ∙ sym f

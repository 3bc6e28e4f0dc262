-- No second result meets a public promise of this crate.
use mathlib.Core.Path.{sym, ◌∙◌}
use Rattle.model.proofs.Settles.{Settles}
use Rattle.fields.proofs.byte.Reads as byte
use Rattle.fields.proofs.version.Reads as version
use Rattle.fields.proofs.threads.Reads as threads
use Rattle.fields.proofs.variables.Reads as variables
use Rattle.fields.proofs.monitors.Reads as monitors
use Rattle.fields.proofs.justifying.Reads as justifying
use Rattle.fields.proofs.header.Reads as header
use Rattle.fields.proofs.size.Reads as size
use Rattle.fields.proofs.ident.Reads as ident
use Rattle.fields.proofs.thread.Reads as thread
use Rattle.fields.proofs.kind.Reads as kind
use Rattle.fields.proofs.target.Reads as target
use Rattle.fields.proofs.own_or_target.Reads as own_or_target
use Rattle.fields.proofs.commit.Reads as commit
use Rattle.fields.proofs.place.Reads as place
use Rattle.fields.proofs.seen.Reads as seen
use Rattle.fields.proofs.unused.Reads as unused
use Rattle.fields.proofs.value.Reads as value
use Rattle.fields.proofs.action.Reads as action

pub byte_unique : Settles byte.Post (λ κs r s. r)
byte_unique κs x r q s t e f = e ∙ sym f

pub version_unique : Settles version.Post (λ κs r s. r)
version_unique κs x r q s t e f = e ∙ sym f

pub threads_unique : Settles threads.Post (λ κs r s. r)
threads_unique κs x r q s t e f = e ∙ sym f

pub variables_unique : Settles variables.Post (λ κs r s. r)
variables_unique κs x r q s t e f = e ∙ sym f

pub monitors_unique : Settles monitors.Post (λ κs r s. r)
monitors_unique κs x r q s t e f = e ∙ sym f

pub justifying_unique : Settles justifying.Post (λ κs r s. r)
justifying_unique κs x r q s t e f = e ∙ sym f

pub header_unique : Settles header.Post (λ κs r s. r)
header_unique κs x r q s t e f = e ∙ sym f

pub size_unique : Settles size.Post (λ κs r s. r)
size_unique κs x r q s t e f = e ∙ sym f

pub ident_unique : Settles ident.Post (λ κs r s. r)
ident_unique κs x r q s t e f = e ∙ sym f

pub thread_unique : Settles thread.Post (λ κs r s. r)
thread_unique κs x r q s t e f = e ∙ sym f

pub kind_unique : Settles kind.Post (λ κs r s. r)
kind_unique κs x r q s t e f = e ∙ sym f

pub target_unique : Settles target.Post (λ κs r s. r)
target_unique κs x r q s t e f = e ∙ sym f

pub own_or_target_unique : Settles own_or_target.Post (λ κs r s. r)
own_or_target_unique κs x r q s t e f = e ∙ sym f

pub commit_unique : Settles commit.Post (λ κs r s. r)
commit_unique κs x r q s t e f = e ∙ sym f

pub place_unique : Settles place.Post (λ κs r s. r)
place_unique κs x r q s t e f = e ∙ sym f

pub seen_unique : Settles seen.Post (λ κs r s. r)
seen_unique κs x r q s t e f = e ∙ sym f

pub unused_unique : Settles unused.Post (λ κs r s. r)
unused_unique κs x r q s t e f = e ∙ sym f

pub value_unique : Settles value.Post (λ κs r s. r)
value_unique κs x r q s t e f = e ∙ sym f

pub action_unique : Settles action.Post (λ κs r s. r)
action_unique κs x r q s t e f = e ∙ sym f

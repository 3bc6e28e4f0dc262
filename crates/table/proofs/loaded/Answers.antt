-- `table::loaded` meets its contract: the rows stand by the bytes of the kinds, and past them all stands row 0.
use mathlib.Core.Path.{sym}
use mathlib.Core.Logic.{⊎_elim}
use lib.ListN.{get_or-eq_default}
use Rattle.std.proofs.lemmas.List.{get_or_default}
use Rattle.model.specs.Kinds.{kinds, no_kind_row, kind_row}
use Rattle.model.proofs.Tags.{kind_tag, kind_below}
use Rattle.table.proofs.loaded.Goals as goal

pub returns-in-Ok : goal.returns-in-Ok
unfolding kind_row
returns-in-Ok c = rw (← c.in-Ok.ensures, kind_tag) (get_or_default kinds _ _ _ (kind_below c.in-Ok.kind))

pub returns-in-Err : goal.returns-in-Err
unfolding kind_row
returns-in-Err c = ⊎_elim (λ e. rw e) (λ h. sym (get_or-eq_default kinds no_kind_row h)) c.in-Err.ensures

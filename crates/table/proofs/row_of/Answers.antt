-- `table::row_of` meets its contract: each arm is the row of its kind, and where none is stands row 0.
use mathlib.Core.Path.{◌≡◌, sym, ap, ◌∙◌}
use mathlib.Core.Logic.{⊎_elim}
use Prim.Native.Nat.{ℕ}
use lib.ListN.{get_or-eq_default}
use Rattle.model.specs.declared.Kind.{Kind}
use Rattle.model.specs.Bytes.{byte_of}
use Rattle.model.specs.Kinds.{kinds, no_kind_row, kind_row}
use Rattle.table.proofs.row_of.Goals as goal

own_row : {k : ℕ} {l m : Kind} → l ≡ m → byte_of l ≡ k → kind_row (byte_of m) ≡ kind_row k
own_row is e = ap (λ (m : Kind). kind_row (byte_of m)) (sym is) ∙ ap kind_row e

pub returns-in-Ok-Read : goal.returns-in-Ok-Read
unfolding kind_row
returns-in-Ok-Read c = own_row c.in-Ok-Read.field-0-is c.in-Ok-Read.ensures

pub returns-in-Ok-Write : goal.returns-in-Ok-Write
unfolding kind_row
returns-in-Ok-Write c = own_row c.in-Ok-Write.field-0-is c.in-Ok-Write.ensures

pub returns-in-Ok-VolatileRead : goal.returns-in-Ok-VolatileRead
unfolding kind_row
returns-in-Ok-VolatileRead c = own_row c.in-Ok-VolatileRead.field-0-is c.in-Ok-VolatileRead.ensures

pub returns-in-Ok-VolatileWrite : goal.returns-in-Ok-VolatileWrite
unfolding kind_row
returns-in-Ok-VolatileWrite c = own_row c.in-Ok-VolatileWrite.field-0-is c.in-Ok-VolatileWrite.ensures

pub returns-in-Ok-Lock : goal.returns-in-Ok-Lock
unfolding kind_row
returns-in-Ok-Lock c = own_row c.in-Ok-Lock.field-0-is c.in-Ok-Lock.ensures

pub returns-in-Ok-Unlock : goal.returns-in-Ok-Unlock
unfolding kind_row
returns-in-Ok-Unlock c = own_row c.in-Ok-Unlock.field-0-is c.in-Ok-Unlock.ensures

pub returns-in-Ok-Start : goal.returns-in-Ok-Start
unfolding kind_row
returns-in-Ok-Start c = own_row c.in-Ok-Start.field-0-is c.in-Ok-Start.ensures

pub returns-in-Ok-First : goal.returns-in-Ok-First
unfolding kind_row
returns-in-Ok-First c = own_row c.in-Ok-First.field-0-is c.in-Ok-First.ensures

pub returns-in-Ok-Last : goal.returns-in-Ok-Last
unfolding kind_row
returns-in-Ok-Last c = own_row c.in-Ok-Last.field-0-is c.in-Ok-Last.ensures

pub returns-in-Ok-Join : goal.returns-in-Ok-Join
unfolding kind_row
returns-in-Ok-Join c = own_row c.in-Ok-Join.field-0-is c.in-Ok-Join.ensures

pub returns-in-Ok-External : goal.returns-in-Ok-External
unfolding kind_row
returns-in-Ok-External c = own_row c.in-Ok-External.field-0-is c.in-Ok-External.ensures

pub returns-in-Err : goal.returns-in-Err
unfolding kind_row
returns-in-Err c = ⊎_elim (λ e. rw e) (λ h. sym (get_or-eq_default kinds no_kind_row h)) c.in-Err.ensures

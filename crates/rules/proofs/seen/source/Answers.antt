-- `rules::seen::source` meets its contract.
use native.Mathlib.Omega.{arith}
use mathlib.Core.Path.{sym, ap, ◌∙◌}
use Rattle.std.specs.Prelude.{Some}
use Rattle.model.specs.Rules.{twin}
use Rattle.positions.proofs.Slots.{slot_twin}
use Rattle.model.proofs.Ways.{was_on, was_off, equal, unequal}
use Rattle.rules.proofs.Sources.{no_read, sees_initial, sees_action}
use Rattle.rules.proofs.seen.source.Goals as goal

pub returns-then-not-read : goal.returns-then-not-read
returns-then-not-read c = no_read _ _ (sym (was_off c.read.ensures c.if-not-read.true))

pub returns-then-d-eq0 : goal.returns-then-d-eq0
returns-then-d-eq0 c = sym (sees_initial _ _ (was_on c.read.ensures c.if-not-read.false) (equal _ c.seen-d.ensures c.if-d-eq0.true))

pub returns : goal.returns
returns c =
    ap Some (c.position_of.ensures ∙ slot_twin _ _ _ (omega (arith, c.requires.x_bound)) c.requires.first_value ∙ ap (twin _) c.seen-d.ensures)
    ∙ sym (sees_action _ _ (was_on c.read.ensures c.if-not-read.false) (sym (unequal _ c.seen-d.ensures c.if-d-eq0.false)))

-- `justify::committing` meets its contract: e and f are sections 0 and i of the record.
use mathlib.Core.Path.{◌≡◌}
use Rattle.model.specs.Layout.{section, size}
use Rattle.positions.proofs.Limited.{over_limit, within_limit}
use Rattle.justify.proofs.committing.Goals as goal

pub returns-then-size-gt-MAX_ACTIONS : goal.returns-then-size-gt-MAX_ACTIONS
returns-then-size-gt-MAX_ACTIONS c =
    let count : c.size.result ≡ size (section c.args.r.now 0) = rw c.section-e.ensures at c.size.ensures in
    over_limit _ _ count c.if-size-gt-MAX_ACTIONS.true

pub returns-then-size-gt-MAX_ACTIONS-2 : goal.returns-then-size-gt-MAX_ACTIONS-2
returns-then-size-gt-MAX_ACTIONS-2 c =
    let count : c.size.result ≡ size (section c.args.r.now 0) = rw c.section-e.ensures at c.size.ensures in
    let own-count : c.size-2.result ≡ size (section c.args.r.now c.args.i) = rw c.section-f.ensures at c.size-2.ensures in
    within_limit _ _ count c.if-size-gt-MAX_ACTIONS.false (over_limit _ _ own-count c.if-size-gt-MAX_ACTIONS-2.true)

pub with_tables-requires : goal.with_tables-requires
with_tables-requires c = (
  c.section-e.ensures,
  c.section-f.ensures,
  rw (← c.size.ensures) c.if-size-gt-MAX_ACTIONS.false,
  rw (← c.size-2.ensures) c.if-size-gt-MAX_ACTIONS-2.false,
)

pub returns : goal.returns
returns c =
    let count : c.size.result ≡ size (section c.args.r.now 0) = rw c.section-e.ensures at c.size.ensures in
    let own-count : c.size-2.result ≡ size (section c.args.r.now c.args.i) = rw c.section-f.ensures at c.size-2.ensures in
    within_limit _ _ count c.if-size-gt-MAX_ACTIONS.false (within_limit _ _ own-count c.if-size-gt-MAX_ACTIONS-2.false c.with_tables.ensures)

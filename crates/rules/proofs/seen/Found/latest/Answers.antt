-- `rules::seen::Found::latest` meets its contract: the pass keeps the write of largest place below a's.
use native.Mathlib.Omega.{arith}
use mathlib.Core.Path.{◌∙◌}
use Rattle.std.proofs.lemmas.List.{take_all}
use Rattle.rules.proofs.Latest.{latest_is}
use Rattle.rules.proofs.seen.Found.latest.Goals as goal

pub returns : goal.returns
returns c =
    c.loop-b.invariant.0
    ∙ rw (take_all c.loop-b.b-index c.writes-writes.result.now c.loop-b-test.false, c.writes-writes.ensures)
    (latest_is c.args.self.now.x.now c.args.a c.target-variable.ensures c.place-below.ensures (omega (arith, c.args.self.now.kept.few)))

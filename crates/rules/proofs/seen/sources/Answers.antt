-- `rules::seen::sources` meets its contract: the entries before a are found.
use Prim.Native.Nat.{◌<◌}
use native.Mathlib.Omega.{arith}
use mathlib.Core.Path.{◌≡◌}
use lib.ListN.{length-set}
use Rattle.model.specs.Limits.{max_actions}
use Rattle.model.specs.Layout.{size}
use Rattle.rules.proofs.Sources.{sources_more}
use Rattle.rules.proofs.seen.sources.Goals as goal

pub loop-a-preserved : goal.loop-a-preserved
loop-a-preserved c =
    let len = c.loop-a.invariant.0 in
    let room : c.loop-a.a < max_actions = omega (arith, c.size-a-end.ensures, c.requires) in
    (simp length-set len, sources_more c.args.x.now c.loop-a.t c.loop-a.a c.requires (rw len room) c.loop-a.invariant.1 c.source.ensures c.unwrap_or.ensures)

pub returns : goal.returns
returns c =
    let e : c.loop-a.a ≡ size c.args.x.now = omega (arith, c.size-a-end.ensures) in
    record { few = c.requires; entry = rw e at c.loop-a.invariant.1 }

-- `positions::lists::of_kinds` meets its contract: past bit 15 no set has a kind.
use Prim.Native.Nat.{◌^◌, ◌<◌}
use native.Mathlib.Nat.{div-eq_of_lt}
use native.Mathlib.Omega.{arith}
use lib.Pow.{pow_mono}
use Rattle.positions.specs.Lists.{of_kinds}
use Rattle.positions.proofs.lists.of_kinds.Goals as goal

pub returns-then-kind-gt15 : goal.returns-then-kind-gt15
unfolding of_kinds
returns-then-kind-gt15 c =
    let past : c.args.set < 2 ^ c.kind-kind.result = omega (arith, pow_mono c.if-kind-gt15.true) in
    rw (← c.kind-kind.ensures, div-eq_of_lt past)

pub returns : goal.returns
unfolding of_kinds
returns c = rw (← c.kind-kind.ensures)

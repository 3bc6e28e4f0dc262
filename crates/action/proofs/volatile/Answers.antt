-- `action::volatile` meets its contract: a map of 64 bits has none from bit 64 on.
use Prim.Native.Nat.{◌^◌, ◌<◌}
use native.Mathlib.Nat.{div-eq_of_lt}
use native.Mathlib.Omega.{arith}
use lib.Pow.{pow_mono}
use borrow.Author.Rules.{rules}
use borrow.Author.Tests.{le-ltb}
use Rattle.action.proofs.volatile.Goals as goal

pub returns-else-t-lt-MAX_VARIABLES : goal.returns-else-t-lt-MAX_VARIABLES
returns-else-t-lt-MAX_VARIABLES c =
    let a = c.args in
    let l : a.h.map < 2 ^ a.t = omega (arith, pow_mono {i = 64} {j = a.t} (search rules)) in
    rw (div-eq_of_lt l, le-ltb a.t 64 c.if-t-lt-MAX_VARIABLES.false)

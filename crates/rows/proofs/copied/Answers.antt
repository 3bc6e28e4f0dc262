-- `rows::copied` meets its contract.
use Prim.Native.Nat.{◌+◌, ◌*◌, ◌-◌}
use mathlib.Core.Path.{◌≡◌}
use native.Mathlib.Omega.{arith}
use Rattle.model.specs.Limits.{row_words}
use Rattle.rows.proofs.Rounds.{row_taken}
use Rattle.rows.proofs.copied.Goals as goal

pub returns : goal.returns
returns c =
    let e : 2 * c.args.k + 2 - 2 * c.args.k ≡ row_words = omega arith in
    rw (c.copy_from_slice.ensures.after, e) (row_taken row_words _ _ c.requires)

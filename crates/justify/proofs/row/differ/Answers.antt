-- `justify::row::differ` meets its contract.
use Prim.Native.Nat.{◌^◌, ◌<◌}
use native.Mathlib.Nat.{lt_of_le_of_lt}
use lib.Bits.{bit_xor, xor_lt, and_le_l}
use native.Mathlib.Omega.{arith}
use mathlib.Core.Path.{◌≡◌, sym}
use Rattle.model.specs.Limits.{row_words}
use Rattle.model.proofs.Search.{any_never}
use Rattle.justify.proofs.Words.{agree_more, differ_some}
use Rattle.justify.proofs.row.differ.Goals as goal

pub loop-j-init : goal.loop-j-init
loop-j-init c = (omega arith, λ b l. absurd (let z : ⊥ = omega arith in z))

pub returns-then-word-mask-ne0 : goal.returns-then-word-mask-ne0
returns-then-word-mask-ne0 c =
    let args = c.args in
    let u = c.word.ensures in
    let v = c.word-in-loop-j.ensures in
    let small : bit_xor c.word.result c.word-in-loop-j.result < 2 ^ 64 = xor_lt 64 c.word.result c.word-in-loop-j.result (omega arith) (omega arith) in
    sym
    (differ_some args.p.now args.q.now args.mask.now args.a c.loop-j.j (omega arith)
    (lt_of_le_of_lt (and_le_l _ _) (rw (u, v) at small)) (rw (u, v) at c.if-word-mask-ne0.true))

pub loop-j-preserved : goal.loop-j-preserved
loop-j-preserved c = (
  omega arith,
  agree_more _ _ _ _ _ (omega arith) (rw (c.word.ensures, c.word-in-loop-j.ensures) at c.if-word-mask-ne0.false)
      c.loop-j.invariant.1,
)

pub returns : goal.returns
returns c =
    let e : c.loop-j.j ≡ row_words = omega arith in sym (any_never _ _ (rw e at c.loop-j.invariant.1))

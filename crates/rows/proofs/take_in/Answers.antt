-- `rows::take_in` meets its contract. The loop's invariant: row `to` took in the first `j` words of row `from`.
use mathlib.Core.Path.{◌≡◌, refl}
use mathlib.Core.Bool.{true}
use native.Mathlib.Omega.{arith}
use borrow.Author.Rules.{rules}
use Rattle.model.specs.Limits.{row_words}
use Rattle.rows.proofs.Rounds.{joined_none, joined_more}
use Rattle.rows.proofs.take_in.Goals as goal

pub loop-j-init : goal.loop-j-init
loop-j-init c = (search rules, joined_none _ _ _ _ _ true)

pub loop-j-preserved : goal.loop-j-preserved
loop-j-preserved c =
    (omega arith, joined_more _ _ _ _ _ true c.loop-j.part c.loop-j.j c.loop-j.invariant.1 (omega arith) (omega arith) refl)

pub returns : goal.returns
returns c = let e : c.loop-j.j ≡ row_words = omega arith in rw e at c.loop-j.invariant.1

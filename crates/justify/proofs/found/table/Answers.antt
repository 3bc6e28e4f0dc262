-- `justify::found::table` meets its contract: the entries before a are found.
use native.Mathlib.Omega.{arith}
use mathlib.Core.Path.{◌≡◌, refl}
use lib.ListN.{length-set}
use borrow.Author.Rules.{rules}
use Rattle.justify.proofs.Holds.{holds_none, holds_more}
use Rattle.justify.proofs.found.table.Goals as goal

pub loop-a-init : goal.loop-a-init
loop-a-init g c = (search rules, refl, λ f h. holds_none f _)

pub loop-a-preserved : goal.loop-a-preserved
loop-a-preserved g c = (
  search rules,
  simp length-set c.loop-a.invariant.1,
  λ f h. holds_more f _ _ _ (omega arith) (c.loop-a.invariant.2 f h) (h _ _ c.loop-a-test.true c.entry.ensures),
)

pub returns : goal.returns
returns g c =
    let e : c.loop-a.a ≡ c.args.n = omega arith in rw e at c.loop-a.invariant.2

-- `rules::seen::Found::sees_write` meets its contract.
use Prim.Native.Nat.{ℕ}
use mathlib.Core.Path.{◌∙◌}
use mathlib.Core.Bool.{Bool, ◌&&◌}
use lib.Dec.{eqb}
use Rattle.std.proofs.Common.{rules, tests}
use Rattle.std.proofs.lemmas.Iterator.{YieldsList-from_slice}
use Rattle.std.proofs.lemmas.Iterator.Search.{any_from_yields_List}
use Rattle.model.specs.Layout.{ident, target}
use Rattle.positions.proofs.Listing.{any_listed}
use Rattle.rules.proofs.Sources.{sought_is}
use Rattle.rules.proofs.seen.Found.sees_write.Goals as goal

pub returns : goal.returns
returns c =
    any_listed _ test _ c.writes.ensures
    (any_from_yields_List test _ _ c.any.result c.any.ensures.ran (YieldsList-from_slice c.writes.result.now cc) (λ x b q k. search (rules, tests)))
    ∙ sought_is c.args.self.now.x.now c.args.a c.seen-d.ensures c.target-variable.ensures
  where
    test : ℕ → Bool
    test b = eqb (ident c.args.self.now.x.now b) c.seen-d.result && eqb (target c.args.self.now.x.now b) c.target-variable.result

-- `rules::seen::Found::hidden` meets its contract.
use Prim.Native.Nat.{ℕ}
use mathlib.Core.Path.{◌∙◌}
use mathlib.Core.Bool.{Bool, ◌&&◌}
use lib.Dec.{eqb}
use Rattle.std.proofs.Common.{rules, tests}
use Rattle.std.proofs.lemmas.Iterator.{YieldsList-from_slice}
use Rattle.std.proofs.lemmas.Iterator.Search.{any_from_yields_List}
use Rattle.model.specs.Layout.{target}
use Rattle.model.specs.WorkArea.{shown}
use Rattle.positions.proofs.Listing.{any_listed}
use Rattle.rules.specs.Sources.{before}
use Rattle.rules.proofs.Hiding.{hides_is}
use Rattle.rules.proofs.seen.Found.hidden.Goals as goal

pub returns : goal.returns
returns c =
    any_listed _ test _ c.writes.ensures
    (any_from_yields_List test _ _ c.any.result c.any.ensures.ran (YieldsList-from_slice c.writes.result.now cc) (λ x b q k. search (rules, tests)))
    ∙ hides_is h c.args.self.now.x.now c.args.a c.args.w c.target-variable.ensures
  where
    h : ℕ → ℕ → Bool
    h = shown c.args.self.now.part.now

    test : ℕ → Bool
    test b = eqb (target c.args.self.now.x.now b) c.target-variable.result && (before h c.args.w b && h b c.args.a)

-- `rules::races::met` meets its contract.
use Prim.Native.Nat.{ℕ}
use mathlib.Core.Path.{sym, ◌∙◌}
use mathlib.Core.Bool.{Bool, not, ◌&&◌}
use lib.Dec.{eqb}
use Rattle.std.proofs.Common.{rules, tests}
use Rattle.std.proofs.lemmas.Iterator.{YieldsList-from_slice}
use Rattle.std.proofs.lemmas.Iterator.Adapters.{option_map_id}
use Rattle.std.proofs.lemmas.Iterator.Search.{find_from_yields_List}
use Rattle.std.proofs.lemmas.Iterator.Consumers.{YieldsList-from_copied, YieldsList-at}
use Rattle.model.specs.Layout.{target}
use Rattle.model.specs.WorkArea.{shown}
use Rattle.rules.proofs.Pairs.{met_are}
use Rattle.rules.proofs.races.met.Goals as goal

pub returns : goal.returns
returns c =
    sym (option_map_id c.find.result)
    ∙ find_from_yields_List test _ _ c.find.result c.find.ensures.ran
    (YieldsList-from_copied (YieldsList-at c.copied.ensures.source (YieldsList-from_slice c.args.entries.now cc)))
    (λ x b q k. search (rules, tests))
    ∙ met_are h c.args.x.now c.args.a c.args.entries.now c.target-variable.ensures
  where
    h : ℕ → ℕ → Bool
    h = shown c.args.part.now

    test : ℕ → Bool
    test b = eqb c.target-variable.result (target c.args.x.now b) && (not (h c.args.a b) && not (h b c.args.a))

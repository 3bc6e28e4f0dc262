-- `ordered::order::total` meets its contract.
use native.Mathlib.Omega.{arith}
use mathlib.Core.Path.{◌∙◌}
use Rattle.std.proofs.Common.{rules, tests}
use Rattle.std.proofs.lemmas.Iterator.{YieldsList-from_range}
use Rattle.std.proofs.lemmas.Iterator.Consumers.{count_from_yields_List, YieldsList-from_filter}
use Rattle.model.specs.Layout.{size, sync}
use Rattle.ordered.proofs.Counts.{count_below}
use Rattle.ordered.proofs.order.total.Goals as goal

pub returns : goal.returns
returns c =
    let x = c.args.x.now in
    count_from_yields_List c.filter.result _ c.count.ensures.ran
    (YieldsList-from_filter _ (sync x) (YieldsList-from_range 0 c.size.result (size x) c.filter.ensures.source (omega (arith, c.size.ensures))) c.filter.ensures.closure (λ y r q k. search (rules, tests)))
    ∙ count_below (sync x) (size x)

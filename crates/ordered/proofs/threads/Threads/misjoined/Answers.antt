-- `ordered::threads::Threads::misjoined` meets its contract.
use mathlib.Core.Path.{ap}
use mathlib.Core.Bool.{not, ◌&&◌}
use lib.Dec.{eqb, ltb}
use Rattle.std.proofs.Common.{rules, tests}
use Rattle.std.proofs.lemmas.Iterator.{YieldsList-from_slice}
use Rattle.std.proofs.lemmas.Iterator.Search.{any_from_yields_List}
use Rattle.model.specs.Layout.{size, thread, place}
use Rattle.model.specs.Rules.{ended, misjoined}
use Rattle.positions.proofs.Listing.{any_listed}
use Rattle.ordered.specs.Threads.{ending}
use Rattle.ordered.proofs.threads.Threads.misjoined.Goals as goal

pub returns : goal.returns
unfolding misjoined ended
returns c =
    rw (← c.target-target.ensures, ← c.place-place.ensures)
    (ap not
    (any_listed (ending c.args.self.now.x.now)
    (λ b. eqb (thread c.args.self.now.x.now b) c.target-target.result && ltb (place c.args.self.now.x.now b) c.place-place.result)
    (size c.args.self.now.x.now) c.args.self.now.have_ends
    (any_from_yields_List _ _ _ c.any.result c.any.ensures.ran (YieldsList-from_slice c.args.self.now.ends.now cc) (λ y b q k. search (rules, tests)))))

-- `ordered::threads::first14` meets its contract.
use native.Mathlib.Omega.{arith}
use mathlib.Core.Path.{◌∙◌}
use Rattle.std.proofs.Common.{rules, tests}
use Rattle.model.proofs.Chains.{found_below}
use Rattle.positions.specs.Lists.{lasts}
use Rattle.positions.proofs.Sets.{are_lasts}
use Rattle.positions.proofs.Listing.{is_listed}
use Rattle.ordered.proofs.threads.first14.Goals as goal

pub invariant_of-threads : goal.invariant_of-threads
invariant_of-threads c =
    record {
      limited = c.requires;
      have_first = c.firsts.ensures;
      have_last = c.lasts.ensures;
      have_start = c.firsts-2.ensures;
      have_ends = c.as_slice.ensures ∙ c.listed-ends.ensures ∙ is_listed c.args.x.now lasts (are_lasts c.args.x.now) c.requires;
    }

pub returns : goal.returns
returns c = found_below _ c.size.ensures (omega arith) c.find.ensures.ran (λ x b q k. search (rules, tests))

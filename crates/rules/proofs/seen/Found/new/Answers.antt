-- `rules::seen::Found::new` meets its contract.
use mathlib.Core.Path.{◌∙◌}
use Rattle.positions.specs.Lists.{writes}
use Rattle.positions.proofs.Sets.{are_writes}
use Rattle.positions.proofs.Listing.{is_listed}
use Rattle.rules.proofs.seen.Found.new.Goals as goal

pub invariant_of-result : goal.invariant_of-result
invariant_of-result c = record {
  kept = c.sources.ensures;
  listed = c.listed.ensures ∙ is_listed c.args.x.now writes (are_writes c.args.x.now) c.requires;
}

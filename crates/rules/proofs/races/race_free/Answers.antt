-- `rules::races::race_free` meets its contract.
use mathlib.Core.Path.{◌≡◌, sym, ap, ◌∙◌}
use Rattle.std.specs.List.{filter}
use Rattle.model.specs.Answers.{named₂}
use Rattle.model.specs.Layout.{size, write}
use Rattle.model.specs.Relations.{plain}
use Rattle.model.specs.WorkArea.{shown}
use Rattle.positions.specs.Lists.{plains, plain_writes, positions}
use Rattle.positions.proofs.Sets.{are_plain, are_plain_writes}
use Rattle.positions.proofs.Listing.{is_listed, positions_filter}
use Rattle.rules.specs.Searches.{races, least_pair}
use Rattle.rules.proofs.Pairs.{least_races}
use Rattle.rules.proofs.races.race_free.Goals as goal

pub least_pair-requires : goal.least_pair-requires
least_pair-requires c =
    let x = c.args.x.now in
    let accesses : c.as_slice.result.now ≡ positions (plain x) (size x) = c.as_slice.ensures ∙ c.listed-plain.ensures ∙ is_listed x plains (are_plain x) c.requires in
    c.as_slice-2.ensures ∙ c.listed-writes.ensures ∙ is_listed x plain_writes (are_plain_writes x) c.requires
    ∙ positions_filter (plain x) (write x) (size x) ∙ ap (filter (write x)) (sym accesses)

pub returns : goal.returns
returns c =
    let x = c.args.x.now in
    let h = shown c.args.part.now in
    let accesses : c.as_slice.result.now ≡ positions (plain x) (size x) = c.as_slice.ensures ∙ c.listed-plain.ensures ∙ is_listed x plains (are_plain x) c.requires in
    c.rule_of_pair.ensures ∙ ap (named₂ 31 0) (c.least_pair.ensures ∙ ap (least_pair (races h x)) accesses) ∙ least_races h x c.requires

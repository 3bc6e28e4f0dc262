-- `record::section` meets its contract.
use Rattle.record.proofs.Parts.{bounds_section, bounds_low, bounds_high}
use Rattle.record.proofs.section.Goals as goal

pub slice_bounds-result-count : goal.slice_bounds-result-count
slice_bounds-result-count c = bounds_low _ _ c.bounds-at.ensures

pub slice_bounds-result-start : goal.slice_bounds-result-start
slice_bounds-result-start c = bounds_low _ _ c.bounds-at.ensures

pub slice_bounds-result-end : goal.slice_bounds-result-end
slice_bounds-result-end c = bounds_high _ _ c.bounds-at.ensures

pub returns : goal.returns
returns c = bounds_section _ _ c.bounds-at.ensures

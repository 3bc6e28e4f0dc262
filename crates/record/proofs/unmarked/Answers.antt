-- `record::unmarked` meets its contract.
use native.Mathlib.Omega.{arith}
use mathlib.Core.Path.{ap, ◌∙◌}
use mathlib.Core.Bool.{not}
use borrow.Author.Tests.{lt-ltb, le-ltb}
use Rattle.model.specs.Refused.{unmarked}
use Rattle.record.proofs.Stages.{unlike}
use Rattle.record.proofs.unmarked.Goals as goal

pub returns-then-r-lt-HEADER_BYTES : goal.returns-then-r-lt-HEADER_BYTES
unfolding unmarked
returns-then-r-lt-HEADER_BYTES c = rw (lt-ltb _ _ c.if-r-lt-HEADER_BYTES.true)

pub returns-else-r-lt-HEADER_BYTES : goal.returns-else-r-lt-HEADER_BYTES
unfolding unmarked
returns-else-r-lt-HEADER_BYTES c =
    rw (le-ltb _ _ c.if-r-lt-HEADER_BYTES.false) (ap not c.starts_with.ensures.value ∙ unlike c.args.r.now (omega arith))

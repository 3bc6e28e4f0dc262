-- `lined::single` meets its contract.
use Rattle.lined.proofs.Bit.{single_low, single_high}
use Rattle.lined.proofs.single.Goals as goal

pub returns-then-a-lt64 : goal.returns-then-a-lt64
returns-then-a-lt64 c = single_low _ c.if-a-lt64.true

pub returns-else-a-lt64 : goal.returns-else-a-lt64
returns-else-a-lt64 c = single_high _ c.if-a-lt64.false c.requires

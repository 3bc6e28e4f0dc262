-- What the reader's functions come to: the sections by their bounds in the record.
use Rattle.std.specs.Prelude.{ℕ, suc, min, List, length}
use Rattle.model.specs.Layout.{start}
use Rattle.record.specs.declared.Span.{Span}

-- section s as far as the record has it
unfoldable pub bounded : List ℕ → ℕ → Span
bounded r s = record { at = min (start r s) (length r); end = min (start r (suc s)) (length r) }

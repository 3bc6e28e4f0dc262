-- Identifier to position, in a section x.
use Rattle.std.specs.Prelude.{ℕ, ◌%◌, List, ◌&&◌, eqb, leb, get_or}
use Rattle.model.specs.Search.{first}
use Rattle.model.specs.Layout.{size, ident}

-- the first action with identifier d from entry d mod 256 of the table t on; x's size where there is none
unfoldable pub from_slot : List ℕ → List ℕ → ℕ → ℕ
from_slot x t d = first (size x) (λ a. leb (get_or t (d % 256) 0) a && eqb (ident x a) d)

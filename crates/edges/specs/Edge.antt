-- What 28 asks of an edge beside that it is one and that it leads to a new action.
use Rattle.std.specs.Prelude.{ℕ, List, Bool, not, ◌&&◌, eqb, ltb}
use Rattle.model.specs.Search.{any}
use Rattle.model.specs.Layout.{size, ident}
use Rattle.model.specs.Relations.{po}
use Rattle.model.specs.Justified.{sw_to, through, missing}
use Rattle.edges.specs.declared.Edge.{Edge}

-- the edge stands in x at its own positions
unfoldable pub stands : List ℕ → Edge → Bool
stands x e =
    ltb e.first (size x) && ltb e.second (size x) && eqb (ident x e.first) e.from && sw_to x e.to e.first e.second

-- the edge from x to y of section f is not in program order, no action is between its ends, and it is missing where it must stand
unfoldable pub loose : (ℕ → ℕ → Bool) → List ℕ → List ℕ → ℕ → ℕ → ℕ → Bool
loose h r f i x y =
    not (po f x y) && not (any (size f) (through h x y)) && missing r i (ident f x) (ident f y)

-- What tells, without a look at each pair, that an action breaks 22 or 23 with none: no action of C_i strays. e is section 0 and f section i.
use Rattle.std.specs.Prelude.{ℕ, List, Bool, not, ◌&&◌, eqb}
use Rattle.model.specs.Layout.{place}
use Rattle.model.specs.Justified.{C, twin_of}

-- b is in C_i, and stands at another position in f than in e
unfoldable pub strays22 : List ℕ → List ℕ → ℕ → ℕ → Bool
strays22 e f i b = C e i b && not (eqb (twin_of e f b) b)

-- b is in C_i, and has another place in f than in e
unfoldable pub strays23 : List ℕ → List ℕ → ℕ → ℕ → Bool
strays23 e f i b = C e i b && not (eqb (place f (twin_of e f b)) (place e b))

-- The words of a part after edges are marked in it, after rounds of closing, and after it is filled.
use Rattle.std.specs.Prelude.{ℕ, List, cond, ◌&&◌, length, eqb, leb, fold}
use Rattle.model.specs.Limits.{max_actions, part_words}
use Rattle.model.specs.Layout.{size}
use Rattle.model.specs.Relations.{sw}
use Rattle.model.specs.WorkArea.{part}
use Rattle.rows.specs.Part.{marked, rounded}

-- the words ws with the edges from a to the positions of a list marked
abbrev pub from : List ℕ → ℕ → List ℕ → List ℕ → List ℕ
from x a list ws = fold (λ us b. cond (sw x a b) (marked us a b) us) ws list

-- the words ws through the rounds of the positions of a list, over the first n rows
abbrev pub rounds : ℕ → List ℕ → List ℕ → List ℕ
rounds n list ws = fold (λ us k. rounded us n k) ws list

-- the words of section x's part in place of ws; ws where they are no part, or x no section
unfoldable pub happens : List ℕ → List ℕ → List ℕ
happens x ws = cond (eqb (length ws) part_words && leb (size x) max_actions) (part x) ws

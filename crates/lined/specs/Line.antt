-- Sections in line.
use Rattle.std.specs.Prelude.{ℕ, ◌+◌, ◌*◌, List, Bool, not, cond, ◌&&◌, ◌||◌, Option, Some, None, length, eqb, leb}
use Rattle.model.specs.Limits.{max_actions, part_words}
use Rattle.model.specs.Search.{any}
use Rattle.model.specs.Layout.{size, thread, place, row, sync}
use Rattle.model.specs.WorkArea.{part}
use Rattle.relations.specs.declared.Object.{Object}
use Rattle.relations.specs.Objects.{given, taken}

-- the row of an object: those of a class, with the numbers below 64, after one another
abbrev pub slot : Object → ℕ
slot o = 64 * o.class + o.number

abbrev pub given_row : List ℕ → ℕ → ℕ
given_row x a = slot (given x a)

abbrev pub taken_row : List ℕ → ℕ → ℕ
taken_row x a = slot (taken x a)

-- a's thread, or the number of an object of a, is none of 64
unfoldable pub broad : List ℕ → ℕ → Bool
broad x a = leb 64 (thread x a) || (leb 64 (given x a).number || leb 64 (taken x a).number)

-- a synchronizes by its place
abbrev pub placed : List ℕ → ℕ → Bool
placed x a = (row x a).gives.placed || (row x a).takes.placed

-- its place, where it does
abbrev pub place_of : List ℕ → ℕ → Option ℕ
place_of x a = cond (placed x a) (Some (place x a)) None

-- an action before a, that synchronizes by its place, has place p or a larger one
unfoldable pub reached : List ℕ → ℕ → ℕ → Bool
reached x a p = any a (λ b. placed x b && leb p (place x b))

-- a has no rows, or its place does not rise
unfoldable pub unfit : List ℕ → ℕ → Bool
unfit x a = broad x a || placed x a && reached x a (place x a)

-- a synchronizes, and not by its place
abbrev pub freely : List ℕ → ℕ → Bool
freely x a = not (placed x a) && sync x a

-- an action before a takes the object of row o
unfoldable pub taken_before : List ℕ → ℕ → ℕ → Bool
taken_before x a o = any a (λ b. eqb o (taken_row x b))

-- a synchronizes with an earlier action: it gives, and not by its place, what that takes
unfoldable pub late : List ℕ → ℕ → Bool
late x a = not (row x a).gives.placed && taken_before x a (given_row x a)

-- the words ws are a part, and section x is in line
unfoldable pub lined : List ℕ → List ℕ → Bool
lined x ws =
    eqb (length ws) part_words && leb (size x) max_actions && not (any (size x) (unfit x)) && not (any (size x) (late x))

-- the words of x's part in place of ws, where it is in line
unfoldable pub lined_part : List ℕ → List ℕ → List ℕ
lined_part x ws = cond (lined x ws) (part x) ws

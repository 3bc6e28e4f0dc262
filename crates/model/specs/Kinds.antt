-- The table of the eleven kinds: the target's class, whether a variable must be volatile, synchronization, read, write; and what an action of the kind
-- gives to later ones and takes from earlier ones, by which actions synchronize (`sw_table` of proofs/Synchronizes.antt).
use Rattle.std.specs.Prelude.{ℕ, List, [], ◌∷◌, Bool, true, false, get_or, eqb}
use Rattle.model.specs.declared.KindRow.{KindRow}
use Rattle.model.specs.declared.Objects.{Objects}
use Rattle.model.specs.declared.Target.{Target}
use Rattle.model.specs.declared.Target.TheVariants as target
use Rattle.model.specs.declared.Class.{Class}
use Rattle.model.specs.declared.Class.TheVariants as class

-- the number of a class of objects
abbrev pub number_of : Class → ℕ
number_of class.Variable = 0
number_of class.Monitor = 1
number_of class.Beginning = 2
number_of class.End = 3
number_of class.NothingGiven = 4
number_of class.NothingTaken = 5

abbrev pub same_class : Class → Class → Bool
same_class c d = eqb (number_of c) (number_of d)

-- an object of class c: the one with the action's own thread as its number, where o, else with its target; places decide where p
abbrev pub objects : Class → Bool → Bool → Objects
objects c o p = record { class = c; own = o; placed = p }

abbrev pub gives_none : Objects
gives_none = objects class.NothingGiven true false

abbrev pub takes_none : Objects
takes_none = objects class.NothingTaken true false

abbrev pub a_kind : Target → Bool → Bool → Bool → Bool → Objects → Objects → KindRow
a_kind c v s r w g t = record { target = c; volatile = v; sync = s; read = r; write = w; gives = g; takes = t }

-- what a byte that is no kind stands for
abbrev pub no_kind_row : KindRow
no_kind_row = a_kind target.NoKind false false false false gives_none takes_none

abbrev pub kinds : List KindRow
kinds =
    no_kind_row
    ∷ a_kind target.Variable false false true false gives_none takes_none
    ∷ a_kind target.Variable false false false true gives_none takes_none
    ∷ a_kind target.Variable true true true false gives_none (objects class.Variable false true)
    ∷ a_kind target.Variable true true false true (objects class.Variable false true) takes_none
    ∷ a_kind target.Monitor false true false false gives_none (objects class.Monitor false true)
    ∷ a_kind target.Monitor false true false false (objects class.Monitor false true) takes_none
    ∷ a_kind target.Thread false true false false (objects class.Beginning false false) takes_none
    ∷ a_kind target.Zero false true false false gives_none (objects class.Beginning true false)
    ∷ a_kind target.Zero false true false false (objects class.End true false) takes_none
    ∷ a_kind target.Thread false true false false gives_none (objects class.End false false)
    ∷ a_kind target.Any false false false false gives_none takes_none
    ∷ []

unfoldable pub kind_row : ℕ → KindRow
kind_row k = get_or kinds k no_kind_row

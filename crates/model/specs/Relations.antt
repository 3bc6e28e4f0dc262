-- Relations on the positions of a section x: program order, synchronizes-with, happens-before, races.
use Rattle.std.specs.Prelude.{ℕ, zero, suc, List, Bool, not, cond, ◌&&◌, ◌||◌, eqb, ltb}
use Rattle.model.specs.declared.Objects.{Objects}
use Rattle.model.specs.Kinds.{same_class}
use Rattle.model.specs.Layout.{size, thread, kind, target, place, row, write}

-- two actions of one thread, in section order
unfoldable pub po : List ℕ → ℕ → ℕ → Bool
po x a b = ltb a b && eqb (thread x a) (thread x b)

-- unlock to lock and volatile write to volatile read, of one target, to each larger place; start to first and last to join, of one thread
unfoldable pub sw : List ℕ → ℕ → ℕ → Bool
sw x a b =
    eqb (kind x a) 6 && eqb (kind x b) 5 && eqb (target x a) (target x b) && ltb (place x a) (place x b)
    || eqb (kind x a) 4 && eqb (kind x b) 3 && eqb (target x a) (target x b) && ltb (place x a) (place x b)
    || eqb (kind x a) 7 && eqb (kind x b) 8 && eqb (target x a) (thread x b)
    || eqb (kind x a) 9 && eqb (kind x b) 10 && eqb (thread x a) (target x b)

-- The same by the table of kinds (`sw_table` of proofs/Synchronizes.antt): a gives what b takes, and where places decide b's is larger
abbrev pub number : Objects → List ℕ → ℕ → ℕ
number o x a = cond o.own (thread x a) (target x a)

unfoldable pub hands : List ℕ → ℕ → ℕ → Bool
hands x a b =
    let g = (row x a).gives in
    let t = (row x b).takes in same_class g.class t.class && eqb (number g x a) (number t x b)

unfoldable pub tabled_sw : List ℕ → ℕ → ℕ → Bool
tabled_sw x a b = hands x a b && (not (row x a).gives.placed || ltb (place x a) (place x b))

-- an edge between two of the first n positions
unfoldable pub edge : List ℕ → ℕ → ℕ → Bool
edge x a b = ltb a (size x) && ltb b (size x) && (po x a b || sw x a b)

-- by e, or by e on a way whose inner positions are below k
unfoldable pub reach : (ℕ → ℕ → Bool) → ℕ → ℕ → ℕ → Bool
reach e zero a b = e a b
reach e (suc k) a b = reach e k a b || reach e k a k && reach e k k b

unfoldable pub hb : List ℕ → ℕ → ℕ → Bool
hb x = reach (edge x) (size x)

-- "two actions of kinds 1 and 2 on one variable, at least one a write, neither hb the other". As every rule that asks for happens-before, it is
-- stated over a relation h, for which the questions put `hb x`: the code asks the words of x's part
abbrev pub plain : List ℕ → ℕ → Bool
plain x a = eqb (kind x a) 1 || eqb (kind x a) 2

unfoldable pub race : (ℕ → ℕ → Bool) → List ℕ → ℕ → ℕ → Bool
race h x a b =
    plain x a && plain x b && eqb (target x a) (target x b) && (write x a || write x b)
    && not (h a b) && not (h b a)

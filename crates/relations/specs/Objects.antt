-- The objects that the actions of a section x give and take, as the table of kinds says.
use Rattle.std.specs.Prelude.{ℕ, ◌+◌, ◌*◌, List, Bool, not, ◌&&◌, ◌||◌, eqb, ltb}
use Rattle.model.specs.declared.Objects.{Objects}
use Rattle.model.specs.Kinds.{number_of}
use Rattle.model.specs.Layout.{thread, target, place, row}
use Rattle.model.specs.Relations.{number}
use Rattle.relations.specs.declared.Object.{Object}
use Rattle.relations.specs.declared.Offer.{Offer}

-- a's object of those that o tells
abbrev pub object_of : Objects → List ℕ → ℕ → Object
object_of o x a = record { class = number_of o.class; number = number o x a }

-- what a gives to later actions, and what it takes from earlier ones
unfoldable pub given : List ℕ → ℕ → Object
given x a = object_of (row x a).gives x a

unfoldable pub taken : List ℕ → ℕ → Object
taken x a = object_of (row x a).takes x a

abbrev pub key : Object → ℕ
key o = 256 * o.class + o.number

abbrev pub same_object : Object → Object → Bool
same_object o p = eqb o.class p.class && eqb o.number p.number

-- what a gives, with what the places have to do with it
unfoldable pub offered : List ℕ → ℕ → Offer
offered x a =
    record {
      object = object_of (row x a).gives x a;
      placed = (row x a).gives.placed;
      place = place x a;
    }

-- v is b's target or its thread
abbrev pub near : List ℕ → ℕ → ℕ → Bool
near x v b = eqb v (target x b) || eqb v (thread x b)

-- b takes it, and where places decide has a larger one
unfoldable pub accepts : List ℕ → Offer → ℕ → Bool
accepts x w b = same_object w.object (taken x b) && (not w.placed || ltb w.place (place x b))

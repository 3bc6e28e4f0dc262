-- What the code has for `as` of a kind or of a class is its number.
use Prim.Native.Nat.{◌+◌, ◌<◌}
use native.Mathlib.Omega.{arith}
use mathlib.Core.Path.{◌≡◌, refl, ◌∙◌}
use mathlib.Core.Bool.{true}
use denote.Enum.Declared.{tag_of}
use denote.Enum.Bare.{sameb, same_true}
use Rattle.model.specs.contracts.Kind.{the_type as the_kind}
use Rattle.model.specs.contracts.Class.{the_type as the_class}
use Rattle.model.specs.declared.Kind.{Kind}
use Rattle.model.specs.declared.Kind.TheVariants as kind
use Rattle.model.specs.declared.Class.{Class}
use Rattle.model.specs.declared.Class.TheVariants as class
use Rattle.model.specs.Bytes.{byte_of}
use Rattle.model.specs.Kinds.{number_of, same_class}

pub kind_tag : (k : Kind) → tag_of the_kind k + 1 ≡ byte_of k
kind_tag kind.Read = refl
kind_tag kind.Write = refl
kind_tag kind.VolatileRead = refl
kind_tag kind.VolatileWrite = refl
kind_tag kind.Lock = refl
kind_tag kind.Unlock = refl
kind_tag kind.Start = refl
kind_tag kind.First = refl
kind_tag kind.Last = refl
kind_tag kind.Join = refl
kind_tag kind.External = refl

pub kind_below : (k : Kind) → byte_of k < 12
kind_below kind.Read = omega arith
kind_below kind.Write = omega arith
kind_below kind.VolatileRead = omega arith
kind_below kind.VolatileWrite = omega arith
kind_below kind.Lock = omega arith
kind_below kind.Unlock = omega arith
kind_below kind.Start = omega arith
kind_below kind.First = omega arith
kind_below kind.Last = omega arith
kind_below kind.Join = omega arith
kind_below kind.External = omega arith

pub class_tag : (c : Class) → tag_of the_class c ≡ number_of c
class_tag class.Variable = refl
class_tag class.Monitor = refl
class_tag class.Beginning = refl
class_tag class.End = refl
class_tag class.NothingGiven = refl
class_tag class.NothingTaken = refl

-- and what it has for `==` of two classes
pub same_tag : (c d : Class) → sameb the_class c d ≡ same_class c d
same_tag c d = rw (class_tag c, class_tag d)

-- classes of one number are one class
pub one_class : (c d : Class) → same_class c d ≡ true → c ≡ d
one_class c d e = same_true the_class tt c d (same_tag c d ∙ e)

-- The byte of each kind in a record, as document 01 numbers them.
use Rattle.std.specs.Prelude.{ℕ, ◌≡◌, ◌<◌, ◌⊎◌, Result, MatchResult}
use Rattle.model.specs.declared.Kind.{Kind}
use Rattle.model.specs.declared.Kind.TheVariants.{Read, Write, VolatileRead, VolatileWrite, Lock, Unlock, Start, First, Last, Join, External}
use Rattle.model.specs.declared.NoKind.{NoKind}

abbrev pub byte_of : Kind → ℕ
byte_of Read = 1
byte_of Write = 2
byte_of VolatileRead = 3
byte_of VolatileWrite = 4
byte_of Lock = 5
byte_of Unlock = 6
byte_of Start = 7
byte_of First = 8
byte_of Last = 9
byte_of Join = 10
byte_of External = 11

-- the result is the kind with this byte, or an error where no kind has it
abbrev pub Decodes : ℕ → Result Kind NoKind → Type 0
Decodes byte r = MatchResult r (λ kind. byte_of kind ≡ byte) (λ e. (byte ≡ 0) ⊎ (11 < byte))

-- The record, version 1: the bytes of the header, of a section and of an action. A byte past the end reads as 0.
use Rattle.std.specs.Prelude.{ℕ, zero, suc, ◌+◌, ◌*◌, ◌/◌, ◌%◌, ◌^◌, List, [], ◌∷◌, Bool, false, get_or, take, drop, eqb, ℤ, pos, negsuc}
use Rattle.std.specs.Int.{w64}
use Rattle.std.proofs.Common.{to_z}
use Rattle.model.specs.declared.KindRow.{KindRow}
use Rattle.model.specs.declared.Header.{Header}
use Rattle.model.specs.declared.Action.{Action}
use Rattle.model.specs.Kinds.{kind_row}

abbrev pub byte : List ℕ → ℕ → ℕ
byte r i = get_or r i 0

-- 16 bits, little-endian
abbrev pub two : List ℕ → ℕ → ℕ
two r i = byte r i + 256 * byte r (i + 1)

-- 64 bits, little-endian
abbrev pub eight : List ℕ → ℕ → ℕ
eight r i = two r i + 65536 * (two r (i + 2) + 65536 * (two r (i + 4) + 65536 * two r (i + 6)))

-- The header. "JXE"
abbrev pub mark : List ℕ
mark = 74 ∷ 88 ∷ 69 ∷ []

abbrev pub version : List ℕ → ℕ
version r = two r 3

abbrev pub threads : List ℕ → ℕ
threads r = byte r 5

abbrev pub variables : List ℕ → ℕ
variables r = byte r 6

abbrev pub monitors : List ℕ → ℕ
monitors r = byte r 7

abbrev pub K : List ℕ → ℕ
K r = byte r 8

-- the map as one number: bit v is bit v mod 8 of byte 9 + v div 8 (`map_bit` of proofs/Map.antt)
abbrev pub map : List ℕ → ℕ
map r = eight r 9

abbrev pub header : List ℕ → Header
header r =
    record { threads = threads r; variables = variables r; monitors = monitors r; justifying = K r; map = map r }

-- variable v is volatile
abbrev pub volatile : Header → ℕ → Bool
volatile h v = eqb (h.map / 2 ^ v % 2) 1

-- Sections. The count of actions at byte p, the byte past the section at p, the first byte of section s, and section s as its own part
abbrev pub past : List ℕ → ℕ → ℕ
past r p = p + (2 + 20 * two r p)

unfoldable pub start : List ℕ → ℕ → ℕ
start r zero = 17
start r (suc s) = past r (start r s)

unfoldable pub section : List ℕ → ℕ → List ℕ
section r s = let p = start r s in take (2 + 20 * two r p) (drop p r)

-- An action a of a section x
abbrev pub size : List ℕ → ℕ
size x = two x 0

abbrev pub ident : List ℕ → ℕ → ℕ
ident x a = two x (2 + 20 * a)

abbrev pub thread : List ℕ → ℕ → ℕ
thread x a = byte x (2 + 20 * a + 2)

abbrev pub kind : List ℕ → ℕ → ℕ
kind x a = byte x (2 + 20 * a + 3)

abbrev pub target : List ℕ → ℕ → ℕ
target x a = byte x (2 + 20 * a + 4)

abbrev pub commit : List ℕ → ℕ → ℕ
commit x a = byte x (2 + 20 * a + 5)

abbrev pub place : List ℕ → ℕ → ℕ
place x a = two x (2 + 20 * a + 6)

abbrev pub seen : List ℕ → ℕ → ℕ
seen x a = two x (2 + 20 * a + 8)

abbrev pub unused : List ℕ → ℕ → ℕ
unused x a = two x (2 + 20 * a + 10)

unfoldable pub value : List ℕ → ℕ → ℤ
value x a = to_z w64 (eight x (2 + 20 * a + 12))

abbrev pub same_ℤ : ℤ → ℤ → Bool
same_ℤ (pos m) (pos n) = eqb m n
same_ℤ (pos m) (negsuc n) = false
same_ℤ (negsuc m) (pos n) = false
same_ℤ (negsuc m) (negsuc n) = eqb m n

abbrev pub action : List ℕ → ℕ → Action
action x a =
    record {
      ident = ident x a;
      thread = thread x a;
      kind = kind x a;
      target = target x a;
      commit = commit x a;
      place = place x a;
      seen = seen x a;
      value = value x a;
    }

-- What the table of kinds says of it
abbrev pub row : List ℕ → ℕ → KindRow
row x a = kind_row (kind x a)

abbrev pub sync : List ℕ → ℕ → Bool
sync x a = (row x a).sync

abbrev pub read : List ℕ → ℕ → Bool
read x a = (row x a).read

abbrev pub write : List ℕ → ℕ → Bool
write x a = (row x a).write

-- The writes that the reads of a section x see, found once and kept.
use Rattle.std.specs.Prelude.{ℕ, ◌<◌, ◌≤◌, ◌≡◌, List, Bool, true, false, not, ◌&&◌, eqb, get_or, ℤ, pos, Option, Some, None}
use Rattle.model.specs.Limits.{max_actions}
use Rattle.model.specs.Search.{position}
use Rattle.model.specs.Layout.{size, ident, seen, value, read}
use Rattle.model.specs.Rules.{seen_at}

-- the action of the write that the read a sees; none for the initial write, and where a is no read
unfoldable pub source : List ℕ → ℕ → Option ℕ
source x a = elim (read x a && not (eqb (seen x a) 0)) [ true ↦ Some (seen_at x a) | false ↦ None ]

-- entry a of l is a's source
pub record Sources (x l : List ℕ) : Type 0 where
  pub few : size x ≤ max_actions
  pub entry : (a : ℕ) → a < size x → position (get_or l a 0) ≡ source x a

-- the value of the write w, and its identifier: 0 of the initial one
abbrev pub value_at : List ℕ → Option ℕ → ℤ
value_at x None = pos 0
value_at x (Some w) = value x w

abbrev pub ident_at : List ℕ → Option ℕ → ℕ
ident_at x None = 0
ident_at x (Some w) = ident x w

-- w happens before b: the initial one does before every action
abbrev pub before : (ℕ → ℕ → Bool) → Option ℕ → ℕ → Bool
before h None b = true
before h (Some w) b = h w b

-- a happens before w: never before the initial one
abbrev pub foreseen : (ℕ → ℕ → Bool) → ℕ → Option ℕ → Bool
foreseen h a None = false
foreseen h a (Some w) = h a w

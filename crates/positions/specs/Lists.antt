-- The positions of some actions of a section x, in section order.
use Rattle.std.specs.Prelude.{ℕ, zero, suc, ◌+◌, ◌/◌, ◌%◌, ◌^◌, List, [], ◌∷◌, ◌++◌, Bool, cond, eqb, leb}
use Rattle.model.specs.Limits.{max_actions}
use Rattle.model.specs.Layout.{size, kind}

-- a set of kinds is a number, kind k being bit k (what each is in the model's words: proofs/Sets.antt)
abbrev pub writes : ℕ
writes = 2 ^ 2 + 2 ^ 4

abbrev pub plains : ℕ
plains = 2 ^ 1 + 2 ^ 2

abbrev pub plain_writes : ℕ
plain_writes = 2 ^ 2

abbrev pub locks : ℕ
locks = 2 ^ 5 + 2 ^ 6

abbrev pub lasts : ℕ
lasts = 2 ^ 9

abbrev pub takers : ℕ
takers = 2 ^ 3 + 2 ^ 5 + 2 ^ 8 + 2 ^ 10

abbrev pub syncs : ℕ
syncs = takers + 2 ^ 4 + 2 ^ 6 + 2 ^ 7 + 2 ^ 9

unfoldable pub of_kinds : List ℕ → ℕ → ℕ → Bool
of_kinds x s b = eqb (s / 2 ^ kind x b % 2) 1

-- the section's count; 0 over the limit
abbrev pub within : List ℕ → ℕ
within x = cond (leb (size x) max_actions) (size x) 0

-- the positions below n at which q holds
unfoldable pub positions : (ℕ → Bool) → ℕ → List ℕ
positions q zero = []
positions q (suc n) = positions q n ++ cond (q n) (n ∷ []) []

unfoldable pub listed : List ℕ → ℕ → List ℕ
listed x s = positions (of_kinds x s) (within x)

-- The map of the identifiers met: one bit each, in rows of 128.
use Rattle.std.specs.Prelude.{ℕ, ◌/◌, ◌%◌, List, Bool, ◌&&◌, eqb}
use Rattle.model.specs.Layout.{ident}
use Rattle.model.specs.Search.{any}
use Rattle.rows.specs.Part.{table}

-- the identifier with bit e of row c is one of the first n actions of x
abbrev pub noted : List ℕ → ℕ → ℕ → ℕ → Bool
noted x n c e = any n (λ b. eqb c (ident x b / 128) && eqb e (ident x b % 128))

abbrev pub noting : List ℕ → ℕ → List ℕ
noting x n = table 512 (noted x n)

-- The steps in rows as wide as a record's. The public functions promise these, and what stands on this crate says no width.
use Rattle.std.specs.Prelude.{ℕ, ◌*◌, List, Bool}
use Rattle.model.specs.Limits.{row_words}
use Rattle.model.specs.WorkArea.{rows, bit}
use Rattle.rows.specs.Steps.{mark, join, round}

-- the bit for a and b
abbrev pub cell : List ℕ → ℕ → ℕ → Bool
cell ws a b = bit row_words ws a b

-- one row as a set of positions: b is in it
abbrev pub has : List ℕ → ℕ → Bool
has ws b = cell ws 0 b

abbrev pub marked : List ℕ → ℕ → ℕ → List ℕ
marked ws a b = mark row_words ws a b

abbrev pub joined : List ℕ → ℕ → List ℕ → ℕ → List ℕ
joined ws to us from = join row_words ws to us from

abbrev pub rounded : List ℕ → ℕ → ℕ → List ℕ
rounded ws n k = round row_words ws n k

-- m rows that hold the relation q
abbrev pub table : ℕ → (ℕ → ℕ → Bool) → List ℕ
table m q = rows row_words (row_words * m) q

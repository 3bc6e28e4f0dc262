-- The limits of a record of version 1: actions a section, 64-bit words a row of the work area, words a part.
use Rattle.std.specs.Prelude.{ℕ, ◌*◌}

abbrev pub max_actions : ℕ
max_actions = 128

abbrev pub row_words : ℕ
row_words = 2

abbrev pub part_words : ℕ
part_words = row_words * max_actions

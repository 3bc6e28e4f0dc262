-- The first action of each key, for each of the tables that are kept of a section x.
use Rattle.std.specs.Prelude.{ℕ, ◌%◌, List, cond, eqb}
use Rattle.model.specs.Search.{found}
use Rattle.model.specs.WorkArea.{list}
use Rattle.model.specs.Layout.{size, ident, thread, kind, target, place, sync}
use Rattle.positions.specs.declared.firsts.Key.{Key}
use Rattle.positions.specs.declared.firsts.Key.TheVariants.{Place, Thread, Start, Ident}

-- the keys of a table are those below
abbrev pub keys : ℕ
keys = 256

-- the key of action b; past the keys where b isn't in the table
abbrev pub key_of : List ℕ → Key → ℕ → ℕ
key_of x Place b = cond (sync x b) (place x b) keys
key_of x Thread b = thread x b
key_of x Start b = cond (eqb (kind x b) 7) (target x b) keys
key_of x Ident b = ident x b % 256

-- the first action of each key
unfoldable pub firsts : List ℕ → Key → List ℕ
firsts x key = list keys (λ v. found (size x) (λ b. eqb (key_of x key b) v))

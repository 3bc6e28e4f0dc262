-- 13: the actions that count.
use Rattle.std.specs.Prelude.{ℕ, List, Bool, true, ◌&&◌, ◌||◌, eqb, ltb, Option, Some, None}
use Rattle.model.specs.Layout.{thread, kind, target, place}

-- b is a lock or an unlock
abbrev pub monitoring : List ℕ → ℕ → Bool
monitoring x b = eqb (kind x b) 5 || eqb (kind x b) 6

-- t is the thread, or there is none, which is anyone's
abbrev pub admits : Option ℕ → ℕ → Bool
admits None t = true
admits (Some s) t = eqb t s

-- b is on the monitor v at a place below p, by such a thread
abbrev pub counted : List ℕ → ℕ → ℕ → Option ℕ → ℕ → Bool
counted x v p by b = eqb (target x b) v && ltb (place x b) p && admits by (thread x b)

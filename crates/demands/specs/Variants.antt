-- Variants of record M that the theorems are tried on.
use Rattle.std.specs.Prelude.{ℕ, List}
use Rattle.model.specs.Bench.{M}

-- bench case 2: action 3 sees the initial write
abbrev pub case2 : List ℕ
case2 = M 1 2 2 1 0 0

-- bench case 3: the places of actions 1 and 2 are exchanged
abbrev pub case3 : List ℕ
case3 = M 2 1 2 1 1 5

-- no bench case: action 2, the volatile read, sees the initial write
abbrev pub stale : List ℕ
stale = M 1 2 0 0 1 5

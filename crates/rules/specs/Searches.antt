-- What the rules search a section x for, beside an action a. h is happens-before of the section.
use Rattle.std.specs.Prelude.{ℕ, List, Bool, not, ◌&&◌, ◌||◌, eqb, Option, Some, None, [], ◌∷◌}
use Rattle.std.specs.List.{find}
use Rattle.model.specs.Layout.{ident, target, seen, write}
use Rattle.model.specs.Rules.{rival}
use Rattle.rules.specs.Sources.{before}

-- 15: a write to a's variable with the identifier that a sees
unfoldable pub seen_by : List ℕ → ℕ → ℕ → Bool
seen_by x a b = eqb (ident x b) (seen x a) && rival x a b

-- 18: a write to a's variable that happens before a, and after the write w
unfoldable pub hiding : (ℕ → ℕ → Bool) → List ℕ → ℕ → Option ℕ → ℕ → Bool
hiding h x a w b = rival x a b && before h w b && h b a

-- 31: of two plain accesses, what makes them race
unfoldable pub races : (ℕ → ℕ → Bool) → List ℕ → ℕ → ℕ → Bool
races h x a b = eqb (target x a) (target x b) && (write x a || write x b) && (not (h a b) && not (h b a))

-- 31: of a write and another plain access
unfoldable pub meets : (ℕ → ℕ → Bool) → List ℕ → ℕ → ℕ → Bool
meets h x a b = eqb (target x a) (target x b) && (not (h a b) && not (h b a))

-- 31: the first entry of l that t finds a later one for, with the first such
unfoldable pub least_pair : (ℕ → ℕ → Bool) → List ℕ → Option (ℕ × ℕ)
least_pair t [] = None
least_pair t (a ∷ l) = elim (find (t a) l) [ Some b ↦ Some (a, b) | None ↦ least_pair t l ]

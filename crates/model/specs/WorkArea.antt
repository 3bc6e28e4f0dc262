-- The work area: what a part's words are, and how a part is laid into the words lent.
use Rattle.std.specs.Prelude.{ℕ, zero, suc, ◌+◌, ◌*◌, ◌/◌, ◌%◌, ◌^◌, List, [], ◌∷◌, ◌++◌, Bool, cond, ◌&&◌, get_or, take, drop, eqb, ltb}
use Rattle.model.specs.Limits.{row_words, part_words}
use Rattle.model.specs.Layout.{section}
use Rattle.model.specs.Relations.{hb}

-- the number whose bit j is set exactly when p j, for j below k; all other bits clear
unfoldable pub bits : ℕ → (ℕ → Bool) → ℕ
bits zero p = 0
bits (suc k) p = bits k p + cond (p k) (2 ^ k) 0

-- the list of f 0 to f (n - 1)
unfoldable pub list : ℕ → (ℕ → ℕ) → List ℕ
list zero f = []
list (suc n) f = list n f ++ (f n ∷ [])

-- Rows of W words: bit b mod 64 of word W a + b div 64 is set exactly when p a b. The first n words of them
unfoldable pub rows : ℕ → ℕ → (ℕ → ℕ → Bool) → List ℕ
rows W n p = list n (λ w. bits 64 (λ j. p (w / W) (64 * (w % W) + j)))

-- the bit of rows of W words that stands for a and b
unfoldable pub bit : ℕ → List ℕ → ℕ → ℕ → Bool
bit W ws a b = ltb b (64 * W) && eqb (get_or ws (W * a + b / 64) 0 / 2 ^ (b % 64) % 2) 1

-- happens-before as the words of a part show it: whether a hb b
unfoldable pub shown : List ℕ → ℕ → ℕ → Bool
shown ws a b = bit row_words ws a b

-- the words of a section's part: row a, bit b for a hb b
unfoldable pub part : List ℕ → List ℕ
part x = rows row_words part_words (hb x)

-- the words ws with p in place of the words of part s
unfoldable pub laid : List ℕ → ℕ → List ℕ → List ℕ
laid ws s p = take (part_words * s) ws ++ (p ++ drop (part_words * s + part_words) ws)

-- the words ws with the parts 0 to n - 1 filled
unfoldable pub filled : List ℕ → ℕ → List ℕ → List ℕ
filled r zero ws = ws
filled r (suc s) ws = laid (filled r s ws) s (part (section r s))

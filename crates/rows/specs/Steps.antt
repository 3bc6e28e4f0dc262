-- What the words are after a bit is set, after a row is or-ed into another, and after a round of closing, in rows of W words.
use Rattle.std.specs.Prelude.{ℕ, ◌+◌, ◌*◌, ◌/◌, ◌%◌, ◌^◌, List, cond, ◌&&◌, ◌||◌, length, get_or, set, eqb, ltb, leb}
use Rattle.std.specs.Int.Bits.{bit_or}
use Rattle.model.specs.WorkArea.{rows, bit}

-- the words ws with the bit for a and b set; ws where they have no such bit
unfoldable pub mark : ℕ → List ℕ → ℕ → ℕ → List ℕ
mark W ws a b =
    let i = W * a + b / 64 in cond (ltb b (64 * W)) (set ws i (bit_or (get_or ws i 0) (2 ^ (b % 64)))) ws

-- the words ws with row `from` of the words us or-ed into row `to`; ws where a row is missing
unfoldable pub join : ℕ → List ℕ → ℕ → List ℕ → ℕ → List ℕ
join W ws to us from =
    cond (leb (W * to + W) (length ws) && leb (W * from + W) (length us))
    (rows W (length ws) (λ a b. bit W ws a b || eqb a to && bit W us from b))
    ws

-- the words ws through round k: those of the first n rows that have bit k took in row k; ws where they are no rows of n positions, or k is none of these
unfoldable pub round : ℕ → List ℕ → ℕ → ℕ → List ℕ
round W ws n k =
    cond (ltb k n && leb n (64 * W) && leb (W * n) (length ws))
    (rows W (length ws) (λ a b. bit W ws a b || ltb a n && (bit W ws a k && bit W ws k b)))
    ws

-- The three questions: the answer, the words and the list that each leaves, for every input.
use Rattle.std.specs.Prelude.{ℕ, ◌+◌, ◌*◌, List, ◌++◌, cond, length, drop, eqb, ltb}
use Rattle.model.specs.declared.Answer.{Answer}
use Rattle.model.specs.Limits.{part_words}
use Rattle.model.specs.Search.{none}
use Rattle.model.specs.Answers.{answer, when, up_to, ◌then◌}
use Rattle.model.specs.Layout.{K, section, size}
use Rattle.model.specs.Relations.{hb}
use Rattle.model.specs.Refused.{refusal}
use Rattle.model.specs.WorkArea.{filled}
use Rattle.model.specs.Rules.{ordered, well_formed, racing}
use Rattle.model.specs.Serial.{serial}
use Rattle.model.specs.Justified.{committing}

-- the refusals of each question, where `lent` words are lent, and for order a list of `room` entries
unfoldable pub verdict_refusal : List ℕ → ℕ → Answer
verdict_refusal r lent = refusal r (part_words * (K r + 1)) lent

unfoldable pub race_refusal : List ℕ → ℕ → Answer
race_refusal r lent = refusal r part_words lent

unfoldable pub order_refusal : List ℕ → ℕ → ℕ → Answer
order_refusal r lent room =
    race_refusal r lent then when (ltb room (size (section r 0))) (answer 8 0 none none)

-- the words ws after a question that fills n parts unless it refuses
unfoldable pub left : Answer → List ℕ → ℕ → List ℕ → List ℕ
left refused r n ws = cond (eqb refused.n 0) (filled r n ws) ws

-- Verdict
unfoldable pub judged : List ℕ → Answer
judged r =
    up_to (K r + 1) (λ s. well_formed (hb (section r s)) s (section r s))
    then up_to (K r) (λ k. committing (hb (section r 0)) (hb (section r (k + 1))) r (k + 1))
    then when (eqb (K r) 0) (answer 10 0 none none)

unfoldable pub verdict : List ℕ → ℕ → Answer
verdict r lent = verdict_refusal r lent then judged r

unfoldable pub verdict_words : List ℕ → List ℕ → List ℕ
verdict_words r ws = left (verdict_refusal r (length ws)) r (K r + 1) ws

-- Race
unfoldable pub race_of : List ℕ → Answer
race_of r = ordered 0 (section r 0) then racing (hb (section r 0)) (section r 0)

unfoldable pub race : List ℕ → ℕ → Answer
race r lent = race_refusal r lent then race_of r

unfoldable pub race_words : List ℕ → List ℕ → List ℕ
race_words r ws = left (race_refusal r (length ws)) r 1 ws

-- Order
unfoldable pub order_of : List ℕ → Answer
order_of r = let x = section r 0 in well_formed (hb x) 0 x then racing (hb x) x

unfoldable pub order : List ℕ → ℕ → ℕ → Answer
order r lent room = order_refusal r lent room then order_of r

unfoldable pub order_words : List ℕ → List ℕ → ℕ → List ℕ
order_words r ws room = left (order_refusal r (length ws) room) r 1 ws

unfoldable pub order_list : List ℕ → ℕ → List ℕ → List ℕ
order_list r lent l =
    let n = size (section r 0) in
    cond (eqb (order r lent (length l)).n 0) (serial (section r 0) n ++ drop n l) l

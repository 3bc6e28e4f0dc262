-- Rules 11 to 18 on a section x, and the race of number 31. Each is a test of an action; the answer names the first action that fails it.
-- h is happens-before of the section.
use Rattle.std.specs.Prelude.{ℕ, List, Bool, true, not, cond, ◌&&◌, ◌||◌, eqb, ltb, ℤ, pos}
use Rattle.model.specs.declared.Answer.{Answer}
use Rattle.model.specs.Search.{any, first, count}
use Rattle.model.specs.Answers.{rule, rule₂, ◌then◌}
use Rattle.model.specs.Layout.{size, ident, thread, kind, target, place, seen, value, same_ℤ, sync, read, write}
use Rattle.model.specs.Relations.{race}

-- "a synchronization action's place over their number in the section, or equal to an earlier one's"
unfoldable pub broken11 : List ℕ → ℕ → Bool
broken11 x a =
    sync x a
    && (ltb (count (size x) (sync x)) (place x a) || any a (λ b. sync x b && eqb (place x b) (place x a)))

-- "an earlier synchronization action of the same thread has a larger place"
unfoldable pub broken12 : List ℕ → ℕ → Bool
broken12 x a =
    sync x a && any a (λ b. sync x b && eqb (thread x b) (thread x a) && ltb (place x a) (place x b))

-- actions of kind k on a's monitor at smaller places, by the threads that `by` admits
unfoldable pub monitored : List ℕ → ℕ → (ℕ → Bool) → ℕ → ℕ
monitored x a by k =
    count (size x) (λ b. eqb (kind x b) k && eqb (target x b) (target x a) && ltb (place x b) (place x a) && by (thread x b))

-- before a's place the threads that `by` admits hold a's monitor: their locks of it outnumber their unlocks
unfoldable pub held : List ℕ → ℕ → (ℕ → Bool) → Bool
held x a by = ltb (monitored x a by 6) (monitored x a by 5)

-- "a lock of a held monitor, or an unlock by a thread that doesn't hold it"
unfoldable pub broken13 : List ℕ → ℕ → Bool
broken13 x a =
    eqb (kind x a) 5 && held x a (λ t. true)
    || eqb (kind x a) 6 && not (held x a (λ t. eqb t (thread x a)))

-- p holds at a, and at no action of smaller place
unfoldable pub least : List ℕ → (ℕ → Bool) → ℕ → Bool
least x p a = p a && not (any (size x) (λ b. p b && ltb (place x b) (place x a)))

-- the first action of thread t; the section's size where there is none
unfoldable pub first_of : List ℕ → ℕ → ℕ
first_of x t = first (size x) (λ b. eqb (thread x b) t)

-- a's target "has actions and" its "first isn't kind 8 with a larger place"
unfoldable pub begun : List ℕ → ℕ → Bool
begun x a =
    let b = first_of x (target x a) in ltb b (size x) && not (eqb (kind x b) 8 && ltb (place x a) (place x b))

-- a start: of the own thread; of one already started; of one whose actions do not begin after it
unfoldable pub misstarted : List ℕ → ℕ → Bool
misstarted x a =
    eqb (target x a) (thread x a)
    || any a (λ b. eqb (kind x b) 7 && eqb (target x b) (target x a))
    || begun x a

-- b is an action of a's target at a smaller place
unfoldable pub ended : List ℕ → ℕ → ℕ → Bool
ended x a b = eqb (thread x b) (target x a) && ltb (place x b) (place x a)

-- "a join without a kind 9 action of its target at a smaller place"
unfoldable pub misjoined : List ℕ → ℕ → Bool
misjoined x a = not (any (size x) (λ b. eqb (kind x b) 9 && ended x a b))

unfoldable pub broken14 : List ℕ → ℕ → Bool
broken14 x a =
    eqb (kind x a) 8 && any a (λ b. eqb (thread x b) (thread x a))
    || eqb (kind x a) 9 && any (size x) (λ b. ltb a b && eqb (thread x b) (thread x a))
    || eqb (kind x a) 7 && misstarted x a
    || eqb (kind x a) 10 && misjoined x a

-- b is a write to a's variable
unfoldable pub rival : List ℕ → ℕ → ℕ → Bool
rival x a b = write x b && eqb (target x b) (target x a)

-- the action of x with identifier d; x's size where there is none
unfoldable pub twin : List ℕ → ℕ → ℕ
twin x d = first (size x) (λ a. eqb (ident x a) d)

-- the action of the write that a sees; the section's size where it is the initial write
abbrev pub seen_at : List ℕ → ℕ → ℕ
seen_at x a = twin x (seen x a)

-- "a read's seen write isn't a write to its variable in the section"
unfoldable pub broken15 : List ℕ → ℕ → Bool
broken15 x a =
    read x a && not (eqb (seen x a) 0)
    && not (any (size x) (λ b. eqb (ident x b) (seen x a) && rival x a b))

-- the value of the write that a sees
unfoldable pub seen_value : List ℕ → ℕ → ℤ
seen_value x a = cond (eqb (seen x a) 0) (pos 0) (value x (seen_at x a))

-- "a read's value isn't its seen write's"
unfoldable pub broken16 : List ℕ → ℕ → Bool
broken16 x a = read x a && not (same_ℤ (value x a) (seen_value x a))

-- b is a write to a's variable at a smaller place
unfoldable pub earlier : List ℕ → ℕ → ℕ → Bool
earlier x a b = rival x a b && ltb (place x b) (place x a)

-- the write to a's variable of largest place below a's; the section's size where it is the initial write
unfoldable pub latest : List ℕ → ℕ → ℕ
latest x a =
    first (size x) (λ b. earlier x a b && not (any (size x) (λ c. earlier x a c && ltb (place x b) (place x c))))

-- the identifier of the write at b; 0 for the initial write
unfoldable pub write_ident : List ℕ → ℕ → ℕ
write_ident x b = cond (ltb b (size x)) (ident x b) 0

-- "a volatile read doesn't see the write to its variable of largest place below its own (initial if none)"
unfoldable pub broken17 : List ℕ → ℕ → Bool
broken17 x a = eqb (kind x a) 3 && not (eqb (seen x a) (write_ident x (latest x a)))

-- the write that a sees happens before b: the initial one does before every action
unfoldable pub seen_hb : (ℕ → ℕ → Bool) → List ℕ → ℕ → ℕ → Bool
seen_hb h x a b = eqb (seen x a) 0 || h (seen_at x a) b

-- "a read r of kind 1 hb its seen write w, or a write w' to its variable has w hb w' hb r"
unfoldable pub broken18 : (ℕ → ℕ → Bool) → List ℕ → ℕ → Bool
broken18 h x a =
    eqb (kind x a) 1
    && (not (eqb (seen x a) 0) && h a (seen_at x a)
    || any (size x) (λ b. rival x a b && seen_hb h x a b && h b a))

-- The order, monitor and thread rules
unfoldable pub ordered : ℕ → List ℕ → Answer
ordered s x =
    rule 11 s (size x) (broken11 x)
    then rule 12 s (size x) (broken12 x)
    then rule 13 s (size x) (least x (broken13 x))
    then rule 14 s (size x) (broken14 x)

-- The seen-write rules and the two consistency rules
unfoldable pub consistent : (ℕ → ℕ → Bool) → ℕ → List ℕ → Answer
consistent h s x =
    rule 15 s (size x) (broken15 x)
    then rule 16 s (size x) (broken16 x)
    then rule 17 s (size x) (broken17 x)
    then rule 18 s (size x) (broken18 h x)

-- 11 to 18 on section s, whose bytes are x
unfoldable pub well_formed : (ℕ → ℕ → Bool) → ℕ → List ℕ → Answer
well_formed h s x = ordered s x then consistent h s x

-- 31: "the least pair of positions A < B that races"
unfoldable pub racing : (ℕ → ℕ → Bool) → List ℕ → Answer
racing h x = rule₂ 31 0 (size x) (λ a b. ltb a b && race h x a b)

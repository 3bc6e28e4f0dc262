-- Demand 3 and the claim about races, stated over the bytes of a record and the answers to it. There are no proofs here: proofs/ has one of each statement.
-- r and q are the bytes of records, E r those of section 0; x is the bytes of a section; a, b, w are positions in it, i and j steps of a sequence of them.
use Rattle.std.specs.Prelude.{ℕ, zero, suc, ◌+◌, ◌*◌, ◌<◌, ◌≡◌, List, ◌↔◌, ◌⊎◌, Bool, true, false, cond, ◌&&◌, ◌||◌, length, get_or, take, eqb, ltb, leb}
use Rattle.model.specs.Limits.{part_words}
use Rattle.model.specs.Search.{count}
use Rattle.model.specs.Answers.{answer, rule}
use Rattle.model.specs.Layout.{byte, section, size, ident, target, place, seen, sync, read, write}
use Rattle.model.specs.Relations.{po, hb}
use Rattle.model.specs.Refused.{refusal}
use Rattle.model.specs.Rules.{rival, broken15, broken16, broken17, broken18, ordered, racing}
use Rattle.model.specs.Serial.{next, ready}
use Rattle.model.specs.Questions.{race_refusal, race, race_words, order_refusal, order, order_list}
use Rattle.jmm.proofs.race.Reads as public_race
use Rattle.jmm.proofs.order.Reads as public_order
use Rattle.model.specs.Bench.{record_m}
use Rattle.demands.specs.Variants.{case2, case3, stale}

abbrev pub E : List ℕ → List ℕ
E r = section r 0

-- THE RULES, by the tests that the answers are made of.

-- rule N names no action of section x
abbrev pub Passes : List ℕ → ℕ → (ℕ → Bool) → Type 0
Passes x N broken = (rule N 0 (size x) broken).n ≡ 0

abbrev pub Passes17 : List ℕ → Type 0
Passes17 r = Passes (E r) 17 (broken17 (E r))

abbrev pub Passes18 : List ℕ → Type 0
Passes18 r = Passes (E r) 18 (broken18 (hb (E r)) (E r))

-- "passes 11 to 16"
pub record Passes11To16 (r : List ℕ) : Type 0 where
  pub rules11_14 : (ordered 0 (E r)).n ≡ 0
  pub rule15 : Passes (E r) 15 (broken15 (E r))
  pub rule16 : Passes (E r) 16 (broken16 (E r))

-- "a record that is not refused and whose section 0 passes 11 to 16 and has no race". The questions want other numbers of words: any two numbers do
pub record RaceFree (r : List ℕ) : Type 0 where
  pub unrefused : (need lent : ℕ) × ((refusal r need lent).n ≡ 0)
  pub rules : Passes11To16 r
  pub no_race : (racing (hb (E r)) (E r)).n ≡ 0

-- synchronization order
abbrev pub so : List ℕ → ℕ → ℕ → Bool
so x a b = sync x a && sync x b && ltb (place x a) (place x b)

-- TOTAL ORDERS, the first form: a relation on positions.

module _ (x : List ℕ) (◌≺◌ : ℕ → ℕ → Type 0) where
  infix 50 ◌≺◌
  -- "total order of the positions that keeps program order and synchronization order"
  pub record TotalOrder : Type 0 where
    pub irreflexive : (a : ℕ) → a < size x → a ≺ a → ⊥
    pub transitive : (a b c : ℕ) → a < size x → b < size x → c < size x → a ≺ b → b ≺ c → a ≺ c
    pub total : (a b : ℕ) → a < size x → b < size x → (a ≡ b → ⊥) → (a ≺ b) ⊎ (b ≺ a)
    pub keeps_po : (a b : ℕ) → a < size x → b < size x → po x a b ≡ true → a ≺ b
    pub keeps_so : (a b : ℕ) → a < size x → b < size x → so x a b ≡ true → a ≺ b

  -- w is "the latest earlier write to its variable", that is to a's
  pub record Latest (a w : ℕ) : Type 0 where
    pub position : w < size x
    pub writes : rival x a w ≡ true
    pub earlier : w ≺ a
    pub latest : (b : ℕ) → b < size x → rival x a b ≡ true → b ≺ a → w ≺ b → ⊥

  -- there is none
  abbrev pub None : ℕ → Type 0
  None a = (b : ℕ) → b < size x → rival x a b ≡ true → b ≺ a → ⊥

  -- a sees "the latest earlier write to its variable, the initial write if there is none"
  abbrev pub Sees : ℕ → Type 0
  Sees a = ((seen x a ≡ 0) × None a) ⊎ ((w : ℕ) × (seen x a ≡ ident x w) × Latest a w)

  abbrev pub EachSees : Type 0
  EachSees = (a : ℕ) → a < size x → read x a ≡ true → Sees a

-- DEMAND 3. "It passes 17 and 18 if and only if in every total order of the positions that keeps program order and synchronization order each read sees
-- the latest earlier write to its variable, the initial write if there is none."
abbrev pub Demand3 : Type 1
Demand3 =
    (r : List ℕ) → RaceFree r
    → (Passes17 r × Passes18 r) ↔ ((◌≺◌ : ℕ → ℕ → Type 0) → TotalOrder (E r) ◌≺◌ → EachSees (E r) ◌≺◌)

-- TOTAL ORDERS, the second form: a sequence of positions, run one at a time.

-- l has each position once and nothing else, and keeps both orders
pub record Sequence (x l : List ℕ) : Type 0 where
  pub whole : length l ≡ size x
  pub positions : (i : ℕ) → i < size x → get_or l i 0 < size x
  pub once : (a : ℕ) → a < size x → count (size x) (λ i. eqb (get_or l i 0) a) ≡ 1
  pub keeps_po : (i j : ℕ) → i < size x → j < size x → po x (get_or l i 0) (get_or l j 0) ≡ true → i < j
  pub keeps_so : (i j : ℕ) → i < size x → j < size x → so x (get_or l i 0) (get_or l j 0) ≡ true → i < j

-- the write that variable v holds after the first i steps, by its identifier: the last one to it, or 0, the initial write
unfoldable pub holds : List ℕ → List ℕ → ℕ → ℕ → ℕ
holds x l zero v = 0
holds x l (suc i) v = let a = get_or l i 0 in cond (write x a && eqb (target x a) v) (ident x a) (holds x l i v)

-- each read sees what its variable holds
abbrev pub Runs : List ℕ → List ℕ → Type 0
Runs x l = (i : ℕ) → i < size x → (let a = get_or l i 0 in read x a ≡ true → seen x a ≡ holds x l i (target x a))

abbrev pub Demand3Sequences : Type 0
Demand3Sequences =
    (r : List ℕ) → RaceFree r → (Passes17 r × Passes18 r) ↔ ((l : List ℕ) → Sequence (E r) l → Runs (E r) l)

-- THE TWO FORMS ARE EQUAL, for every section: each sequence is a total order in which reads see the same; each total order comes from exactly one sequence
abbrev pub Precedes : List ℕ → ℕ → ℕ → Type 0
Precedes l a b = (i j : ℕ) × (i < j) × (j < length l) × (get_or l i 0 ≡ a) × (get_or l j 0 ≡ b)

abbrev pub ComesFrom : List ℕ → (ℕ → ℕ → Type 0) → List ℕ → Type 0
ComesFrom x R l = Sequence x l × ((a b : ℕ) → a < size x → b < size x → R a b ↔ Precedes l a b)

abbrev pub TwoForms : Type 1
TwoForms =
    (x : List ℕ)
    → ((l : List ℕ) → Sequence x l → TotalOrder x (Precedes l) × (Runs x l ↔ EachSees x (Precedes l)))
    × ((◌≺◌ : ℕ → ℕ → Type 0) → TotalOrder x ◌≺◌
    → (l : List ℕ) × ComesFrom x ◌≺◌ l × ((k : List ℕ) → ComesFrom x ◌≺◌ k → k ≡ l))

-- WHAT ORDER ANSWERS.

-- after the positions l thread t goes on, with its next action a: it is "the lowest-numbered thread whose next action isn't a synchronization action or has
-- the next place due" (`ready`)
abbrev pub GoesOn : List ℕ → List ℕ → ℕ → ℕ → Type 0
GoesOn x l t a = (ready x l t ≡ true) × ((u : ℕ) → u < t → ready x l u ≡ false) × (a ≡ next x l t)

-- "at each step"
abbrev pub Greedy : List ℕ → List ℕ → Type 0
Greedy x l = (length l ≡ size x) × ((i : ℕ) → i < size x → (t : ℕ) × GoesOn x (take i l) t (get_or l i 0))

-- the list l begins with a sequence h, and in this as in every sequence each read sees what its variable holds; h is the greedy one, and no other list is
abbrev pub HandsOut : List ℕ → List ℕ → Type 0
HandsOut r l =
    let h = take (size (E r)) l in
    Sequence (E r) h × ((k : List ℕ) → Sequence (E r) k → Runs (E r) k) × Greedy (E r) h × ((k : List ℕ) → Greedy (E r) k → k ≡ h)

abbrev pub OrderHandsOut : Type 0
OrderHandsOut = (r : List ℕ) (lent : ℕ) (l : List ℕ) → (order r lent (length l)).n ≡ 0 → HandsOut r (order_list r lent l)

-- N is 17 or 18, the first of the two that fails, and 0 where both pass
abbrev pub Decides : List ℕ → ℕ → Type 0
Decides r N =
    (Passes17 r → Passes18 r → N ≡ 0) × ((Passes17 r → ⊥) → N ≡ 17) × (Passes17 r → (Passes18 r → ⊥) → N ≡ 18)

abbrev pub OrderAnswers : Type 0
OrderAnswers = (r : List ℕ) (lent room : ℕ) → (order_refusal r lent room).n ≡ 0 → RaceFree r → Decides r (order r lent room).n

-- Both for a caller of the public function: c is the arguments (record, words, list), p the answer, s the parameters at exit
abbrev pub OrderPromise : Type 0
OrderPromise =
    (κs : _) (c : _) (p : _) (s : _) → public_order.Post κs c p s
    → (p.n ≡ 0 → HandsOut c.0.now s.1.1.0.now)
    × ((order_refusal c.0.now (length c.1.0.now) (length c.1.1.0.now)).n ≡ 0 → RaceFree c.0.now → Decides c.0.now p.n)

-- WHAT RACE ANSWERS.

-- byte k of an action belongs to its commit, seen or value field
abbrev pub ignored : ℕ → Bool
ignored k = eqb k 5 || eqb k 8 || eqb k 9 || leb 12 k

-- "the same section 0 but for seen, value and commit fields". Nothing is asked of T, V, M, the map, K and the other sections
abbrev pub Alike : List ℕ → List ℕ → Type 0
Alike x y =
    (size x ≡ size y)
    × ((a k : ℕ) → a < size x → k < 20 → ignored k ≡ false → byte x (2 + 20 * a + k) ≡ byte y (2 + 20 * a + k))

abbrev pub RaceIgnores : Type 0
RaceIgnores =
    (r q ws vs : List ℕ) → (race_refusal r (length ws)).n ≡ 0 → (race_refusal q (length vs)).n ≡ 0 → Alike (E r) (E q)
    → (race r (length ws) ≡ race q (length vs)) × (take part_words (race_words r ws) ≡ take part_words (race_words q vs))

-- For callers of the public function: two calls, with arguments c and d (record, words), answers p and o, parameters at exit s and t
abbrev pub RacePromise : Type 0
RacePromise =
    (κs λs : _) (c : _) (d : _) (p : _) (o : _) (s : _) (t : _) → public_race.Post κs c p s → public_race.Post λs d o t
    → (race_refusal c.0.now (length c.1.0.now)).n ≡ 0 → (race_refusal d.0.now (length d.1.0.now)).n ≡ 0
    → Alike (E c.0.now) (E d.0.now)
    → (p ≡ o) × (take part_words s.1.0.now ≡ take part_words t.1.0.now)

-- NOT VACUOUS.

-- there is a total order to speak of
abbrev pub SomeSequence : Type 0
SomeSequence = (r : List ℕ) → RaceFree r → (l : List ℕ) × Sequence (E r) l

-- Record M meets the hypotheses and passes; case 2 meets them and fails 18; M with its volatile read seeing the initial write meets them and fails 17.
-- Case 3 is not refused, passes 11 to 16 and fails 17, but has a race. M and case 2 are alike to race
abbrev pub Cases : Type 0
Cases =
    (RaceFree record_m × Passes17 record_m × Passes18 record_m)
    × (RaceFree case2 × Passes17 case2 × (Passes18 case2 → ⊥))
    × (RaceFree stale × (Passes17 stale → ⊥))
    × (((refusal case3 part_words part_words).n ≡ 0) × Passes11To16 case3 × (Passes17 case3 → ⊥) × (racing (hb (E case3)) (E case3) ≡ answer 31 0 0 3))
    × Alike (E record_m) (E case2)

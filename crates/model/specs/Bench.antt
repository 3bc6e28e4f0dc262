-- The bench cases 1 to 11 that are marked P, as one table. The records are built from the document's description.
use Rattle.std.specs.Prelude.{ℕ, List, [], ◌∷◌, ◌++◌, Bool, true, false, ◌&&◌, length, take, replicate, eqb}
use Rattle.model.specs.declared.Answer.{Answer}
use Rattle.model.specs.Search.{none}
use Rattle.model.specs.Answers.{answer, packed}
use Rattle.model.specs.Layout.{mark}
use Rattle.model.specs.Questions.{verdict, verdict_words, race, race_words, order, order_words, order_list}

-- Bytes of a record whose numbers are below 256
action : ℕ → ℕ → ℕ → ℕ → ℕ → ℕ → ℕ → ℕ → List ℕ
action id thread kind target commit place seen value =
    id ∷ 0 ∷ thread ∷ kind ∷ target ∷ commit ∷ place ∷ 0 ∷ seen ∷ 0 ∷ 0 ∷ 0 ∷ value ∷ replicate 7 0

four : List ℕ → List ℕ → List ℕ → List ℕ → List ℕ
four a b c d = 4 ∷ 0 ∷ a ++ (b ++ (c ++ d))

header : ℕ → ℕ → ℕ → ℕ → List ℕ
header t v k map = mark ++ (1 ∷ 0 ∷ t ∷ v ∷ 0 ∷ k ∷ map ∷ replicate 7 0)

-- Record M: the places of actions 1 and 2; what action 2 sees, as an identifier, with its value; the same of action 3
unfoldable pub M : ℕ → ℕ → ℕ → ℕ → ℕ → ℕ → List ℕ
unfolding action four header
M place1 place2 seen2 value2 seen3 value3 =
    header 2 2 0 2
    ++ four (action 1 0 2 0 0 0 0 5)
    (action 2 0 4 1 0 place1 0 1)
    (action 3 1 3 1 0 place2 seen2 value2)
    (action 4 1 1 0 0 0 seen3 value3)

abbrev pub record_m : List ℕ
record_m = M 1 2 2 1 1 5

-- An execution of record F: the commit numbers; what the reads of x and of y see, with its value; the value written to x
execution : ℕ → ℕ → ℕ → ℕ → ℕ → ℕ → ℕ → ℕ → ℕ → List ℕ
execution c0 c1 c2 c3 seen0 value0 seen2 value2 value3 =
    four (action 1 0 1 0 c0 0 seen0 value0) (action 2 0 2 1 c1 0 0 1) (action 3 1 1 1 c2 0 seen2 value2) (action 4 1 2 0 c3 0 0 value3)

-- Record F: the commit number of the read of y; what it sees in E_1, with its value; the value written to x in E_3
F : ℕ → ℕ → ℕ → ℕ → List ℕ
F commit2 seen2 value2 value3 =
    header 2 2 4 0
    ++ (execution 4 1 commit2 3 4 1 2 1 1
    ++ (execution 0 0 0 0 0 0 seen2 value2 0
    ++ (execution 0 0 0 0 0 0 0 0 0
    ++ (execution 0 0 0 0 0 0 2 1 value3
    ++ execution 0 0 0 0 0 0 2 1 1))))

-- What a row of the table asks
pub data Question : Type 0 where
  Verdict Race Order : Question

-- A record and its length; how many words are lent, each 1; the question; the answer; the words that part 0 then begins with, where they are
-- named; and the list, lent as six entries 9, where it is named
pub record Case : Type 0 where
  pub bytes : List ℕ
  pub long : ℕ
  pub lent : ℕ
  pub question : Question
  pub expected : Answer
  pub words : List ℕ
  pub listed : List ℕ

case : List ℕ → ℕ → ℕ → Question → Answer → List ℕ → List ℕ → Case
case r n lent q e ws l =
    record { bytes = r; long = n; lent = lent; question = q; expected = e; words = ws; listed = l }

table : List Case
table =
    -- 1
    case record_m 99 256 Verdict (answer 10 0 none none) (14 ∷ 0 ∷ 12 ∷ 0 ∷ 8 ∷ 0 ∷ 0 ∷ 0 ∷ []) []
    ∷ case record_m 99 256 Race (answer 0 0 none none) (14 ∷ 0 ∷ 12 ∷ 0 ∷ 8 ∷ 0 ∷ 0 ∷ 0 ∷ []) []
    ∷ case record_m 99 256 Order (answer 0 0 none none) (14 ∷ 0 ∷ 12 ∷ 0 ∷ 8 ∷ 0 ∷ 0 ∷ 0 ∷ []) (0 ∷ 1 ∷ 2 ∷ 3 ∷ 9 ∷ 9 ∷ [])
    -- 2
    ∷ case (M 1 2 2 1 0 0) 99 256 Verdict (answer 18 0 3 none) [] []
    -- 3
    ∷ case (M 2 1 2 1 1 5) 99 256 Verdict (answer 17 0 2 none) [] []
    -- 4
    ∷ case (M 2 1 0 0 1 5) 99 256 Verdict (answer 10 0 none none) [] []
    ∷ case (M 2 1 0 0 1 5) 99 256 Race (answer 31 0 0 3) [] []
    ∷ case (M 2 1 0 0 1 5) 99 256 Order (answer 31 0 0 3) [] (replicate 6 9)
    -- 5
    ∷ case (M 1 2 2 1 1 6) 99 256 Verdict (answer 16 0 3 none) [] []
    -- 6
    ∷ case record_m 99 255 Verdict (answer 4 0 none none) (replicate 255 1) []
    ∷ case (take 98 record_m) 98 256 Verdict (answer 5 0 none none) (replicate 256 1) []
    ∷ case (record_m ++ (0 ∷ [])) 100 256 Verdict (answer 5 0 none none) (replicate 256 1) []
    -- 7
    ∷ case (header 1 0 0 0 ++ (0 ∷ 0 ∷ [])) 19 256 Verdict (answer 10 0 none none) (replicate 256 0) []
    ∷ case (header 1 0 0 0 ++ (0 ∷ 0 ∷ [])) 19 256 Order (answer 0 0 none none) (replicate 256 0) (replicate 6 9)
    -- 8
    ∷ case (F 2 0 0 1) 427 1280 Verdict (answer 0 0 none none) [] []
    -- 9
    ∷ case (F 1 0 0 1) 427 1280 Verdict (answer 27 1 2 none) [] []
    -- 10
    ∷ case (F 1 2 1 1) 427 1280 Verdict (answer 26 1 2 none) [] []
    -- 11
    ∷ case (F 2 0 0 0) 427 1280 Verdict (answer 24 3 3 none) [] []
    ∷ []

-- Tests of equality
same_answer : Answer → Answer → Bool
same_answer p q = eqb p.n q.n && eqb p.s q.s && eqb p.a q.a && eqb p.b q.b

same_list : List ℕ → List ℕ → Bool
same_list [] [] = true
same_list [] (y ∷ ys) = false
same_list (x ∷ xs) [] = false
same_list (x ∷ xs) (y ∷ ys) = eqb x y && same_list xs ys

answered : Question → List ℕ → ℕ → ℕ → Answer
answered Verdict r lent room = verdict r lent
answered Race r lent room = race r lent
answered Order r lent room = order r lent room

worked : Question → List ℕ → List ℕ → ℕ → List ℕ
worked Verdict r ws room = verdict_words r ws
worked Race r ws room = race_words r ws
worked Order r ws room = order_words r ws room

named : Question → List ℕ → ℕ → List ℕ → List ℕ
named Verdict r lent l = []
named Race r lent l = []
named Order r lent l = order_list r lent l

-- the definitions give what a row of the table expects
as_expected : Case → Bool
as_expected c =
    eqb (length c.bytes) c.long
    && same_answer (answered c.question c.bytes c.lent 6) c.expected
    && same_list (take (length c.words) (worked c.question c.bytes (replicate c.lent 1) 6)) c.words
    && same_list (named c.question c.bytes c.lent (replicate 6 9)) c.listed

all : List Case → Bool
all [] = true
all (c ∷ cs) = as_expected c && all cs

-- every row is met, and the host's number for case 1
unfoldable pub bench : Bool
unfolding action four header M execution F case table same_answer same_list answered worked named as_expected all
bench = all table && eqb (packed (verdict record_m 2304)) 281474976645130

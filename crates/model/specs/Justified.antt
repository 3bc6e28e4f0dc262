-- Rules 21 to 29: the committing sequence. e is section 0 and f section i, g and h are happens-before of the one and of the other; a, b are positions
-- of e and x, y, z positions of f.
use Rattle.std.specs.Prelude.{ℕ, ◌+◌, ◌-◌, List, Bool, not, cond, ◌&&◌, ◌||◌, eqb, ltb, leb}
use Rattle.std.specs.Bool.{beq}
use Rattle.model.specs.declared.Answer.{Answer}
use Rattle.model.specs.Search.{any}
use Rattle.model.specs.Answers.{rule, rule₂, ◌then◌}
use Rattle.model.specs.Layout.{K, section, size, ident, thread, kind, target, commit, place, seen, value, same_ℤ, read, write}
use Rattle.model.specs.Relations.{po, sw}
use Rattle.model.specs.Rules.{twin, seen_hb}

-- action a of E is in C_i
abbrev pub C : List ℕ → ℕ → ℕ → Bool
C e i a = leb (commit e a) i

-- the identifier d is in C_i: an action's, or 0 for the initial writes, which belong to C_1 and not to C_0
unfoldable pub C# : List ℕ → ℕ → ℕ → Bool
C# e i d = cond (eqb d 0) (leb 1 i) (any (size e) (λ a. eqb (ident e a) d && C e i a))

-- the action of f with a's identifier
abbrev pub twin_of : List ℕ → List ℕ → ℕ → ℕ
twin_of e f a = twin f (ident e a)

-- x of f has a's "identifier, thread, kind and target"
unfoldable pub alike : List ℕ → List ℕ → ℕ → ℕ → Bool
alike e f a x =
    eqb (ident f x) (ident e a) && eqb (thread f x) (thread e a) && eqb (kind f x) (kind e a) && eqb (target f x) (target e a)

-- "an action of C_i has no action in E_i with its identifier, thread, kind and target"
unfoldable pub broken21 : List ℕ → List ℕ → ℕ → ℕ → Bool
broken21 e f i a = C e i a && not (any (size f) (alike e f a))

-- a relation, R in E and S in E_i, "holds in just one of E and E_i; x, y of C_i"
unfoldable pub just_one : (ℕ → ℕ → Bool) → (ℕ → ℕ → Bool) → List ℕ → List ℕ → ℕ → ℕ → ℕ → Bool
just_one R S e f i a b =
    C e i a && C e i b && not (beq (R a b) (S (twin_of e f a) (twin_of e f b)))

-- "x's place below y's"
unfoldable pub before : List ℕ → ℕ → ℕ → Bool
before x a b = ltb (place x a) (place x b)

-- "a write of C_i has another value in E_i"
unfoldable pub broken24 : List ℕ → List ℕ → ℕ → ℕ → Bool
broken24 e f i a = C e i a && write e a && not (same_ℤ (value e a) (value f (twin_of e f a)))

-- "a read of C_(i-1) sees another write in E_i"
unfoldable pub broken25 : List ℕ → List ℕ → ℕ → ℕ → Bool
broken25 e f i a = C e (i - 1) a && read e a && not (eqb (seen e a) (seen f (twin_of e f a)))

-- "a read of E_i outside C_(i-1) whose seen write isn't hb it in E_i"
unfoldable pub broken26 : (ℕ → ℕ → Bool) → List ℕ → List ℕ → ℕ → ℕ → Bool
broken26 h e f i x = read f x && not (C# e (i - 1) (ident f x)) && not (seen_hb h f x x)

-- x of E_i is "in C_i outside C_(i-1)"
unfoldable pub new : List ℕ → List ℕ → ℕ → ℕ → Bool
new e f i x = C# e i (ident f x) && not (C# e (i - 1) (ident f x))

-- "a read in C_i outside C_(i-1) whose seen write in E or in E_i isn't in C_(i-1)"
unfoldable pub broken27 : List ℕ → List ℕ → ℕ → ℕ → Bool
broken27 e f i x =
    read f x && new e f i x
    && not (C# e (i - 1) (seen e (twin_of f e x)) && C# e (i - 1) (seen f x))

-- a synchronizes with b, which has the identifier d
unfoldable pub sw_to : List ℕ → ℕ → ℕ → ℕ → Bool
sw_to x d a b = eqb (ident x b) d && sw x a b

-- a has the identifier c, and synchronizes with an action that has d
unfoldable pub joins : List ℕ → ℕ → ℕ → ℕ → Bool
joins x c d a = eqb (ident x a) c && any (size x) (sw_to x d a)

-- actions of x with the identifiers c and d "synchronize, first with second"
unfoldable pub sw# : List ℕ → ℕ → ℕ → Bool
sw# x c d = any (size x) (joins x c d)

-- z is between x and y in hb
unfoldable pub through : (ℕ → ℕ → Bool) → ℕ → ℕ → ℕ → Bool
through h x y z = h x z && h z y

-- "x synchronizes with y in E_i, not in program order, no action between them in hb"
unfoldable pub sufficient : (ℕ → ℕ → Bool) → List ℕ → ℕ → ℕ → Bool
sufficient h f x y = sw f x y && not (po f x y) && not (any (size f) (through h x y))

-- j is "from i to K", or it is E, and the edge between the identifiers c and d is missing there
unfoldable pub lacks : List ℕ → ℕ → ℕ → ℕ → ℕ → Bool
lacks r i c d j = (leb i j || eqb j 0) && not (sw# (section r j) c d)

-- "in some E_j, j from i to K, or in E", the edge is missing
unfoldable pub missing : List ℕ → ℕ → ℕ → ℕ → Bool
missing r i c d = any (K r + 1) (lacks r i c d)

unfoldable pub broken28 : (ℕ → ℕ → Bool) → List ℕ → ℕ → ℕ → ℕ → Bool
broken28 h r i x y =
    let f = section r i in
    sufficient h f x y
    && any (size f) (λ z. h y z && new (section r 0) f i z)
    && missing r i (ident f x) (ident f y)

-- "external x outside C_i"
unfoldable pub outside : List ℕ → List ℕ → ℕ → ℕ → Bool
outside e f i x = eqb (kind f x) 11 && not (C# e i (ident f x))

-- "external x outside C_i, x hb y in E_i, y in C_i"
unfoldable pub broken29 : (ℕ → ℕ → Bool) → List ℕ → List ℕ → ℕ → ℕ → ℕ → Bool
broken29 h e f i x y = outside e f i x && h x y && C# e i (ident f y)

-- 21 to 29 for one i
unfoldable pub committing : (ℕ → ℕ → Bool) → (ℕ → ℕ → Bool) → List ℕ → ℕ → Answer
committing g h r i =
    let e = section r 0 in
    let f = section r i in
    rule 21 i (size e) (broken21 e f i)
    then rule₂ 22 i (size e) (just_one g h e f i)
    then rule₂ 23 i (size e) (just_one (before e) (before f) e f i)
    then rule 24 i (size e) (broken24 e f i)
    then rule 25 i (size e) (broken25 e f i)
    then rule 26 i (size f) (broken26 h e f i)
    then rule 27 i (size f) (broken27 e f i)
    then rule₂ 28 i (size f) (broken28 h r i)
    then rule₂ 29 i (size f) (broken29 h e f i)

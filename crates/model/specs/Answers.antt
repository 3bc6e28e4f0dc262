-- An answer is (N, S, A, B). Smaller numbers are checked first: the answer is the first in a row of checks that is not 0.
use Rattle.std.specs.Prelude.{ℕ, zero, suc, ◌+◌, ◌*◌, ◌^◌, List, ◌++◌, Bool, true, false, eqb, Option, Some, None, Result, Ok, Err, codes, decimal}
use Rattle.model.specs.declared.Answer.{Answer}
use Rattle.model.specs.Search.{any, found, none}

abbrev pub answer : ℕ → ℕ → ℕ → ℕ → Answer
answer n s a b = record { n = n; s = s; a = a; b = b }

-- nothing broken
abbrev pub pass : Answer
pass = answer 0 0 none none

infixr 20 ◌then◌
abbrev pub ◌then◌ : Answer → Answer → Answer
r then q = elim (eqb r.n 0) [ true ↦ q | false ↦ r ]

-- the checks 0 to n - 1, in this order
unfoldable pub up_to : ℕ → (ℕ → Answer) → Answer
up_to zero f = pass
up_to (suc n) f = up_to n f then f n

-- number N, given when the test holds
abbrev pub when : Bool → Answer → Answer
when true r = r
when false r = pass

-- number N and section s, naming position a, unless a is none
abbrev pub naming : ℕ → ℕ → ℕ → ℕ → Answer
naming N s a b = elim (eqb a none) [ true ↦ pass | false ↦ answer N s a b ]

-- number N and section s, naming the first position below n at which p holds
unfoldable pub rule : ℕ → ℕ → ℕ → (ℕ → Bool) → Answer
rule N s n p = naming N s (found n p) none

-- number N and section s, naming the least x, then the least y below n, between which p holds
unfoldable pub rule₂ : ℕ → ℕ → ℕ → (ℕ → ℕ → Bool) → Answer
rule₂ N s n p = let x = found n (λ x. any n (p x)) in naming N s x (found n (p x))

-- A check as a result: an error, which is the answer, where something is broken
unfoldable pub checked : Answer → Result (Unit {0}) Answer
checked r = elim (eqb r.n 0) [ true ↦ Ok tt | false ↦ Err r ]

-- and the answer that it comes to
abbrev pub answered : Result (Unit {0}) Answer → Answer
answered (Ok u) = pass
answered (Err r) = r

-- number N and section s, naming a position, or two, where there are such
abbrev pub named : ℕ → ℕ → Option ℕ → Result (Unit {0}) Answer
named N s None = Ok tt
named N s (Some a) = Err (answer N s a none)

abbrev pub named₂ : ℕ → ℕ → Option (ℕ × ℕ) → Result (Unit {0}) Answer
named₂ N s None = Ok tt
named₂ N s (Some q) = Err (answer N s q.0 q.1)

-- as it is printed: the four numbers in decimal, a blank between each and the next
abbrev pub text : Answer → List ℕ
text r = decimal r.n ++ codes " " ++ decimal r.s ++ codes " " ++ decimal r.a ++ codes " " ++ decimal r.b

-- the host's one number
unfoldable pub packed : Answer → ℕ
packed r = r.n + 2 ^ 8 * r.s + 2 ^ 16 * r.a + 2 ^ 32 * r.b

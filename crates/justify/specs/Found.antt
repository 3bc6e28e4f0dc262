-- What is found once for E and E_i and kept: e is section 0 of the record r, f its section i.
use Rattle.std.specs.Prelude.{ℕ, zero, suc, ◌-◌, ◌<◌, ◌≤◌, ◌≡◌, List, Bool, not, cond, ◌&&◌, get_or, eqb, ltb}
use Rattle.model.specs.Limits.{max_actions}
use Rattle.model.specs.Search.{none}
use Rattle.model.specs.Layout.{size, ident, commit}
use Rattle.model.specs.Justified.{C#, twin_of}
use Rattle.positions.specs.declared.firsts.Key.TheVariants.{Ident}
use Rattle.positions.specs.Firsts.{firsts}

-- x is within the limit, and t is the table by which the positions of its identifiers are found
pub record Idents (x t : List ℕ) : Type 0 where
  pub few : size x ≤ max_actions
  pub firsts_held : t ≡ firsts x Ident

-- s, or the commit number of action a where that is smaller and d is a's identifier
unfoldable pub lower : List ℕ → ℕ → ℕ → ℕ → ℕ
lower e d a s = cond (eqb (ident e a) d && ltb (commit e a) s) (commit e a) s

-- the least commit number of the first n actions of e that have the identifier d; none where no action has it
unfoldable pub least_commit : List ℕ → ℕ → ℕ → ℕ
least_commit e d zero = none
least_commit e d (suc a) = lower e d a (least_commit e d a)

-- at the first position of each identifier of e, its least commit number among the first n actions
pub record Least (e t : List ℕ) (n : ℕ) : Type 0 where
  pub held : (a : ℕ) → a < size e → twin_of e e a ≡ a → get_or t a 0 ≡ least_commit e (ident e a) n

-- by which a stage is found: the identifiers of e, and the least commit numbers
pub record Staged (e e_firsts least : List ℕ) : Type 0 where
  pub idents : Idents e e_firsts
  pub least_held : Least e least (size e)

-- the least i for which the identifier d is in C_i; the initial writes' 0 is in C_1 first
unfoldable pub stage : List ℕ → ℕ → ℕ
stage e d = cond (eqb d 0) 1 (least_commit e d (size e))

-- the identifier d is in C_i outside C_(i-1)
abbrev pub fresh : List ℕ → ℕ → ℕ → Bool
fresh e i d = C# e i d && not (C# e (i - 1) d)

-- entry a of the list t is f a, for each a below n
pub record Holds (t : List ℕ) (n : ℕ) (f : ℕ → ℕ) : Type 0 where
  pub entry : (a : ℕ) → a < n → get_or t a 0 ≡ f a

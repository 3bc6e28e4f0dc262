-- What the two consistency rules say of a race-free section that passes the order, thread and seen-write rules (`Passed x`): 17 and 18 pass exactly when
-- every order of its actions, one at a time, that keeps program order and synchronization order (`Order x l`) shows each read the write that it sees as
-- the latest earlier one to its variable.
use Prim.Native.Nat.{ℕ, ◌<◌}
use mathlib.Core.Path.{◌≡◌, refl, ap, ◌∙◌}
use mathlib.Core.List.{List}
use mathlib.Core.Logic.{◌↔◌}
use mathlib.Core.Bool.{Bool, true, false}
use lib.Dec.{eqb}
use borrow.Author.Tests.{eqb-true}
use Rattle.model.specs.Search.{any}
use Rattle.model.specs.Kinds.{kind_row}
use Rattle.model.specs.Layout.{size, kind, row, read}
use Rattle.model.specs.Relations.{hb}
use Rattle.model.specs.declared.Header.{Header}
use Rattle.model.specs.Rules.{seen_at, broken17, broken18}
use Rattle.model.specs.Serial.{serial}
use Rattle.model.proofs.Search.{any_not, any_never}
use Rattle.model.proofs.Serial.{Order, serial_order}
pub mod Kinds
pub mod Latest
pub mod Edges
pub mod Orders
pub mod Section
pub mod Fields
pub mod Volatile
pub mod Compared
pub mod Plain
use Kinds.{plain_read, volatile_read}
use Latest.{latest_in}
use Section.{Passed}
use Fields.{Checked, checked_passed}

-- in the order l each read has the write that it sees as the latest earlier one to its variable, the initial write where there is none
abbrev pub Shows : List ℕ → List ℕ → Type 0
Shows x l = (a : ℕ) → a < size x → read x a ≡ true → seen_at x a ≡ latest_in x l a

-- 17 and 18 pass
abbrev pub Consistent : List ℕ → Type 0
Consistent x = (any (size x) (broken17 x) ≡ false) × (any (size x) (broken18 (hb x) x) ≡ false)

module _ (x : List ℕ) (passed : Passed x) (l : List ℕ) (order : Order x l) where
  shows : Consistent x → Shows x l
  shows c a h r = go (row x a).volatile refl
    where
      go : (v : Bool) → (row x a).volatile ≡ v → seen_at x a ≡ latest_in x l a
      go true e =
          Volatile.sees_latest x passed l order a h (volatile_read (kind x a) r e)
          (any_not (broken17 x) (size x) a h c.0)
      go false e =
          Plain.sees_latest x passed a h (plain_read (kind x a) r e) l order
          (any_not (broken18 (hb x) x) (size x) a h c.1)

  module _ (s : Shows x l) (a : ℕ) (h : a < size x) where
    -- what is shown to an action that is a read by its kind
    shown : (k : ℕ) → (kind_row k).read ≡ true → kind x a ≡ k → seen_at x a ≡ latest_in x l a
    shown k r e = s a h (ap (λ (k : ℕ). (kind_row k).read) e ∙ r)

    keeps17 : broken17 x a ≡ false
    unfolding broken17 kind_row
    keeps17 = go (eqb (kind x a) 3) refl
      where
        go : (b : Bool) → eqb (kind x a) 3 ≡ b → broken17 x a ≡ false
        go true e =
            let k : kind x a ≡ 3 = eqb-true (kind x a) 3 e in Volatile.passes x passed l order a h k (shown 3 refl k)
        go false e = rw e

    keeps18 : broken18 (hb x) x a ≡ false
    unfolding broken18 kind_row
    keeps18 = go (eqb (kind x a) 1) refl
      where
        go : (b : Bool) → eqb (kind x a) 1 ≡ b → broken18 (hb x) x a ≡ false
        go true e =
            let k : kind x a ≡ 1 = eqb-true (kind x a) 1 e in Plain.passes x passed a h k l order (shown 1 refl k)
        go false e = rw e

  -- every order that shows it shows that the rules pass
  consistent : Shows x l → Consistent x
  consistent s =
      (any_never (broken17 x) (size x) (keeps17 s), any_never (broken18 (hb x) x) (size x) (keeps18 s))

module _ (x : List ℕ) (passed : Passed x) where
  pub consistent_orders : Consistent x ↔ ((l : List ℕ) → Order x l → Shows x l)
  consistent_orders = (
    λ c l order. shows x passed l order c,
    λ f. let order = serial_order x passed.placed in consistent x passed (serial x (size x)) order (f (serial x (size x)) order),
  )

-- the same of a section x of a record with the header h, of which nothing is asked but the tests of the numbers
pub checked_orders : (h : Header) (s : ℕ) (x : List ℕ) → Checked h s x → Consistent x ↔ ((l : List ℕ) → Order x l → Shows x l)
checked_orders h s x c = consistent_orders x (checked_passed h s x c)

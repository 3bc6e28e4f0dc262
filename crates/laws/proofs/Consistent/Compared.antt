-- Without a race happens-before compares a read of kind 1 with each write to its variable, and these writes with each other.
use Prim.Native.Nat.{ℕ, ◌<◌}
use native.Mathlib.Omega.{arith}
use mathlib.Core.Path.{◌≡◌, refl, sym, ap, ◌∙◌}
use mathlib.Core.List.{List}
use mathlib.Core.Logic.{◌⊎◌, inl, inr, ⊎_elim}
use mathlib.Core.Bool.{Bool, true, false, not, ◌&&◌, ◌||◌, or_comm, false≢true}
use lib.Dec.{eqb, ltb}
use borrow.Author.Tests.{ltb-true, ltb-false, eqb-true, eq-eqb, lt-ltb}
use Rattle.model.specs.Search.{any}
use Rattle.model.specs.Kinds.{kind_row}
use Rattle.model.specs.Layout.{size, kind, target, row, read, write}
use Rattle.model.specs.Relations.{plain, race, hb}
use Rattle.model.specs.Rules.{rival}
use Rattle.model.proofs.Search.{any_not}
use Rattle.model.proofs.Bools.{both}
use Rattle.laws.proofs.Consistent.Kinds.{plain_write, write_unread}
use Rattle.laws.proofs.Consistent.Section.{Passed}

not_both : (s t : Bool) → not s && not t ≡ false → (s ≡ true) ⊎ (t ≡ true)
not_both true t e = inl refl
not_both false true e = inr refl
not_both false false e = absurd (false≢true (sym e))

-- b and c are actions of kinds 1 and 2 on one variable, and at least one is a write
pub record Rivals (x : List ℕ) (b c : ℕ) : Type 0 where
  pub within : b < size x
  pub within' : c < size x
  pub plain_first : plain x b ≡ true
  pub plain_second : plain x c ≡ true
  pub one_target : target x b ≡ target x c
  pub one_writes : write x b || write x c ≡ true

turned : {x : List ℕ} {b c : ℕ} → Rivals x b c → Rivals x c b
turned {x} {b} {c} r =
    record {
      within = r.within';
      within' = r.within;
      plain_first = r.plain_second;
      plain_second = r.plain_first;
      one_target = sym r.one_target;
      one_writes = or_comm (write x c) (write x b) ∙ r.one_writes;
    }

module _ (x : List ℕ) (passed : Passed x) where
  no_race : (b c : ℕ) → Rivals x b c → b < c → (hb x b c ≡ true) ⊎ (hb x c b ≡ true)
  unfolding race
  no_race b c r l =
      let row : any (size x) (λ c. ltb b c && race (hb x) x b c) ≡ false = any_not (λ b. any (size x) (λ c. ltb b c && race (hb x) x b c)) (size x) b r.within passed.race_free in
      not_both (hb x b c) (hb x c b)
      (rw (lt-ltb b c l, r.plain_first, r.plain_second, eq-eqb (target x b) (target x c) r.one_target, r.one_writes) at (any_not (λ c. ltb b c && race (hb x) x b c) (size x) c r.within' row))

  pub compared : (b c : ℕ) → Rivals x b c → (b ≡ c → ⊥) → (hb x b c ≡ true) ⊎ (hb x c b ≡ true)
  compared b c r f = go (ltb b c) refl
    where
      go : (u : Bool) → ltb b c ≡ u → (hb x b c ≡ true) ⊎ (hb x c b ≡ true)
      go true e = no_race b c r (ltb-true b c e)
      go false e =
          ⊎_elim (λ t. inr t) (λ t. inl t) (no_race c b (turned r) (omega (arith, ltb-false b c e)))

  module _ (a : ℕ) (h : a < size x) (one : kind x a ≡ 1) where
    pub reads : read x a ≡ true
    unfolding kind_row
    reads = ap (λ (k : ℕ). (kind_row k).read) one

    is_plain : (row x a).volatile ≡ false
    unfolding kind_row
    is_plain = ap (λ (k : ℕ). (kind_row k).volatile) one

    module _ (b : ℕ) (k : b < size x) (r : rival x a b ≡ true) where
      rival_writes : (write x b ≡ true) × (target x b ≡ target x a)
      unfolding rival
      rival_writes =
          let t = both (write x b) (eqb (target x b) (target x a)) r in (t.0, eqb-true (target x b) (target x a) t.1)

      rival_plain : plain x b ≡ true
      rival_plain =
          rw (plain_write (kind x b) rival_writes.0 (sym (passed.volatiles a b h k reads r) ∙ is_plain))

      -- a write is no read
      pub rival_other : b ≡ a → ⊥
      rival_other e =
          false≢true (sym (write_unread (kind x b) rival_writes.0) ∙ ap (λ (c : ℕ). read x c) e ∙ reads)

      pub to_read : Rivals x b a
      to_read =
          record {
            within = k;
            within' = h;
            plain_first = rival_plain;
            plain_second = rw one;
            one_target = rival_writes.1;
            one_writes = rw rival_writes.0;
          }

    pub between : (b c : ℕ) → b < size x → c < size x → rival x a b ≡ true → rival x a c ≡ true → Rivals x b c
    between b c k m r s =
        record {
          within = k;
          within' = m;
          plain_first = rival_plain b k r;
          plain_second = rival_plain c m s;
          one_target = (rival_writes b k r).1 ∙ sym (rival_writes c m s).1;
          one_writes = rw (rival_writes b k r).0;
        }

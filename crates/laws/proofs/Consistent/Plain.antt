-- Reads of kind 1: without a race every order has the writes to the variable where happens-before has them, so 18 says that the read sees the order's
-- latest write.
use Prim.Native.Nat.{ℕ, ◌<◌, ◌≤◌}
use native.Mathlib.Omega.{arith}
use mathlib.Core.Path.{◌≡◌, refl, sym, ap, ◌∙◌}
use mathlib.Core.List.{List}
use mathlib.Core.Logic.{⊎_elim}
use mathlib.Core.Bool.{Bool, true, false, not, ◌&&◌, ◌||◌, false≢true}
use mathlib.Mathlib.Data.Bool.Basic.{eq-false_of_not-eq-true}
use lib.Dec.{eqb}
use borrow.Author.Tests.{eqb-true, eqb-false, eq-eqb, ne_eqb}
use Rattle.model.specs.Search.{any}
use Rattle.model.specs.Layout.{size, kind, seen}
use Rattle.model.specs.Relations.{hb}
use Rattle.model.specs.Rules.{rival, seen_at, seen_hb, broken18}
use Rattle.model.proofs.Search.{any_not, any_never}
use Rattle.model.proofs.Serial.{Order}
use Rattle.model.proofs.Serial.Progress.{entry}
use Rattle.model.proofs.Bools.{both, neither}
use Rattle.laws.proofs.Consistent.Latest.{latest_in, Last, Initial, latest_last, latest_initial, last_latest, initial_latest}
use Rattle.laws.proofs.Consistent.Orders.{apart, hb_kept}
use Rattle.laws.proofs.Consistent.Section.{Passed, seen_initial, seen_rival}
use Rattle.laws.proofs.Consistent.Compared.{Rivals, compared, reads, rival_other, to_read, between}

module _ (x : List ℕ) (passed : Passed x) (a : ℕ) (h : a < size x) (one : kind x a ≡ 1) where
  -- what 18 asks: a doesn't happen before the write that it sees, and no write to its variable lies between the two in hb
  abbrev hidden : ℕ → Bool
  hidden b = rival x a b && seen_hb (hb x) x a b && hb x b a

  record Visible : Type 0 where
    pub unforeseen : (seen x a ≡ 0 → ⊥) → hb x a (seen_at x a) ≡ false
    pub unhidden : (b : ℕ) → b < size x → hidden b ≡ false

  visible : broken18 (hb x) x a ≡ false → Visible
  unfolding broken18
  visible e =
      let t = neither (not (eqb (seen x a) 0) && hb x a (seen_at x a)) (any (size x) hidden) (rw (eq-eqb (kind x a) 1 one) at e) in
      record {
        unforeseen = λ f. rw (ne_eqb (seen x a) 0 f) at t.0;
        unhidden = λ b k. any_not hidden (size x) b k t.1;
      }

  passing : Visible → broken18 (hb x) x a ≡ false
  unfolding broken18
  passing v = rw (eq-eqb (kind x a) 1 one, any_never hidden (size x) v.unhidden) (go (eqb (seen x a) 0) refl)
    where
      go : (u : Bool) → eqb (seen x a) 0 ≡ u → not u && hb x a (seen_at x a) || false ≡ false
      go true q = refl
      go false q = rw (v.unforeseen (eqb-false (seen x a) 0 q))

  module _ (l : List ℕ) (order : Order x l) where
    kept : (b c : ℕ) → hb x b c ≡ true → entry l b < entry l c
    kept = hb_kept x l order passed.rule14

    -- what stands before is before by hb
    in_hb : (b c : ℕ) → Rivals x b c → entry l b < entry l c → hb x b c ≡ true
    in_hb b c r s =
        ⊎_elim (λ t. t) (λ t. absurd (let z : ⊥ = omega (arith, kept c b t) in z))
        (compared x passed b c r (λ e. omega (arith, ap (entry l) e)))

    module _ (v : Visible) where
      -- no write stands between the seen one and a
      none_between : (b : ℕ) → b < size x → rival x a b ≡ true → seen_hb (hb x) x a b ≡ true → entry l a ≤ entry l b
      none_between b k r q =
          let z : entry l b < entry l a → ⊥ = λ s. false≢true (sym (v.unhidden b k) ∙ (rw (r, q) (in_hb b a (to_read x passed a h one b k r) s))) in
          omega arith

      sees_initial : seen x a ≡ 0 → Initial x l a
      unfolding seen_hb
      sees_initial e b k r = none_between b k r (rw (eq-eqb (seen x a) 0 e))

      sees_last : (seen x a ≡ 0 → ⊥) → Last x l a (seen_at x a)
      unfolding seen_hb
      sees_last f = record { within = k; writes = r; stands = stands; largest = largest }
        where
          s : ℕ
          s = seen_at x a

          k : s < size x
          k = (seen_rival x passed a h (reads x passed a h one) f).0

          r : rival x a s ≡ true
          r = (seen_rival x passed a h (reads x passed a h one) f).1

          stands : entry l s < entry l a
          stands =
              ⊎_elim (λ t. kept s a t) (λ t. absurd (false≢true (sym (v.unforeseen f) ∙ t)))
              (compared x passed s a (to_read x passed a h one s k r) (rival_other x passed a h one s k r))

          largest : (b : ℕ) → b < size x → rival x a b ≡ true → entry l b < entry l a → entry l b ≤ entry l s
          largest b m q e =
              let z : entry l s < entry l b → ⊥ = λ w. omega (arith, none_between b m q (rw (ne_eqb (seen x a) 0 f) (in_hb s b (between x passed a h one s b k m r q) w))) in
              omega arith

      visible_latest : seen_at x a ≡ latest_in x l a
      visible_latest = go (eqb (seen x a) 0) refl
        where
          go : (u : Bool) → eqb (seen x a) 0 ≡ u → seen_at x a ≡ latest_in x l a
          go true q =
              let e : seen x a ≡ 0 = eqb-true (seen x a) 0 q in
              seen_initial x passed a e ∙ sym (initial_latest x l a (sees_initial e))
          go false q =
              sym (last_latest x l a (apart x l order) (seen_at x a) (sees_last (eqb-false (seen x a) 0 q)))

    module _ (e : seen_at x a ≡ latest_in x l a) where
      last_seen : (seen x a ≡ 0 → ⊥) → Last x l a (seen_at x a)
      last_seen f =
          rw e (latest_last x l a (rw e at (seen_rival x passed a h (reads x passed a h one) f).0))

      not_hidden : (b : ℕ) → b < size x → hidden b ≡ true → ⊥
      unfolding seen_hb
      not_hidden b k t = go (eqb (seen x a) 0) refl u.1
        where
          t' : (rival x a b && seen_hb (hb x) x a b ≡ true) × (hb x b a ≡ true)
          t' = both (rival x a b && seen_hb (hb x) x a b) (hb x b a) t

          u : (rival x a b ≡ true) × (seen_hb (hb x) x a b ≡ true)
          u = both (rival x a b) (seen_hb (hb x) x a b) t'.0

          go : (w : Bool) → eqb (seen x a) 0 ≡ w → w || hb x (seen_at x a) b ≡ true → ⊥
          go true q s =
              omega (arith, kept b a t'.1, latest_initial x l a (sym e ∙ seen_initial x passed a (eqb-true (seen x a) 0 q)) b k u.0)
          go false q s =
              omega (arith, kept b a t'.1, kept (seen_at x a) b s, (last_seen (eqb-false (seen x a) 0 q)).largest b k u.0 (kept b a t'.1))

      latest_visible : Visible
      latest_visible =
          record {
            unforeseen = λ f. eq-false_of_not-eq-true (λ t. omega (arith, kept a (seen_at x a) t, (last_seen f).stands));
            unhidden = λ b k. eq-false_of_not-eq-true (not_hidden b k);
          }

    pub sees_latest : broken18 (hb x) x a ≡ false → seen_at x a ≡ latest_in x l a
    sees_latest e = visible_latest (visible e)

    pub passes : seen_at x a ≡ latest_in x l a → broken18 (hb x) x a ≡ false
    passes e = passing (latest_visible e)

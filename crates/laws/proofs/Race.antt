-- "Two unrefused records with the same T, V, M and map, and the same section 0 but for seen, value and commit fields, get the same race answer and the
-- same part 0." Only section 0's count and its threads, kinds, targets and places decide.
use Prim.Native.Nat.{ℕ, ◌<◌}
use native.Mathlib.Omega.{arith}
use mathlib.Core.Path.{◌≡◌, sym, ap, ap₂, ◌∙◌, fun_ext}
use mathlib.Core.List.{List}
use mathlib.Core.Bool.{Bool, true, not, ◌&&◌, ◌||◌}
use lib.ListN.{length, take, drop}
use lib.Seq.{take_at}
use lib.Dec.{eqb, ltb}
use borrow.Author.Tests.{ltb-true, eq-eqb}
use Rattle.model.specs.Answers.{◌then◌}
use Rattle.model.specs.Kinds.{kind_row}
use Rattle.model.specs.Layout.{section, size, thread, kind, target, place, sync, write}
use Rattle.model.specs.Relations.{po, sw, edge, reach, hb}
use Rattle.model.specs.Relations as Relations
use Rattle.model.specs.Limits.{part_words}
use Rattle.model.specs.WorkArea.{part, laid, filled}
use Rattle.model.specs.Rules.{broken11, broken12, monitored, held, broken13, least, first_of, begun, misstarted, ended, misjoined, broken14, ordered, racing}
use Rattle.model.specs.Questions.{race_refusal, left, race_of, race, race_words}
use Rattle.model.proofs.Search.{any_same, first_same, count_same}
use Rattle.model.proofs.Words.{length_part}
use Rattle.model.proofs.Answers.{rule_same, rule₂_same, then_next}
use Rattle.model.proofs.Bools.{both, asked}

-- Two sections alike but for the fields that the race answer does not ask for
pub record Alike (x y : List ℕ) : Type 0 where
  pub counts : size x ≡ size y
  pub threads : (a : ℕ) → a < size x → thread x a ≡ thread y a
  pub kinds : (a : ℕ) → a < size x → kind x a ≡ kind y a
  pub targets : (a : ℕ) → a < size x → target x a ≡ target y a
  pub places : (a : ℕ) → a < size x → place x a ≡ place y a

module _ (x y : List ℕ) (same : Alike x y) where
  abbrev n : ℕ
  n = size x

  same_sync : (a : ℕ) → a < n → sync x a ≡ sync y a
  same_sync a h = ap (λ (k : ℕ). (kind_row k).sync) (same.kinds a h)

  same_write : (a : ℕ) → a < n → write x a ≡ write y a
  same_write a h = ap (λ (k : ℕ). (kind_row k).write) (same.kinds a h)

  module _ (a : ℕ) (h : a < n) where
    same11 : broken11 x a ≡ broken11 y a
    unfolding broken11
    same11 =
        cc (
          same.counts,
          same_sync a h,
          same.places a h,
          count_same (sync x) (sync y) n same_sync,
          any_same (λ b. sync x b && eqb (place x b) (place x a)) (λ b. sync y b && eqb (place y b) (place y a)) a
              (λ b l. let k : b < n = omega arith in cc (same_sync b k, same.places b k, same.places a h)),
        )

    same12 : broken12 x a ≡ broken12 y a
    unfolding broken12
    same12 =
        cc (
          same_sync a h,
          any_same (λ b. sync x b && eqb (thread x b) (thread x a) && ltb (place x a) (place x b))
              (λ b. sync y b && eqb (thread y b) (thread y a) && ltb (place y a) (place y b)) a
              (λ b l. let k : b < n = omega arith in cc (same_sync b k, same.threads b k, same.threads a h, same.places b k, same.places a h)),
        )

    same_monitored : (by : ℕ → Bool) (k : ℕ) → monitored x a by k ≡ monitored y a by k
    unfolding monitored
    same_monitored by k =
        cc (
          same.counts,
          count_same (λ b. eqb (kind x b) k && eqb (target x b) (target x a) && ltb (place x b) (place x a) && by (thread x b))
              (λ b. eqb (kind y b) k && eqb (target y b) (target y a) && ltb (place y b) (place y a) && by (thread y b)) n
              (λ b l. cc (same.kinds b l, same.targets b l, same.targets a h, same.places b l, same.places a h, same.threads b l)),
        )

    same_held : (by : ℕ → Bool) → held x a by ≡ held y a by
    unfolding held
    same_held by = cc (same_monitored by 5, same_monitored by 6)

    same13 : broken13 x a ≡ broken13 y a
    unfolding broken13
    same13 =
        cc (
          same.kinds a h,
          same_held (λ t. true),
          same_held (λ t. eqb t (thread x a)),
          ap (λ (u : ℕ). held y a (λ t. eqb t u)) (same.threads a h),
        )

  same_least : (a : ℕ) → a < n → least x (broken13 x) a ≡ least y (broken13 y) a
  unfolding least
  same_least a h =
      cc (
        same.counts,
        same13 a h,
        any_same (λ b. broken13 x b && ltb (place x b) (place x a)) (λ b. broken13 y b && ltb (place y b) (place y a)) n
            (λ b l. cc (same13 b l, same.places b l, same.places a h)),
      )

  same_first_of : (t : ℕ) → first_of x t ≡ first_of y t
  unfolding first_of
  same_first_of t =
      cc (
        same.counts,
        first_same (λ b. eqb (thread x b) t) (λ b. eqb (thread y b) t) n (λ b l. cc (same.threads b l)),
      )

  module _ (a : ℕ) (h : a < n) where
    same_misstarted : misstarted x a ≡ misstarted y a
    unfolding begun misstarted
    same_misstarted =
        let f : ℕ = first_of x (target x a) in
        cc (
          same.counts,
          same.targets a h,
          same.threads a h,
          same_first_of (target x a),
          any_same (λ b. eqb (kind x b) 7 && eqb (target x b) (target x a)) (λ b. eqb (kind y b) 7 && eqb (target y b) (target y a)) a
              (λ b l. let k : b < n = omega arith in cc (same.kinds b k, same.targets b k, same.targets a h)),
          asked (ltb f n) (not (eqb (kind x f) 8 && ltb (place x a) (place x f))) (not (eqb (kind y f) 8 && ltb (place y a) (place y f)))
              (λ e. cc (same.kinds f (ltb-true f n e), same.places f (ltb-true f n e), same.places a h)),
        )

    same_misjoined : misjoined x a ≡ misjoined y a
    unfolding ended misjoined
    same_misjoined =
        cc (
          same.counts,
          any_same (λ b. eqb (kind x b) 9 && ended x a b) (λ b. eqb (kind y b) 9 && ended y a b) n
              (λ b l. cc (same.kinds b l, same.threads b l, same.targets a h, same.places b l, same.places a h)),
        )

    same14 : broken14 x a ≡ broken14 y a
    unfolding broken14
    same14 =
        cc (
          same.counts,
          same.kinds a h,
          same_misstarted,
          same_misjoined,
          any_same (λ b. eqb (thread x b) (thread x a)) (λ b. eqb (thread y b) (thread y a)) a
              (λ b l. let k : b < n = omega arith in cc (same.threads b k, same.threads a h)),
          any_same (λ b. ltb a b && eqb (thread x b) (thread x a)) (λ b. ltb a b && eqb (thread y b) (thread y a)) n
              (λ b l. cc (same.threads b l, same.threads a h)),
        )

  pub same_ordered : (s : ℕ) → ordered s x ≡ ordered s y
  unfolding ordered
  same_ordered s =
      cc (
        same.counts,
        rule_same 11 s n (broken11 x) (broken11 y) same11,
        rule_same 12 s n (broken12 x) (broken12 y) same12,
        rule_same 13 s n (least x (broken13 x)) (least y (broken13 y)) same_least,
        rule_same 14 s n (broken14 x) (broken14 y) same14,
      )

  module _ (a b : ℕ) (h : a < n) (k : b < n) where
    same_po : po x a b ≡ po y a b
    unfolding po
    same_po = cc (same.threads a h, same.threads b k)

    same_sw : sw x a b ≡ sw y a b
    unfolding sw
    same_sw =
        cc (same.kinds a h, same.kinds b k, same.targets a h, same.targets b k, same.places a h, same.places b k, same.threads a h, same.threads b k)

    same_race : (r : ℕ → ℕ → Bool) → Relations.race r x a b ≡ Relations.race r y a b
    unfolding Relations.race
    same_race r =
        cc (same.kinds a h, same.kinds b k, same.targets a h, same.targets b k, same_write a h, same_write b k)

  same_edge : (a b : ℕ) → edge x a b ≡ edge y a b
  unfolding edge
  same_edge a b =
      cc (
        same.counts,
        asked (ltb a n && ltb b n) (po x a b || sw x a b) (po y a b || sw y a b)
            (λ e. let t = both (ltb a n) (ltb b n) e in ends (ltb-true a n t.0) (ltb-true b n t.1)),
      )
    where
      ends : a < n → b < n → po x a b || sw x a b ≡ po y a b || sw y a b
      ends h k = cc (same_po a b h k, same_sw a b h k)

  pub same_hb : hb x ≡ hb y
  unfolding hb
  same_hb = ap₂ reach (fun_ext (λ a. fun_ext (λ b. same_edge a b))) same.counts

  pub same_part : part x ≡ part y
  unfolding part
  same_part = rw same_hb

  same_racing : (r : ℕ → ℕ → Bool) → racing r x ≡ racing r y
  unfolding racing
  same_racing r =
      cc (
        same.counts,
        rule₂_same 31 0 n (λ a b. ltb a b && Relations.race r x a b) (λ a b. ltb a b && Relations.race r y a b)
            (λ a b h k. cc (same_race a b h k r)),
      )

  same_race_of : ordered 0 x then racing (hb x) x ≡ ordered 0 y then racing (hb y) y
  same_race_of = ap₂ ◌then◌ (same_ordered 0) (same_racing (hb x) ∙ ap (λ (h : ℕ → ℕ → Bool). racing h y) same_hb)

-- where race refuses nothing, the words at its exit begin with part 0
race_part : (r ws : List ℕ) → (race_refusal r (length ws)).n ≡ 0 → take part_words (race_words r ws) ≡ part (section r 0)
unfolding race_words left filled laid
race_part r ws h =
    rw (eq-eqb (race_refusal r (length ws)).n 0 h)
    (take_at (part (section r 0)) (drop part_words ws) part_words (length_part (section r 0)))

-- Two unrefused records get the same race answer, whatever the number of words lent to each, and the same part 0
module _ (r q : List ℕ) (same : Alike (section r 0) (section q 0)) where
  pub same_race_answer : (lent lent' : ℕ) → (race_refusal r lent).n ≡ 0 → (race_refusal q lent').n ≡ 0 → race r lent ≡ race q lent'
  unfolding race race_of
  same_race_answer lent lent' h k =
      then_next (race_refusal r lent) (race_of r) h
      ∙ same_race_of (section r 0) (section q 0) same
      ∙ sym (then_next (race_refusal q lent') (race_of q) k)

  pub same_race_part : (ws vs : List ℕ) → (race_refusal r (length ws)).n ≡ 0 → (race_refusal q (length vs)).n ≡ 0 → take part_words (race_words r ws) ≡ take part_words (race_words q vs)
  same_race_part ws vs h k =
      race_part r ws h ∙ same_part (section r 0) (section q 0) same ∙ sym (race_part q vs k)

-- Records that meet the hypotheses, by computation.
use Prim.Native.Nat.{ℕ, suc, ◌+◌, ◌*◌, ◌<◌}
use native.Mathlib.Omega.{arith}
use mathlib.Core.Path.{◌≡◌, refl}
use mathlib.Core.List.{List}
use mathlib.Core.Bool.{Bool, false, not, ◌&&◌}
use lib.Dec.{eqb}
use borrow.Author.Tests.{eqb-true, not-false}
use Rattle.model.specs.Limits.{part_words}
use Rattle.model.specs.Search.{any, first, count, found}
use Rattle.model.specs.Answers.{up_to, rule, rule₂}
use Rattle.model.specs.Kinds.{kind_row}
use Rattle.model.specs.Layout.{byte, start, section, size, value}
use Rattle.model.specs.Relations.{po, sw, edge, reach, hb, race}
use Rattle.model.specs.Refused.{unmarked, stray, out_of_range, cut_at, rule5, targeted, committed_in, carried, fielded, misfielded, met, sections, rule6, rule7, refusal}
use Rattle.model.specs.Rules.{broken11, broken12, monitored, held, broken13, least, first_of, begun, misstarted, ended, misjoined, broken14, rival, twin, broken15, seen_value, broken16, earlier, latest, write_ident, broken17, seen_hb, broken18, ordered, racing}
use Rattle.model.proofs.Search.{any_not}
use Rattle.model.specs.Bench.{M, record_m}
use Rattle.demands.specs.Variants.{case2, case3, stale}
use Rattle.demands.specs.Demands.{E, Passes, Passes11To16, RaceFree, ignored, Alike, Cases}

-- a byte of action a that race does not ignore is another in y
module _ (x y : List ℕ) (a : ℕ) where
  abbrev same : ℕ → Bool
  same k = eqb (byte x (2 + 20 * a + k)) (byte y (2 + 20 * a + k))

  abbrev differs_at : ℕ → Bool
  differs_at k = not (ignored k) && not (same k)

  abbrev differs : Bool
  differs = any 20 differs_at

are_alike : (x y : List ℕ) → size x ≡ size y → any (size x) (differs x y) ≡ false → Alike x y
are_alike x y e h = (e, kept)
  where
    kept : (a k : ℕ) → a < size x → k < 20 → ignored k ≡ false → byte x (2 + 20 * a + k) ≡ byte y (2 + 20 * a + k)
    kept a k m n i =
        let none : differs_at x y a k ≡ false = any_not (differs_at x y a) 20 k n (any_not (differs x y) (size x) a m h) in
        eqb-true (byte x (2 + 20 * a + k)) (byte y (2 + 20 * a + k)) (not-false (same x y a k) (rw i at none))

-- the hypotheses, one test after another
module _ (r : List ℕ) where
  rules : (ordered 0 (E r)).n ≡ 0 → Passes (E r) 15 (broken15 (E r)) → Passes (E r) 16 (broken16 (E r)) → Passes11To16 r
  rules e f g = record { rules11_14 = e; rule15 = f; rule16 = g }

  race_free : (refusal r part_words part_words).n ≡ 0 → Passes11To16 r → (racing (hb (E r)) (E r)).n ≡ 0 → RaceFree r
  race_free h e n = record { unrefused = (part_words, part_words, h); rules = e; no_race = n }

pub cases : Cases
unfolding M any first count found up_to rule rule₂ kind_row start section value po sw edge reach hb race unmarked stray out_of_range cut_at rule5 targeted committed_in carried fielded misfielded met sections rule6 rule7 refusal broken11 broken12 monitored held broken13 least first_of begun misstarted ended misjoined broken14 rival twin broken15 seen_value broken16 earlier latest write_ident broken17 seen_hb broken18 ordered racing
cases = (
  (race_free record_m refl (rules record_m refl refl refl) refl, refl, refl),
  (race_free case2 refl (rules case2 refl refl refl) refl, refl, λ h. given 17 h),
  (race_free stale refl (rules stale refl refl refl) refl, λ h. given 16 h),
  (refl, rules case3 refl refl refl, λ h. given 16 h, refl),
  are_alike (E record_m) (E case2) refl refl,
)
  where
    given : (n : ℕ) → suc n ≡ 0 → ⊥
    given n h = omega arith

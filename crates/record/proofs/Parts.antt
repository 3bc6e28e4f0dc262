-- A section is the part of the record from its start to its end.
use Prim.Native.Nat.{ℕ, ◌+◌, ◌*◌, ◌-◌, ◌≤◌, min}
use native.Mathlib.Nat.{add-zero, min-eq_left}
use native.Mathlib.Numerals.{add-one}
use native.Mathlib.Decide.{dec_le}
use native.Mathlib.Omega.{arith}
use mathlib.Core.Path.{◌≡◌, sym, ap₂, ◌∙◌}
use mathlib.Core.List.{List}
use lib.ListN.{length, take, drop, length-drop, drop_of_length-le, get_or-eq_default}
use lib.Seq.{take_all, take-nil, get_or-take, get_or-drop}
use Rattle.model.specs.Layout.{two, past, start, section, size}
use Rattle.record.specs.declared.Span.{Span}
use Rattle.record.specs.Sections.{bounded}

-- a count read at the front of what follows p is the count at p
two_drop : (r : List ℕ) (p : ℕ) → two (drop p r) 0 ≡ two r p
two_drop r p = rw (get_or-drop p r 0 0, get_or-drop p r 1 0, add-zero p)

pub two_rest : (r : List ℕ) (p : ℕ) → two (take (length r - p) (drop p r)) 0 ≡ two r p
two_rest r p = rw (take_all (length r - p) (drop p r) (simp length-drop (omega arith))) (two_drop r p)

-- past the end stands 0
pub two_past : (r : List ℕ) (p : ℕ) → length r ≤ p → two r p ≡ 0
two_past r p h =
    rw (get_or-eq_default r 0 h, get_or-eq_default r 0 {n = p + 1} (omega arith))

-- the c bytes that follow p, as far as r has them
pub part : (r : List ℕ) (p c : ℕ) → take (min (p + c) (length r) - min p (length r)) (drop (min p (length r)) r) ≡ take c (drop p r)
part r p c = go (dec_le p (length r)) (dec_le (p + c) (length r))
  where
    go : Dec (p ≤ length r) → Dec (p + c ≤ length r) → take (min (p + c) (length r) - min p (length r)) (drop (min p (length r)) r) ≡ take c (drop p r)
    go (yes h) (yes k) =
        let e : p + c - p ≡ c = omega arith in
        rw (min-eq_left h, min-eq_left k, e)
    go (yes h) (no k) =
        let e : min (p + c) (length r) ≡ length r = omega arith in
        rw (min-eq_left h, e)
        (take_all (length r - p) (drop p r) (simp length-drop (omega arith)) ∙ sym (take_all c (drop p r) (simp length-drop (omega arith))))
    go (no h) k =
        let e : min p (length r) ≡ length r = omega arith in
        rw (e, drop_of_length-le r {i = length r} (omega arith), drop_of_length-le r {i = p} (omega arith))
        (take-nil (min (p + c) (length r) - length r) ∙ sym (take-nil c))

module _ (r : List ℕ) (s : ℕ) where
  pub start_more : start r (s + 1) ≡ past r (start r s)
  unfolding start
  start_more = rw add-one

  pub size_section : size (section r s) ≡ two r (start r s)
  unfolding section
  size_section =
      let p = start r s in
      let n = 2 + 20 * two r p in
      ap₂ (λ (a b : ℕ). a + 256 * b) (get_or-take n (drop p r) 0 0 (omega arith)) (get_or-take n (drop p r) 1 0 (omega arith))
      ∙ two_drop r p

  -- the part of r between the bounds of section s is the section, and it is a part of r
  module _ {b : Span} (e : b ≡ bounded r s) where
    pub bounds_section : take (b.end - b.at) (drop b.at r) ≡ section r s
    unfolding bounded section start
    bounds_section = rw e (part r (start r s) (2 + 20 * two r (start r s)))

    pub bounds_low : b.at ≤ b.end
    unfolding bounded start
    bounds_low = rw e (omega arith)

    pub bounds_high : b.end ≤ length r
    unfolding bounded
    bounds_high = rw e (omega arith)

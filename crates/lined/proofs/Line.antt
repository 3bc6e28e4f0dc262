-- The tests of a section in line: as the code makes them, and what they say of its actions.
use Prim.Native.Nat.{ℕ, ◌+◌, ◌<◌, ◌≤◌}
use native.Mathlib.Decide.{dec_le, ℕ_discrete}
use native.Mathlib.Omega.{arith}
use mathlib.Core.Path.{◌≡◌, refl, sym, ◌∙◌}
use mathlib.Core.List.{List}
use mathlib.Core.Logic.{⊎_elim}
use mathlib.Core.Bool.{Bool, true, false, not, cond, ◌&&◌, ◌||◌, or-true, or-false, and-false}
use Rattle.std.specs.Prelude.{Some, None}
use lib.ListN.{length, get_or, set, replicate, get_or-replicate}
use lib.Seq.{get_or-set_same, get_or-set_other}
use lib.Dec.{eqb, ltb, leb}
use borrow.Author.Tests.{lt-ltb, le-ltb, le-leb, lt-leb, eq-eqb, ne_eqb, eqb-true, ltb-true, ltb-false, leb-true, leb-false, not-true}
use Rattle.model.specs.Limits.{max_actions, part_words}
use Rattle.model.specs.Search.{any}
use Rattle.model.specs.Layout.{size, thread, target, place, row, sync}
use Rattle.model.proofs.Bools.{both, either, neither}
use Rattle.model.proofs.Search.{any_none, any_more, any_at, any_not, any_never}
use Rattle.relations.specs.Objects.{given, taken}
use Rattle.lined.specs.Line.{given_row, taken_row, broad, placed, place_of, reached, unfit, freely, taken_before, late, lined}
use Rattle.lined.proofs.Objects.{given_class, taken_some, given_placed, given_freely, taken_freely, given_number, taken_number}

-- the rows for which places do not decide are marked in ts where an action before a takes them
abbrev pub Marks : List ℕ → ℕ → List Bool → Type 0
Marks x a ts = (o : ℕ) → 128 ≤ o → o < 320 → get_or ts o false ≡ taken_before x a o

module _ (x : List ℕ) (a : ℕ) where
  -- the numbers of a's objects are small where both fields are
  pub broad_small : target x a < 64 → leb 64 (thread x a) ≡ broad x a
  unfolding broad
  broad_small k = go (leb 64 (thread x a)) refl
    where
      go : (t : Bool) → leb 64 (thread x a) ≡ t → leb 64 (thread x a) ≡ leb 64 (thread x a) || (leb 64 (given x a).number || leb 64 (taken x a).number)
      go true e = rw e
      go false e =
          let h : thread x a < 64 = leb-false 64 (thread x a) e in
          rw (e, lt-leb 64 (given x a).number (given_number x a h k), lt-leb 64 (taken x a).number (taken_number x a h k))

  pub unfit_broad : broad x a ≡ true → unfit x a ≡ true
  unfolding unfit
  unfit_broad h = rw h

  -- the places before a are below `due`
  module _ (due : ℕ) (below : (p : ℕ) → reached x a p ≡ ltb p due) where
    -- a synchronizes by its place q
    module _ {q : ℕ} (e : Some q ≡ place_of x a) where
      own : (placed x a ≡ true) × (q ≡ place x a)
      own = go (placed x a) e
        where
          go : (t : Bool) → Some q ≡ cond t (Some (place x a)) None → (t ≡ true) × (q ≡ place x a)
          go true e = (refl, cc)
          go false e = cc

      pub unfit_place : q < due → unfit x a ≡ true
      unfolding unfit
      unfit_place l =
          let (t, at) = own in
          rw (t, below (place x a), lt-ltb (place x a) due (omega arith)) (or-true (broad x a))

      pub fit_place : broad x a ≡ false → due ≤ q → unfit x a ≡ false
      unfolding unfit
      fit_place h l = let (t, at) = own in rw (h, t, below (place x a), le-ltb (place x a) due (omega arith))

      pub reached_placed : due ≤ q → (p : ℕ) → reached x (a + 1) p ≡ ltb p (q + 1)
      unfolding reached
      reached_placed l p =
          let (t, at) = own in
          any_more _ a
          ∙ rw (t, below p)
          (elim (dec_le p q) [
            | yes h ↦ rw (le-leb p (place x a) (omega arith), lt-ltb p (q + 1) (omega arith)) (or-true (ltb p due))
            | no g ↦ rw (le-ltb p due (omega arith), lt-leb p (place x a) (omega arith), le-ltb p (q + 1) (omega arith))
          ])

    -- it does not
    module _ (e : None ≡ place_of x a) where
      other : placed x a ≡ false
      other = go (placed x a) e
        where
          go : (t : Bool) → None ≡ cond t (Some (place x a)) None → t ≡ false
          go true e = cc
          go false e = refl

      pub fit_other : broad x a ≡ false → unfit x a ≡ false
      unfolding unfit
      fit_other h = rw (h, other)

      pub reached_other : (p : ℕ) → reached x (a + 1) p ≡ ltb p due
      unfolding reached
      reached_other p = any_more _ a ∙ rw other (or-false (reached x a p) ∙ below p)

  unplaced : freely x a ≡ true → (row x a).gives.placed ≡ false
  unplaced f =
      (neither (row x a).gives.placed (row x a).takes.placed (not-true (placed x a) (both (not (placed x a)) (sync x a) f).0)).0

  -- the rows that those before a take are marked
  module _ (ts : List Bool) (marks : Marks x a ts) where
    pub late_marked : freely x a ≡ true → 128 ≤ given_row x a → given_row x a < 320 → get_or ts (given_row x a) false ≡ late x a
    unfolding late
    late_marked f h g = rw (unplaced f, marks (given_row x a) h g)

    pub marks_more : length ts ≡ 384 → {i : ℕ} → i ≡ taken_row x a → i < 384 → Marks x (a + 1) (set ts i true)
    unfolding taken_before
    marks_more len {i} e l o h g =
        elim (ℕ_discrete o i) [
          | yes q ↦
              rw (q, get_or-set_same ts i true false (omega arith)) (sym (any_more (λ b. eqb i (taken_row x b)) a ∙ rw (← e, eq-eqb i i refl) (or-true (taken_before x a i))))
          | no n ↦
              rw (get_or-set_other ts i o true false n)
              (marks o h g ∙ sym (any_more (λ b. eqb o (taken_row x b)) a ∙ rw (← e, ne_eqb o i n) (or-false (taken_before x a o))))
        ]

    pub marks_kept : ((o : ℕ) → 128 ≤ o → o < 320 → eqb o (taken_row x a) ≡ false) → Marks x (a + 1) ts
    unfolding taken_before
    marks_kept f o h g =
        marks o h g ∙ sym (any_more (λ b. eqb o (taken_row x b)) a ∙ rw (f o h g) (or-false (taken_before x a o)))

pub reached_none : (x : List ℕ) (p : ℕ) → reached x 0 p ≡ ltb p 0
unfolding reached
reached_none x p = any_none _ ∙ sym (le-ltb p 0 (omega arith))

pub marks_none : (x : List ℕ) → Marks x 0 (replicate 384 false)
unfolding taken_before
marks_none x o h g = rw (get_or-replicate {A = Bool} 384 o false false (omega arith)) (sym (any_none _))

-- what the tests say of the first n actions
module _ (x : List ℕ) (n : ℕ) (fit : any n (unfit x) ≡ false) where
  parts : (a : ℕ) → a < n → (broad x a ≡ false) × ((placed x a && reached x a (place x a)) ≡ false)
  unfolding unfit
  parts a l = neither (broad x a) (placed x a && reached x a (place x a)) (any_not (unfit x) n a l fit)

  -- every action has its rows
  pub small : (a : ℕ) → a < n → (thread x a < 64) × ((given x a).number < 64) × ((taken x a).number < 64)
  unfolding broad
  small a l =
      let (p, q) = neither (leb 64 (thread x a)) (leb 64 (given x a).number || leb 64 (taken x a).number) (parts a l).0 in
      let (r, s) = neither (leb 64 (given x a).number) (leb 64 (taken x a).number) q in
      (leb-false 64 (thread x a) p, leb-false 64 (given x a).number r, leb-false 64 (taken x a).number s)

  -- an action that does not synchronize freely is not late, and takes none of the rows that are asked for
  module _ (a : ℕ) (inside : a < n) where
    pub given_between : freely x a ≡ true → (128 ≤ given_row x a) × (given_row x a < 320)
    given_between f =
        let class = given_class x a in
        let number = (small a inside).1 in
        let later = ltb-false (given x a).class 2 (sym (given_placed x a) ∙ unplaced x a f) in (omega arith, omega arith)

    pub late_not : freely x a ≡ false → late x a ≡ false
    unfolding late taken_before
    late_not f = ⊎_elim (λ p. rw p) nothing (either (row x a).gives.placed (eqb (given x a).class 4) (rw f at (given_freely x a)))
      where
        nothing : eqb (given x a).class 4 ≡ true → not (row x a).gives.placed && taken_before x a (given_row x a) ≡ false
        nothing e =
            rw (any_never _ a (λ b l.
            let class = eqb-true (given x a).class 4 e in
            let number = (small a inside).1 in
            let taker = (small b (omega arith)).2 in
            let other = taken_some x b in
            ne_eqb (given_row x a) (taken_row x b) (λ q. omega arith)))
            (and-false (not (row x a).gives.placed))

    pub taken_outside : freely x a ≡ false → (o : ℕ) → 128 ≤ o → o < 320 → eqb o (taken_row x a) ≡ false
    taken_outside f o h g =
        let number = (small a inside).2 in
        ⊎_elim (λ p. let class = ltb-true (taken x a).class 2 p in ne_eqb o (taken_row x a) (λ q. omega arith))
        (λ p. let class = eqb-true (taken x a).class 5 p in ne_eqb o (taken_row x a) (λ q. omega arith))
        (either (ltb (taken x a).class 2) (eqb (taken x a).class 5) (rw f at (taken_freely x a)))

  -- places rise
  pub place_rises : (a b : ℕ) → a < b → b < n → placed x a ≡ true → placed x b ≡ true → place x a < place x b
  unfolding reached
  place_rises a b h l p q =
      leb-false (place x b) (place x a) (rw p at (any_not (λ c. placed x c && leb (place x b) (place x c)) b a h (rw q at (parts b l).1)))

-- and no action is late
pub never_late :
    (x : List ℕ) (n : ℕ) → any n (late x) ≡ false → (a b : ℕ) → b < a → a < n → (row x a).gives.placed ≡ false → eqb (given_row x a) (taken_row x b) ≡ false
unfolding late taken_before
never_late x n timely a b h l e =
    any_not (λ c. eqb (given_row x a) (taken_row x c)) a b h (rw e at (any_not (late x) n a l timely))

-- what is found of the first n actions
pub refused : (p : ℕ → Bool) (n a : ℕ) → a < n → p a ≡ true → false ≡ not (any n p)
refused p n a l e = rw (any_at p n a l e)

-- what it is to be in line
pub lined_parts :
    (x ws : List ℕ) → lined x ws ≡ true →
    (length ws ≡ part_words) × (size x ≤ max_actions) × (any (size x) (unfit x) ≡ false) × (any (size x) (late x) ≡ false)
unfolding lined
lined_parts x ws h =
    let (front, timely) = both (eqb (length ws) part_words && leb (size x) max_actions && not (any (size x) (unfit x))) (not (any (size x) (late x))) h in
    let (room, fit) = both (eqb (length ws) part_words && leb (size x) max_actions) (not (any (size x) (unfit x))) front in
    let (len, few) = both (eqb (length ws) part_words) (leb (size x) max_actions) room in
    (eqb-true (length ws) part_words len, leb-true (size x) max_actions few, not-true _ fit, not-true _ timely)

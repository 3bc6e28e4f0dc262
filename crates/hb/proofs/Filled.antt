-- A part through the sweep holds what each action leads to, and through the rounds happens-before.
use Prim.Native.Nat.{ℕ, zero, suc, ◌<◌, ◌≤◌}
use native.Mathlib.Nat.{eq-or-lt_of_le}
use native.Mathlib.Omega.{arith}
use mathlib.Core.Path.{◌≡◌, refl, sym, ap, ◌∙◌}
use mathlib.Core.List.{List}
use mathlib.Core.Bool.{Bool, true, false, not, ◌&&◌, ◌||◌, or-true, or-false, and-false, and-eq-true_iff}
use mathlib.Core.Logic.{◌⊎◌, inl, inr, ⊎_elim}
use lib.ListN.{length, get_or, take}
use lib.Seq.{take_all}
use native.Mathlib.Numerals.{add-one}
use lib.Dec.{eqb, ltb, leb}
use borrow.Author.Tests.{lt-ltb, le-leb, lt-leb, eq-eqb, ne_eqb, eqb-true, ltb-true, leb-true}
use Rattle.std.proofs.lemmas.List.Sums.{fold_more}
use Rattle.model.specs.Limits.{max_actions, part_words}
use Rattle.model.specs.Search.{any}
use Rattle.model.specs.Layout.{size, thread}
use Rattle.model.specs.Relations.{po, sw, edge, reach, hb}
use Rattle.model.specs.WorkArea.{part}
use Rattle.model.proofs.Bools.{either}
use Rattle.model.proofs.Search.{any_at, any_elim}
use Rattle.model.proofs.Closure.{Path⁺, one, join, via, Through, via_within, via_reach, edge_within}
use Rattle.rows.specs.Part.{rounded, table}
use Rattle.rows.proofs.Part.{table_same, table_rounded}
use Rattle.positions.specs.Lists.{positions, takers, listed}
use Rattle.positions.proofs.Sets.{are_takers}
use Rattle.positions.proofs.Listing.{positions_at, is_listed}
use Rattle.lined.specs.Line.{unfit, late, lined, lined_part}
use Rattle.hb.specs.Passing.{receives, hands, leads}
use Rattle.hb.specs.Edges.{rounds, happens}
use Rattle.hb.proofs.Hands.{hands_to}
use Rattle.hb.proofs.Entries.{positions_has}

module _ (x : List ℕ) where
  abbrev n : ℕ
  n = size x

  -- from the actions of a section
  abbrev led : ℕ → ℕ → Bool
  led a b = leads x n 0 a b

  po_in : (a b : ℕ) → po x a b ≡ true → (a < b) × (thread x a ≡ thread x b)
  unfolding po
  po_in a b h =
      let (l, t) = (and-eq-true_iff (ltb a b) (eqb (thread x a) (thread x b))).0 h in
      (ltb-true a b l, eqb-true (thread x a) (thread x b) t)

  po_out : (a b : ℕ) → a < b → thread x a ≡ thread x b → po x a b ≡ true
  unfolding po
  po_out a b l t = rw (lt-ltb a b l, eq-eqb (thread x a) (thread x b) t)

  -- a or an action after it in program order synchronizes with b
  hands_in :
      {R : Type 0} (a t b : ℕ) → hands x n a t b ≡ true → ((c : ℕ) → c < n → a ≤ c → t ≡ thread x c → sw x c b ≡ true → R) → R
  unfolding hands
  hands_in a t b h f = any_elim _ n h (λ c l s.
      let (p, rest) = (and-eq-true_iff (leb a c) (eqb t (thread x c) && sw x c b)).0 s in
      let (q, w) = (and-eq-true_iff (eqb t (thread x c)) (sw x c b)).0 rest in
      f c l (leb-true a c p) (eqb-true t (thread x c) q) w)

  hands_out : (a t b c : ℕ) → c < n → a ≤ c → t ≡ thread x c → sw x c b ≡ true → hands x n a t b ≡ true
  unfolding hands
  hands_out a t b c l p q w = any_at _ n c l (rw (le-leb a c p, eq-eqb t (thread x c) q, w))

  -- an edge, and what a position leads to
  edge_out : (a b : ℕ) → a < n → b < n → (po x a b || sw x a b) ≡ true → edge x a b ≡ true
  unfolding edge
  edge_out a b p q h = rw (lt-ltb a n p, lt-ltb b n q, h)

  edge_in : (a b : ℕ) → edge x a b ≡ true → (po x a b || sw x a b) ≡ true
  unfolding edge
  edge_in a b h = ((and-eq-true_iff (ltb a n && ltb b n) (po x a b || sw x a b)).0 h).1

  led_out : (a b : ℕ) → a < n → b < n → (po x a b || hands x n a (thread x a) b) ≡ true → led a b ≡ true
  led_out a b p q h = rw (le-leb 0 a (omega arith), lt-ltb a n p, lt-ltb b n q, h)

  led_in : (a b : ℕ) → led a b ≡ true → (a < n) × (b < n) × ((po x a b || hands x n a (thread x a) b) ≡ true)
  led_in a b h =
      let (from, rest) = (and-eq-true_iff (leb 0 a && ltb a n) (ltb b n && (po x a b || hands x n a (thread x a) b))).0 h in
      let (_, p) = (and-eq-true_iff (leb 0 a) (ltb a n)).0 from in
      let (q, s) = (and-eq-true_iff (ltb b n) (po x a b || hands x n a (thread x a) b)).0 rest in
      (ltb-true a n p, ltb-true b n q, s)

  -- every edge leads, and what leads is a way of edges
  edge_led : (a b : ℕ) → edge x a b ≡ true → led a b ≡ true
  edge_led a b h =
      let (p, q) = edge_within x a b h in
      led_out a b p q
      (⊎_elim (λ s. rw s) (λ w. rw (hands_out a (thread x a) b a p (omega arith) refl w) (or-true (po x a b))) (either (po x a b) (sw x a b) (edge_in a b h)))

  led_edges : (a b : ℕ) → led a b ≡ true → Path⁺ (edge x) a b
  led_edges a b h =
      let (p, q, s) = led_in a b h in
      ⊎_elim
      (λ o. one (edge_out a b p q (rw o)))
      (λ w. hands_in a (thread x a) b w (λ c l m t v. ⊎_elim
      (λ (e : a ≡ c). one (edge_out a b p q (rw (e, v) (or-true (po x c b)))))
      (λ (k : a < c). join (one (edge_out a c p l (rw (po_out a c k t)))) (one (edge_out c b l q (rw v (or-true (po x c b))))))
      (eq-or-lt_of_le m)))
      (either (po x a b) (hands x n a (thread x a) b) s)

  -- a way to a position that receives nothing comes by program order
  through : (c : ℕ) → receives x c ≡ false → Through led c
  through c r a b f g =
      let (p, _, s) = led_in a c f in
      let (_, q, t) = led_in c b g in
      let (k, u) = po_in a c (sym (or-false (po x a c)) ∙ (rw (hands_to x n a (thread x a) c r) at s)) in
      led_out a b p q
      (⊎_elim
      (λ o. let (l, v) = po_in c b o in rw (po_out a b (omega arith) (u ∙ v)))
      (λ w. hands_in c (thread x c) b w (λ d l m v e. rw (hands_out a (thread x a) b d l (omega arith) (u ∙ v) e) (or-true (po x a b))))
      (either (po x c b) (hands x n c (thread x c) b) t))

  -- the positions that receive
  abbrev list : List ℕ
  list = positions (receives x) n

  abbrev at : ℕ → ℕ
  at i = get_or list i 0

  cover : (c : ℕ) → c < n → (any (length list) (λ i. eqb c (at i)) ≡ true) ⊎ Through led c
  cover c h = by (receives x c) refl
    where
      by : (t : Bool) → receives x c ≡ t → (any (length list) (λ i. eqb c (at i)) ≡ true) ⊎ Through led c
      by true s =
          let (i, l, e) = positions_has (receives x) n c h s in
          inl (any_at (λ i. eqb c (at i)) (length list) i l (eq-eqb c (at i) (sym e)))
      by false s = inr (through c s)

  within : (a b : ℕ) → led a b ≡ true → (a < n) × (b < n)
  within a b h = let (p, q, _) = led_in a b h in (p, q)

  module _ (few : n ≤ max_actions) where
    rounds_rows : (i : ℕ) → i ≤ length list → rounds n (take i list) (table max_actions led) ≡ table max_actions (via led at i)
    unfolding via
    rounds_rows zero h = refl
    rounds_rows (suc i) h =
        one_more i (omega arith) ∙ ap (λ (ws : List ℕ). rounded ws n (at i)) (rounds_rows i (omega arith))
        ∙ table_rounded max_actions (via led at i) n (at i) few few (via_within led at n within i) (positions_at (receives x) (receives x) n i (omega arith)).0
      where
        one_more : (i : ℕ) → i < length list → rounds n (take (suc i) list) (table max_actions led) ≡ rounded (rounds n (take i list) (table max_actions led)) n (at i)
        one_more i l = rw (← (add-one i)) (fold_more (λ ws k. rounded ws n k) (table max_actions led) list i 0 l)

    rounds_part : rounds n list (table max_actions led) ≡ part x
    unfolding part hb
    rounds_part =
        ap (λ (l : List ℕ). rounds n l (table max_actions led)) (sym (take_all (length list) list (omega arith)))
        ∙ rounds_rows (length list) (omega arith)
        ∙ table_same max_actions _ (reach (edge x) n) (via_reach (edge x) led n within edge_led led_edges at (length list) cover)

-- the list of those that receive
pub receivers : (x : List ℕ) {k : ℕ} {list : List ℕ} → k ≡ size x → k ≤ max_actions → list ≡ listed x takers → list ≡ positions (receives x) k
receivers x e h l = rw (l, e) (is_listed x takers (are_takers x) (omega arith))

module _ (x ws : List ℕ) where
  pub happens_part : length ws ≡ part_words → size x ≤ max_actions → happens x ws ≡ part x
  unfolding happens
  happens_part l h = rw (eq-eqb (length ws) part_words l, le-leb (size x) max_actions h)

  -- the three steps
  pub happens_by :
      {k : ℕ} {list us vs : List ℕ} → length ws ≡ part_words → k ≡ size x → k ≤ max_actions → list ≡ positions (receives x) k →
      us ≡ table max_actions (leads x k 0) → vs ≡ rounds k list us → vs ≡ happens x ws
  happens_by {k} l e h all swept closing =
      rw (closing, swept, all, e) (rounds_part x (omega arith) ∙ sym (happens_part l (omega arith)))

  pub happens_other : (length ws ≡ part_words → ⊥) → happens x ws ≡ ws
  unfolding happens
  happens_other l = rw (ne_eqb (length ws) part_words l)

  pub happens_many : max_actions < size x → happens x ws ≡ ws
  unfolding happens
  happens_many h = rw (lt-leb (size x) max_actions h, and-false)

  -- a section in line is filled at once
  lined_fits : lined x ws ≡ true → (eqb (length ws) part_words && leb (size x) max_actions) ≡ true
  unfolding lined
  lined_fits h =
      let (rest, _) = (and-eq-true_iff (eqb (length ws) part_words && leb (size x) max_actions && not (any (size x) (unfit x))) (not (any (size x) (late x)))).0 h in
      ((and-eq-true_iff (eqb (length ws) part_words && leb (size x) max_actions) (not (any (size x) (unfit x)))).0 rest).0

  module _ {t : Bool} {us : List ℕ} (told : t ≡ lined x ws) (e : us ≡ lined_part x ws) where
    pub happens_lined : t ≡ true → us ≡ happens x ws
    unfolding lined_part happens
    happens_lined h = e ∙ rw (sym told ∙ h, lined_fits (sym told ∙ h))

    -- and the words of another stay
    pub other_kept : t ≡ false → us ≡ ws
    unfolding lined_part
    other_kept h = e ∙ rw (sym told ∙ h)

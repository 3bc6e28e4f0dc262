-- A step over what the code keeps is a step of the order.
use Prim.Native.Nat.{ℕ, ◌+◌, ◌<◌, ◌≤◌}
use native.Mathlib.Decide.{dec_lt, ℕ_discrete}
use native.Mathlib.Omega.{arith}
use mathlib.Core.Path.{◌≡◌, refl, sym, ap, ◌∙◌}
use mathlib.Core.List.{List, [], ◌∷◌, ◌++◌}
use mathlib.Core.Bool.{Bool, true, false, not, cond, ◌&&◌, ◌||◌, and_comm, and-eq-true_iff}
use lib.ListN.{length, get_or, set, length-set, get_or-eq_default}
use lib.Seq.{get_or-set_same, get_or-set_other}
use lib.Dec.{eqb, ltb, leb, leb-zero}
use borrow.Author.Tests.{ltb-true, ltb-false, lt-ltb, le-ltb}
use Rattle.std.specs.Prelude.{Option, Some, None}
use Rattle.std.proofs.Common.{unwrap_or}
use Rattle.model.specs.Layout.{size, thread, place, sync}
use Rattle.model.specs.Search.{first, count, below}
use Rattle.model.specs.Serial.{listed, next, due, ready, turn, serial}
use Rattle.model.proofs.Search.{first_same, first_is}
use Rattle.model.proofs.Serial.Steps.{listed_none, due_more, due_upto, serial_more, length_serial, next_thread, next_kept, next_moved, serial_prefix}
use Rattle.serial.specs.Cursors.{action_from, ready_at, lowest, turn_at, moved, Starts, Within}
use Rattle.model.proofs.Options.{below_some, below_none}
use Rattle.serial.proofs.Ranges.{below_is, place_in}

-- what the code keeps after k steps: each thread's next action, and the place due
pub record Kept (x : List ℕ) (k : ℕ) (cs : List (Option ℕ)) (d : ℕ) : Type 0 where
  pub all : length cs ≡ 16
  pub nexts : (t : ℕ) → t < 16 → get_or cs t None ≡ below (size x) (next x (serial x k) t)
  pub place_due : d ≡ due x (serial x k)

-- thread t's actions from position c on
action_is : (x : List ℕ) (t c : ℕ) → action_from x t c ≡ below (size x) (first (size x) (λ a. eqb (thread x a) t && leb c a))
unfolding action_from
action_is x t c = ap (below (size x)) (first_same _ _ (size x) (λ a h. and_comm (leb c a) (eqb (thread x a) t)))

-- before the first step
next_start : (x : List ℕ) (t : ℕ) → action_from x t 0 ≡ below (size x) (next x [] t)
unfolding next
next_start x t =
    action_is x t 0 ∙ ap (below (size x))
    (first_same (λ a. eqb (thread x a) t && leb 0 a) (λ a. eqb (thread x a) t && not (listed [] a)) (size x) (λ a h. rw (leb-zero, listed_none a)))

pub kept_start : (x : List ℕ) (cs : List (Option ℕ)) → Starts x cs → Kept x 0 cs 1
unfolding serial due count
kept_start x cs s =
    record { all = s.all; nexts = λ t h. s.first_action t h ∙ next_start x t; place_due = refl }

module _ (x : List ℕ) (k : ℕ) (cs : List (Option ℕ)) (d : ℕ) (kept : Kept x k cs d) where
  pub kept_due : d ≤ k + 1
  kept_due = omega (arith, due_upto x (serial x k), length_serial x k, kept.place_due)

  pub kept_within : Within x cs
  kept_within = record { below = λ t a e. go t a e (ltb t 16) refl }
    where
      go : (t a : ℕ) → get_or cs t None ≡ Some a → (u : Bool) → ltb t 16 ≡ u → a < size x
      go t a e true q =
          let z = below_is (size x) (next x (serial x k) t) (sym (kept.nexts t (ltb-true t 16 q)) ∙ e) in
          omega (arith, z.0, z.1)
      go t a e false q =
          absurd (let z : ◌≡◌ {A = Option ℕ} None (Some a) = sym (get_or-eq_default cs None {n = t} (omega (arith, kept.all, ltb-false t 16 q))) ∙ e in cc)

  ready_same : (t : ℕ) → t < 16 → ready_at x d (get_or cs t None) ≡ ready x (serial x k) t
  unfolding ready
  ready_same t h = rw (kept.nexts t h, kept.place_due) (go (ltb (next x (serial x k) t) (size x)) refl)
    where
      a : ℕ
      a = next x (serial x k) t

      go : (u : Bool) → ltb a (size x) ≡ u → ready_at x (due x (serial x k)) (below (size x) a) ≡ u && (not (sync x a) || eqb (place x a) (due x (serial x k)))
      go true e = rw (below_some (ltb-true a (size x) e))
      go false e = rw (below_none (ltb-false a (size x) e))

  lowest_ready : lowest x cs d ≡ below 16 (first 16 (ready x (serial x k)))
  lowest_ready =
      place_in (ready_at x d) cs None 16 kept.all
      ∙ ap (below 16) (first_same (λ t. ready_at x d (get_or cs t None)) (ready x (serial x k)) 16 ready_same)

  -- the thread whose turn it is, and its next action
  abbrev own : ℕ
  own = first 16 (ready x (serial x k))

  abbrev here : ℕ
  here = next x (serial x k) own

  abbrev Step : Type 0
  Step = (unwrap_or (turn_at x cs d) (size x) ≡ turn x (serial x k)) × Kept x (k + 1) (moved x cs d) (due x (serial x (k + 1)))

  -- there is one
  module _ (h : own < 16) where
    within : here < size x
    unfolding ready
    within = ltb-true here (size x) ((and-eq-true_iff (ltb here (size x)) _).0 ((first_is (ready x (serial x k)) 16).holds h)).0

    lowest_own : lowest x cs d ≡ Some own
    lowest_own = lowest_ready ∙ below_some h

    next_own : get_or cs own None ≡ Some here
    next_own = kept.nexts own h ∙ below_some within

    turn_own : turn x (serial x k) ≡ here
    unfolding turn
    turn_own = rw (lt-ltb own 16 h)

    turned : serial x (k + 1) ≡ serial x k ++ (here ∷ [])
    turned = serial_more x k ∙ ap (λ (a : ℕ). serial x k ++ (a ∷ [])) turn_own

    moved_own : moved x cs d ≡ set cs own (action_from x own (here + 1))
    moved_own = rw (moved, lowest_own, next_own)

    next_after : action_from x own (here + 1) ≡ below (size x) (next x (serial x (k + 1)) own)
    next_after = action_is x own (here + 1) ∙ rw turned (ap (below (size x)) (sym (next_moved x (serial x k) (serial_prefix x k) own within)))

    next_other : (u : ℕ) → u < 16 → (u ≡ own → ⊥) → get_or cs u None ≡ below (size x) (next x (serial x (k + 1)) u)
    next_other u m f =
        rw (turned, next_kept x (serial x k) here u (λ w e. f (sym e ∙ next_thread x (serial x k) own w))) (kept.nexts u m)

    nexts_after : (u : ℕ) → u < 16 → get_or (moved x cs d) u None ≡ below (size x) (next x (serial x (k + 1)) u)
    nexts_after u m =
        rw moved_own
        (elim (ℕ_discrete u own) [
          | yes q ↦ rw q (get_or-set_same cs own _ None (omega (arith, kept.all)) ∙ next_after)
          | no o ↦ get_or-set_other cs own u _ None o ∙ next_other u m o
        ])

    goes : Step
    goes = (
      rw (turn_at, lowest_own, next_own) (sym turn_own),
      record { all = rw (moved_own, length-set) kept.all; nexts = nexts_after; place_due = refl },
    )

  -- there is none, and no position is listed
  module _ (h : 16 ≤ own) where
    lowest_past : lowest x cs d ≡ None
    lowest_past = lowest_ready ∙ below_none h

    turn_past : turn x (serial x k) ≡ size x
    unfolding turn
    turn_past = rw (le-ltb own 16 h)

    moved_past : moved x cs d ≡ cs
    moved_past = rw (moved, lowest_past)

    stays : Step
    stays = (
      rw (turn_at, lowest_past) (sym turn_past),
      record {
        all = rw moved_past kept.all;
        nexts = λ u m. rw (moved_past, serial_more, turn_past, next_kept x (serial x k) (size x) u (λ w e. omega arith)) (kept.nexts u m);
        place_due = refl;
      },
    )

  step : Step
  step = elim (dec_lt own 16) [ yes h ↦ goes h | no g ↦ stays (omega arith) ]

  -- a is listed
  module _ {o : Option ℕ} {a : ℕ} (told : o ≡ turn_at x cs d) (e : a ≡ unwrap_or o (size x)) where
    pub kept_turn : a ≡ turn x (serial x k)
    kept_turn = rw (e, told) step.0

    pub kept_step : {ds : List (Option ℕ)} {f : ℕ} → ds ≡ moved x cs d → f ≡ d + cond (sync x a) 1 0 → Kept x (k + 1) ds f
    kept_step {ds} {f} q r =
        let p : f ≡ due x (serial x (k + 1)) =
        r
        ∙ rw (kept_turn, kept.place_due, serial_more x k) (sym (due_more x (serial x k) (turn x (serial x k)))) in
        rw (q, p) step.1

-- `serial::serial` meets its contract. The loop's invariant: the first k entries are the order's first k positions, the others are as they were, and
-- the code keeps what belongs to these k steps.
use Prim.Native.Nat.{ℕ, suc, ◌+◌, ◌<◌}
use native.Mathlib.Numerals.{add-one}
use native.Mathlib.Nat.{add-zero}
use native.Mathlib.Omega.{arith}
use mathlib.Core.Path.{◌≡◌, refl, sym, ap, ◌∙◌}
use mathlib.Core.List.{List, ◌++◌, append_assoc}
use mathlib.Core.Bool.{Bool, true, false, cond}
use lib.ListN.{length, get_or, drop, set, length-take}
use lib.Seq.{drop-cons, set_at}
use Rattle.std.proofs.Common.{unwrap_or}
use Rattle.model.specs.Layout.{sync}
use Rattle.model.specs.Serial.{turn, serial}
use Rattle.model.proofs.Serial.Steps.{serial_more, length_serial}
use Rattle.serial.proofs.Cursors.{kept_start, kept_within, kept_due, kept_turn, kept_step}
use Rattle.serial.proofs.serial.Goals as goal
use Rattle.serial.proofs.serial.Goals.{then-sync, else-sync}

pub loop-entry-init : goal.loop-entry-init
unfolding serial
loop-entry-init c = (refl, kept_start c.args.x.now c.starts-next.result c.starts-next.ensures)

pub turn-requires : goal.turn-requires
turn-requires c = let l = c.loop-entry in kept_within c.args.x.now l.entry-index l.next l.due l.invariant.1

pub overflow_add-due : goal.overflow_add-due
overflow_add-due c =
    let l = c.loop-entry in
    let h = kept_due c.args.x.now l.entry-index l.next l.due l.invariant.1 in
    omega (arith, length-take {A = ℕ})

-- the list with one entry more
one_more : (x l₀ l : List ℕ) (k a : ℕ) → l ≡ serial x k ++ drop k l₀ → a ≡ turn x (serial x k) → k < length l₀ → set l k a ≡ serial x (k + 1) ++ drop (k + 1) l₀
one_more x l₀ l k a e q h =
    rw (e, drop-cons l₀ k 0, set_at (serial x k) (get_or l₀ k 0) (drop (suc k) l₀) a k (length_serial x k), serial_more, ← q, append_assoc, add-one)

counted : (b : Bool) (d : ℕ) → b ≡ true → d + 1 ≡ d + cond b 1 0
counted b d e = rw e

passed_over : (b : Bool) (d : ℕ) → b ≡ false → d ≡ d + cond b 1 0
passed_over b d e = rw (e, add-zero)

pub loop-entry-preserved : goal.loop-entry-preserved
loop-entry-preserved c =
    let l = c.loop-entry in
    let x : List ℕ = c.args.x.now in
    let kept = l.invariant.1 in
    let t = c.turn.ensures in
    let a = c.unwrap_or-a.ensures ∙ ap (unwrap_or c.turn.result) c.size-n.ensures in
    let d : c.if-sync.due ≡ l.due + cond (sync x c.unwrap_or-a.result) 1 0 =
    elim c.if-sync.branch [
      | then-sync w ↦ w.due-is ∙ counted _ l.due (sym c.sync.ensures ∙ w.if-sync.true)
      | else-sync w ↦ w.due-is ∙ passed_over _ l.due (sym c.sync.ensures ∙ w.if-sync.false)
    ]
    in (
      one_more x _ l.entry-items l.entry-index _ l.invariant.0 (kept_turn x l.entry-index l.next l.due kept t.0 a) (omega arith),
      kept_step x l.entry-index l.next l.due kept t.0 a t.1 d,
    )

-- 17: one pass over the writes comes to the write of largest place below a's.
use Prim.Native.Nat.{ℕ, zero, suc, ◌+◌, ◌<◌, ◌≤◌}
use native.Mathlib.Numerals.{add-one}
use native.Mathlib.Omega.{arith}
use mathlib.Core.Path.{◌≡◌, refl, sym, ◌∙◌}
use mathlib.Core.Logic.{⊎_elim}
use mathlib.Core.Bool.{Bool, true, false, cond, ◌&&◌}
use mathlib.Core.List.{List}
use lib.Dec.{eqb, ltb, leb}
use borrow.Author.Tests.{le-leb}
use Rattle.std.specs.Prelude.{Option, Some, None}
use Rattle.std.specs.List.{fold}
use Rattle.std.proofs.lemmas.List.Sums.{fold_push}
use Rattle.model.specs.Search.{first, none, below, position}
use Rattle.model.specs.Layout.{size, target, place, write}
use Rattle.model.specs.Rules.{rival, earlier, latest, write_ident}
use Rattle.model.proofs.Bools.{both}
use Rattle.model.proofs.Search.{first_none, first_at}
use Rattle.model.proofs.Best.{Pass, largest_pass, best, Kept, kept_none, kept_take, kept_keep, searched}
use Rattle.positions.specs.Lists.{positions}
use Rattle.positions.proofs.Listing.{positions_none, positions_in, positions_out}
use Rattle.model.proofs.Options.{no_position, some_position, below_some, below_none}
use Rattle.rules.specs.Sources.{ident_at}

-- the identifier of a position that may be past the section
pub ident_below : (x : List ℕ) (b : ℕ) → ident_at x (below (size x) b) ≡ write_ident x b
unfolding below write_ident
ident_below x b = go (ltb b (size x)) refl
  where
    go : (t : Bool) → ltb b (size x) ≡ t → ident_at x (below (size x) b) ≡ write_ident x b
    go true e = rw (e, below, write_ident) refl
    go false e = rw (e, below, write_ident) refl

-- three tests, the last two turned round
turned : (p q r : Bool) → p && (q && r) ≡ p && r && q
turned true true true = refl
turned true true false = refl
turned true false true = refl
turned true false false = refl
turned false q r = refl

-- b is on the variable v, at a place below p and from f on
abbrev pub in_range : List ℕ → ℕ → ℕ → ℕ → ℕ → Bool
in_range x v p f b = eqb (target x b) v && (leb f (place x b) && ltb (place x b) p)

-- the best write so far and the places that are better: what they are after b
abbrev pub better : List ℕ → ℕ → ℕ → Option ℕ × ℕ → ℕ → Option ℕ × ℕ
better x v p s b = cond (in_range x v p s.1 b) (Some b, place x b + 1) s

-- after the writes in l
abbrev pub passed : List ℕ → ℕ → ℕ → List ℕ → Option ℕ × ℕ
passed x v p l = fold (better x v p) (None, 0) l

-- one write more
passed_in : (x : List ℕ) (v p n : ℕ) → write x n ≡ true → passed x v p (positions (write x) (n + 1)) ≡ better x v p (passed x v p (positions (write x) n)) n
passed_in x v p n h = rw (positions_in (write x) n h) (fold_push (better x v p) (None, 0) (positions (write x) n) n)

passed_out : (x : List ℕ) (v p n : ℕ) → write x n ≡ false → passed x v p (positions (write x) (n + 1)) ≡ passed x v p (positions (write x) n)
passed_out x v p n h = rw (positions_out (write x) n h)

module _ (x : List ℕ) (a : ℕ) {v p : ℕ} (e : v ≡ target x a) (q : p ≡ place x a) where
  -- the pass over the positions themselves
  abbrev pass : Pass
  pass = largest_pass (earlier x a) (place x) 0

  abbrev after : ℕ → Option ℕ × ℕ
  after n = passed x v p (positions (write x) n)

  -- what it keeps after the first n
  record At (n : ℕ) (s : Option ℕ × ℕ) : Type 0 where
    m : ℕ
    kept : Kept pass none n m s.1
    shown : s.0 ≡ position m

  -- a write is better where it is a candidate at a place from f on
  tested : (f b : ℕ) → write x b ≡ true → in_range x v p f b ≡ earlier x a b && leb f (place x b)
  unfolding earlier rival
  tested f b h = rw (h, e, q) (turned (eqb (target x b) (target x a)) (leb f (place x b)) (ltb (place x b) (place x a)))

  at_next : (n : ℕ) (s : Option ℕ × ℕ) → n < none → At n s → write x n ≡ true → At (n + 1) (better x v p s n)
  at_next n s u k h = go (in_range x v p s.1 n) refl
    where
      go : (t : Bool) → in_range x v p s.1 n ≡ t → At (n + 1) (cond t (Some n, place x n + 1) s)
      go true z =
          let (is, better) = both (earlier x a n) (leb s.1 (place x n)) (sym (tested s.1 n h) ∙ z) in
          record { m = n; kept = kept_take pass none n k.m s.1 k.kept is better; shown = some_position (λ e. omega arith) }
      go false z =
          record { m = k.m; kept = kept_keep pass none n k.m s.1 k.kept (λ y. le-leb 0 (place x n) (omega arith)) (sym (tested s.1 n h) ∙ z); shown = k.shown }

  at_same : (n : ℕ) (s : Option ℕ × ℕ) → At n s → write x n ≡ false → At (n + 1) s
  unfolding earlier rival
  at_same n s k h =
      record { m = k.m; kept = kept_keep pass none n k.m s.1 k.kept (λ y. le-leb 0 (place x n) (omega arith)) (rw h); shown = k.shown }

  at_end : (n : ℕ) → n ≤ none → At n (after n)
  at_end zero u = rw (positions_none (write x)) (record { m = none; kept = kept_none pass none; shown = no_position refl })
  at_end (suc n) u = rw (← add-one) (go (at_end n (omega arith)) (write x n) refl)
    where
      go : At n (after n) → (t : Bool) → write x n ≡ t → At (n + 1) (after (n + 1))
      go s true h = rw (passed_in x v p n h) (at_next n (after n) (omega arith) s h)
      go s false h = rw (passed_out x v p n h) (at_same n (after n) s h)

  pub latest_is : size x ≤ none → (after (size x)).0 ≡ below (size x) (latest x a)
  unfolding latest
  latest_is few = go (at_end (size x) few)
    where
      go : At (size x) (after (size x)) → (after (size x)).0 ≡ below (size x) (first (size x) (best pass (size x)))
      go s =
          s.shown
          ∙ ⊎_elim
          (λ w. rw (w.0, first_none (best pass (size x)) (size x) w.1) (sym (no_position refl) ∙ sym (below_none (omega arith))))
          (λ w. rw (first_at (best pass (size x)) (size x) s.m w.0 w.1 w.2) (sym (some_position (λ e. omega (arith, w.0))) ∙ sym (below_some w.0)))
          (searched pass none (size x) s.m (after (size x)).1 s.kept)

-- The race answer and part 0 go by what two records have in common.
use Prim.Native.Nat.{ℕ, ◌+◌, ◌*◌}
use native.Mathlib.Omega.{arith}
use mathlib.Core.Path.{◌≡◌, refl, sym, ap, ◌∙◌}
use mathlib.Core.List.{List}
use lib.ListN.{length, take}
use Rattle.model.specs.Limits.{part_words}
use Rattle.laws.proofs.Race as laws
use Rattle.demands.specs.Demands.{E, Alike, RaceIgnores, RacePromise}

-- the fields that race asks for
fields : (x y : List ℕ) → Alike x y → laws.Alike x y
fields x y (counts, same) =
    record {
      counts = counts;
      threads = λ a h. same a 2 h (omega arith) refl;
      kinds = λ a h. same a 3 h (omega arith) refl;
      targets = λ a h. same a 4 h (omega arith) refl;
      places = λ a h. let e : 2 + 20 * a + 6 + 1 ≡ 2 + 20 * a + 7 = omega arith in rw (e, same a 6 h (omega arith) refl, same a 7 h (omega arith) refl);
    }

pub race_ignores : RaceIgnores
race_ignores r q ws vs h k same =
    let f = fields (E r) (E q) same in
    (laws.same_race_answer r q f (length ws) (length vs) h k, laws.same_race_part r q f ws vs h k)

pub race_promise : RacePromise
race_promise κs λs c d p o s t post other h k same =
    let e = race_ignores c.0.now d.0.now c.1.0.now d.1.0.now h k same in
    (post.0 ∙ e.0 ∙ sym other.0, ap (take part_words) post.1 ∙ e.1 ∙ sym (ap (take part_words) other.1))

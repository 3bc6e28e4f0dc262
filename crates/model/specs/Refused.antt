-- Numbers 1 to 8: when a record is refused.
use Rattle.std.specs.Prelude.{ℕ, ◌+◌, min, List, Bool, true, false, not, cond, ◌&&◌, ◌||◌, length, eqb, ltb, leb, pos}
use Rattle.std.specs.Bool.{beq}
use Rattle.model.specs.declared.Answer.{Answer}
use Rattle.model.specs.declared.KindRow.{KindRow}
use Rattle.model.specs.declared.Target.{Target}
use Rattle.model.specs.declared.Target.TheVariants as target
use Rattle.model.specs.declared.Header.{Header}
use Rattle.model.specs.declared.Action.{Action}
use Rattle.model.specs.Limits.{max_actions}
use Rattle.model.specs.Search.{any, none}
use Rattle.model.specs.Answers.{answer, when, up_to, rule, ◌then◌}
use Rattle.model.specs.Kinds.{kind_row}
use Rattle.model.specs.Layout.{byte, two, mark, version, K, header, volatile, past, start, section, size, action, ident, unused, same_ℤ}

-- "fewer than 17 bytes, or wrong mark"
unfoldable pub unmarked : List ℕ → Bool
unmarked r = ltb (length r) 17 || any 3 (λ i. not (eqb (byte r i) (byte mark i)))

-- bit v of the map is set, and v is no variable
unfoldable pub stray : Header → ℕ → Bool
stray h v = leb h.variables v && volatile h v

-- "T, V, M, K or a map bit outside its range"
unfoldable pub out_of_range : Header → Bool
out_of_range h =
    ltb h.threads 1 || ltb 16 h.threads || ltb 64 h.variables || ltb 32 h.monitors || ltb 8 h.justifying
    || any 64 (stray h)

-- the section that starts at byte p is cut short, or its count is over the limit
unfoldable pub cut_at : List ℕ → ℕ → Bool
cut_at r p = ltb (length r) (p + 2) || ltb max_actions (two r p) || ltb (length r) (past r p)

unfoldable pub rule5 : List ℕ → Answer
rule5 r =
    up_to (K r + 1) (λ s. when (cut_at r (start r s)) (answer 5 s none none))
    then when (ltb (start r (K r + 1)) (length r)) (answer 5 (K r) none none)

-- a target t of class c, under the header h; a variable is volatile exactly where v
abbrev pub in_class : Header → Bool → ℕ → Target → Bool
in_class h v t target.NoKind = false
in_class h v t target.Variable = ltb t h.variables && beq (volatile h t) v
in_class h v t target.Monitor = ltb t h.monitors
in_class h v t target.Thread = ltb t h.threads
in_class h v t target.Zero = eqb t 0
in_class h v t target.Any = true

-- a target t against its row k of the table of kinds
unfoldable pub targeted : Header → KindRow → ℕ → Bool
targeted h k t = in_class h k.volatile t k.target

-- "section 0: 1 to K, or 0 when K is 0; other sections: 0"
unfoldable pub committed_in : ℕ → ℕ → ℕ → Bool
committed_in K s c = cond (eqb s 0) (leb (min K 1) c && leb c K) (eqb c 0)

-- the write seen stands in a read alone, a value in a read or a write
unfoldable pub carried : KindRow → Action → Bool
carried k a = (k.read || eqb a.seen 0) && (k.read || k.write || same_ℤ a.value (pos 0))

-- the fields of an action a of section s are as the two tables say, under the header h
unfoldable pub fielded : Header → ℕ → Action → Bool
fielded h s a =
    let k = kind_row a.kind in
    not (eqb a.ident 0)
    && ltb a.thread h.threads
    && targeted h k a.target
    && committed_in h.justifying s a.commit
    && beq k.sync (not (eqb a.place 0))
    && carried k a

-- action a of section s, whose bytes are x, is not, or its two zero bytes are not zero
unfoldable pub misfielded : Header → ℕ → List ℕ → ℕ → Bool
misfielded h s x a = not (eqb (unused x a) 0 && fielded h s (action x a))

-- "an identifier already met in the section"
unfoldable pub met : List ℕ → ℕ → Bool
met x a = any a (λ b. eqb (ident x b) (ident x a))

-- number N, looking at all sections: the first action of a section's bytes of which p holds
unfoldable pub sections : ℕ → List ℕ → (ℕ → List ℕ → ℕ → Bool) → Answer
sections N r p = up_to (K r + 1) (λ s. let x = section r s in rule N s (size x) (p s x))

unfoldable pub rule6 : List ℕ → Answer
rule6 r = sections 6 r (misfielded (header r))

unfoldable pub rule7 : List ℕ → Answer
rule7 r = sections 7 r (λ s. met)

-- 1 to 7, where the question wants `need` words and `lent` are there
unfoldable pub refusal : List ℕ → ℕ → ℕ → Answer
refusal r need lent =
    when (unmarked r) (answer 1 0 none none)
    then when (not (eqb (version r) 1)) (answer 2 0 none none)
    then when (out_of_range (header r)) (answer 3 0 none none)
    then when (ltb lent need) (answer 4 0 none none)
    then rule5 r
    then rule6 r
    then rule7 r

-- `same_ends` meets its contract: both strings have first and last eight bytes, and these tell all (`same_by_ends`).
use Rattle.std.proofs.Common.{◌≡◌, ◌-◌, ◌≤◌, ◌<◌, List, ℕ, eqb, Bor, Option, Some, None, MatchOption, sym, ◌∙◌, arith, length, take, drop}
use Rattle.std.specs.Option.{option_eq}
use Rattle.std.specs.Array.{IsFirstChunk, IsWholeChunk}
use Rattle.std.specs.Cmp.Lexicographic.{pointwise}
use Rattle.text_fields.specs.FieldLaws.{same_by_ends}
use Rattle.text_fields.proofs.same_ends.Goals as goal

-- whether two parts are the same, by what they are parts of
module _ (P : List ℕ → List ℕ → Type 0) (part : List ℕ → List ℕ) (is : (s l : List ℕ) → P s l → l ≡ part s) where
  parts_alike : (x y : Option (Bor (List ℕ))) (a b : List ℕ) → 8 ≤ length a → 8 ≤ length b
      → MatchOption x (length a < 8) (λ l. P a l.now) → MatchOption y (length b < 8) (λ l. P b l.now)
      → option_eq (λ l m. pointwise eqb l.now m.now) x y ≡ pointwise eqb (part a) (part b)
  parts_alike None y a b h k p q = absurd (omega arith)
  parts_alike (Some l) None a b h k p q = absurd (omega arith)
  parts_alike (Some l) (Some m) a b h k p q = rw (is a l.now p, is b m.now q)

abbrev last : List ℕ → List ℕ
last s = drop (length s - 8) s

pub returns-then-eq : goal.returns-then-eq
returns-then-eq c =
    let a = c.args.a.now in
    let b = c.args.b.now in
    let fronts = parts_alike (λ s l. IsFirstChunk s l 8) (take 8) (λ s l h. h.same) _ _ a b (omega arith) (omega arith)
    c.first_chunk.ensures.cases c.first_chunk-2.ensures.cases in
    let backs = parts_alike (λ s l. (8 ≤ length s) × IsWholeChunk (last s) l 8) last (λ s l h. h.1.same) _ _ a b (omega arith) (omega arith)
    c.last_chunk.ensures.cases c.last_chunk-then-eq.ensures.cases in
    c.eq-then-eq.ensures ∙ backs ∙ rw (sym (sym c.if-eq.true ∙ c.eq.ensures ∙ fronts)) at (same_by_ends a b (omega arith) (omega arith) (omega arith))

pub returns-else-eq : goal.returns-else-eq
returns-else-eq c =
    let a = c.args.a.now in
    let b = c.args.b.now in
    let fronts = parts_alike (λ s l. IsFirstChunk s l 8) (take 8) (λ s l h. h.same) _ _ a b (omega arith) (omega arith)
    c.first_chunk.ensures.cases c.first_chunk-2.ensures.cases in
    c.if-eq.false ∙ rw (sym (sym c.if-eq.false ∙ c.eq.ensures ∙ fronts)) at (same_by_ends a b (omega arith) (omega arith) (omega arith))

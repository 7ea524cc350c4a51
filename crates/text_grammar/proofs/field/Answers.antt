-- `field` meets its contract: the field lies between its places (`field_of_split`).
use Rattle.std.proofs.Common.{◌≡◌, ◌≢◌, ◌+◌, ◌-◌, ◌≤◌, ◌<◌, List, ℕ, length, take, drop, get_or, sym, length-take-le, arith}
use Rattle.text_fields.specs.Fields.{fields, field}
use Rattle.text_grammar.specs.Grammar.{FIELDS, split}
use Rattle.text_grammar.specs.SplitLaws.{field_of_split, first_part, later-part}
use Rattle.text_grammar.specs.declared.Fields.{Fields}
use Rattle.text_grammar.proofs.field.Goals as goal

module _ (line : List ℕ) (found : Fields) (e : found ≡ split line) (k : ℕ) (h : k < FIELDS) (m : k < found.count) where
  first : k ≡ 0 → let end = get_or found.end k 0 in (end ≤ length line) × (take end line ≡ field (fields line) k)
  first z = first_part _ _ _ _ _ (field_of_split line found e k h m) z

  later : k ≢ 0 → let start = get_or found.end (k - 1) 0 + 1 in let end = get_or found.end k 0 in
      (start ≤ end) × (end ≤ length line) × (take (end - start) (drop start line) ≡ field (fields line) k)
  later d = later-part _ _ _ _ _ (field_of_split line found e k h m) d

pub slice_bounds-result-end : goal.slice_bounds-result-end
slice_bounds-result-end c = sym (length-take-le _ _ (first c.args.line.now c.args.found c.requires.0 c.args.k c.requires.1 c.requires.2 c.if-k-eq0.true).0)

pub returns-then-k-eq0 : goal.returns-then-k-eq0
returns-then-k-eq0 c = (first c.args.line.now c.args.found c.requires.0 c.args.k c.requires.1 c.requires.2 c.if-k-eq0.true).1

pub overflow_add-start : goal.overflow_add-start
overflow_add-start c = omega (arith, later c.args.line.now c.args.found c.requires.0 c.args.k c.requires.1 c.requires.2 c.if-k-eq0.false)

pub slice_bounds-result-count : goal.slice_bounds-result-count
slice_bounds-result-count c = omega (arith, later c.args.line.now c.args.found c.requires.0 c.args.k c.requires.1 c.requires.2 c.if-k-eq0.false)

pub slice_bounds-result-start : goal.slice_bounds-result-start
slice_bounds-result-start c = omega (arith, later c.args.line.now c.args.found c.requires.0 c.args.k c.requires.1 c.requires.2 c.if-k-eq0.false)

pub slice_bounds-result-end-2 : goal.slice_bounds-result-end-2
slice_bounds-result-end-2 c = omega (arith, later c.args.line.now c.args.found c.requires.0 c.args.k c.requires.1 c.requires.2 c.if-k-eq0.false)

pub returns : goal.returns
returns c = (later c.args.line.now c.args.found c.requires.0 c.args.k c.requires.1 c.requires.2 c.if-k-eq0.false).2

-- `same_name` meets its contract: names spelt alike are the same, and names of two lengths are not.
use Rattle.std.proofs.Common.{◌≡◌, sym, ◌∙◌}
use Rattle.text_fields.specs.Fields.{capitals}
use Rattle.text_fields.specs.FieldLaws.{same_are_equal, equal_are_same, not_same}
use Rattle.text_fields.specs.Capitals.{same_length}
use Rattle.text_fields.proofs.same_name.Goals as goal
use borrow.Author.Tests.{ne_eqb}
use Rattle.text_fields.specs.FieldLaws.{same_are_equal}

pub returns-then-same : goal.returns-then-same
returns-then-same c =
    let a = c.args.a.now in
    let b = c.args.b.now in
    let alike : a ≡ b = same_are_equal a b (sym c.if-same.ensures) in
    c.if-same.true ∙ sym (rw alike (equal_are_same (capitals b)))

pub returns-else-a-b : goal.returns-else-a-b
returns-else-a-b c =
    let a = c.args.a.now in
    let b = c.args.b.now in
    ne_eqb _ _ c.if-a-b.false ∙ sym (not_same (capitals a) (capitals b) (λ e. c.if-a-b.false (same_length a b e)))

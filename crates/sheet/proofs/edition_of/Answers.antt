-- `edition_of` meets its contract: by what the heading is found to be; one heading has one digit.
use Rattle.std.proofs.Common.{sym, ◌∙◌}
use Rattle.std.proofs.lemmas.Bool.{false≢true}
use Rattle.sheet.proofs.Editions.{headed_as_edition_2, not_headed_as_edition_2}
use Rattle.sheet.proofs.edition_of.Goals as goal

pub returns-then-is_heading : goal.returns-then-is_heading
returns-then-is_heading c =
    let found = rw (c.line.ensures.bytes, c.second-second.ensures) at c.is_heading.ensures in
    c.second-second.ensures ∙ sym (headed_as_edition_2 _ (sym found ∙ c.if-is_heading.true))

-- Which edition is returned is left to `cc`, which finds it among the facts.
pub returns : goal.returns
returns c =
    let found = rw (c.line.ensures.bytes, c.second-second.ensures) at c.is_heading.ensures in
    let first = not_headed_as_edition_2 c.args.sheet.now (λ e. false≢true (sym c.if-is_heading.false ∙ found ∙ e)) in
    cc

-- `same_capitals` meets its contract: a byte of the one that differs from that of the other.
use Rattle.std.proofs.Common.{◌≢◌, get_or, length, sym, ap, ◌∙◌, rules}
use Rattle.std.proofs.lemmas.Slice.Zip.{zip_turn}
use Rattle.text_fields.specs.Fields.{capital}
use Rattle.text_fields.specs.Capitals.{apart_somewhere}
use Rattle.text_fields.proofs.same_capitals.Goals as goal

pub returns-then-capital : goal.returns-then-capital
returns-then-capital c =
    let a = c.args.a.now in
    let b = c.args.b.now in
    let k = length c.loop-x.yielded in
    let turn = zip_turn a b c.loop-x.yielded _ _ c.next.new.self _ (search rules) (search rules) c.loop-x.yielded_by (c.in-Some.x, c.in-Some.y) c.in-Some.is c.next.ensures.steps in
    let apart : capital (get_or a k 0) ≢ capital (get_or b k 0) = λ e. c.if-capital.true
    (c.capital.ensures ∙ ap capital (turn.2 0) ∙ e ∙ sym (c.capital-in-loop-x.ensures ∙ ap capital (turn.3 0))) in
    sym (apart_somewhere a b k apart)

-- `pair_up`: the pairs that were worked out are stored, in order, and nothing is where something else is said.
use Rattle.std.proofs.Common.{sym, ◌∙◌, arith}
use Rattle.std.proofs.lemmas.Result.{err_from_is_err_and}
use Rattle.pairing.proofs.Working.{work_is_stored, refusal_stores_nothing}
use Rattle.pairing.proofs.pair_up.Goals as goal

pub returns-in_err-made : goal.returns-in_err-made
returns-in_err-made c =
    let a = c.args in
    let h = c.in_err-made.ensures in
    let p = err_from_is_err_and c.from_residual.result c.from_residual.ensures.1 in
    (rw (p.1, p.2) (sym h), refusal_stores_nothing a.n a.one.now a.two.now a.marks.now a.capacity.now a.pairs.now _ h)

pub returns : goal.returns
returns c =
    let a = c.args in
    let made = c.in_ok-made.made in
    let h = c.in_ok-made.ensures in
    (sym h.said, c.store.ensures ∙ work_is_stored a.n a.one.now a.two.now a.marks.now a.capacity.now a.pairs.now made h (omega arith))

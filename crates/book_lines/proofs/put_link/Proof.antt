-- `put_link` meets its contract: the lower number with its `-`, and the higher with its stop.
use native.Mathlib.Omega.{arith}
use borrow.Author.Rules.{rules}
use Rattle.text_writers.specs.Writing.{then}
use Rattle.book_lines.specs.Laws.{number_short, number_room, link_ended}
use Rattle.book_lines.proofs.put_link.Statement.{statement}
use Rattle.book_lines.proofs.put_link.Tie as tie

put-number-requires-2 : tie.Need-put_number-requires
put-number-requires-2 c κs =
    let s = c.before.before.before.before.before.before in
    number_room _ _ _ (omega arith) (omega (arith, c.before.before.before.put_number-next.ensures.next, number_short s.args.lower 45 (omega arith)))

returns : tie.Need-returns
returns c =
    let s = c.before.before.before.before.before.before.before.before.before in
    let first = c.before.before.before.before.before.before.put_number-next.ensures in
    let second = c.before.before.put_number.ensures in
    record {
      wrote = rw (link_ended s.args.lower s.args.higher s.args.stop) at (then first second);
      short = omega (
        arith,
        first.next,
        second.next,
        number_short s.args.lower 45 (omega arith),
        number_short s.args.higher s.args.stop (omega arith),
      );
    }

pub put_link_spec : {M : Type 1} → statement M
put_link_spec = tie.close (tie.spec (λ c κs. number_room _ _ _ (omega arith) (omega arith)) put-number-requires-2 (λ c. search rules) returns)

-- `put_page` meets its contract: the lines of the choice, where it has one link less than sites.
use mathlib.Core.Path.{◌≡◌, sym, ap, ◌∙◌}
use mathlib.Core.Logic.{◌≢◌}
use Prim.Native.Nat.{◌-◌, ◌≤◌, ◌^◌}
use native.Mathlib.Omega.{arith}
use borrow.Author.Rules.{rules}
use lib.ListN.{length}
use lib.Seq.{length-take-le}
use Rattle.text_writers.specs.Writing.{nothing, same_size}
use Rattle.book_lines.specs.Written.{lines_up_to}
use Rattle.theory_book.specs.Book.{possible}
use Rattle.theory_book.specs.Numbered.{chosen}
use Rattle.book_lines.specs.Laws.{another_number_of_links_is_no_page, the_lines_are_the_page, held-choice, a-choice-joins}
use Rattle.book_lines.proofs.put_page.Statement.{statement}
use Rattle.book_lines.proofs.put_page.Tie as tie

firsts : (c : tie.After-choose-choice) → c.choose-choice.result.count ≤ length c.choose-choice.result.one
firsts c = let e = c.choose-choice.ensures in omega (arith, e.1, e.2.firsts)

seconds : (c : tie.After-choose-choice) → c.choose-choice.result.count ≤ length c.choose-choice.result.two
seconds c = let e = c.choose-choice.ensures in omega (arith, e.1, e.2.seconds)

-- the choice has as many links as are counted
counted : (c : tie.After-choose-choice) → length (chosen (possible c.before.before.args.n) c.before.before.args.m) ≡ c.choose-choice.result.count
counted c =
    let a = c.before.before.args in
    let r = c.choose-choice.result in
    held-choice a.n a.m r.one r.two r.count (firsts c) (seconds c) c.choose-choice.ensures.0

returns : tie.Need-returns-then-count-n
returns c =
    let a = c.before.before.before.before.before.args in
    let other : length (chosen (possible a.n) a.m) ≢ a.n - 1 = λ e. absurd (omega (arith, e, counted c.before.before.before)) in
    record { wrote = rw (another_number_of_links_is_no_page a.n a.m other) (nothing a.buf.now 0); short = omega arith }

put-entries-requires : tie.Need-put_entries-requires
put-entries-requires c κs =
    let made = c.before.before.before.before.before.before in
    let s = made.before.before in
    let r = made.choose-choice.result in
    a-choice-joins s.args.n s.args.m r.one r.two r.count (firsts made) (seconds made) made.choose-choice.ensures.0
    (omega (arith, s.requires)) (omega (arith, s.requires)) (omega arith)

returns-2 : tie.Need-returns
returns-2 c =
    let made = c.before.before.before.before.before.before.before.before.before in
    let a = made.before.before.args in
    let put = c.before.before.put_entries.ensures in
    let few : length (chosen (possible a.n) a.m) ≡ a.n - 1 = omega (arith, counted made) in
    let page = ap (lines_up_to (3 ^ (a.n - 1)) a.n) made.choose-choice.ensures.0 ∙ the_lines_are_the_page a.n a.m few in
    record { wrote = rw page at put.wrote; short = put.short }

pub put_page_spec : {M : Type 1} → statement M
put_page_spec =
    tie.close
    (tie.spec
    (λ c κs. search rules)
    (λ c. omega arith)
    returns
    (λ c. firsts c.before.before.before.before)
    (λ c. let made = c.before.before.before.before.before in
    sym (length-take-le made.choose-choice.result.count made.choose-choice.result.one (firsts made)))
    (λ c. seconds c.before.before.before.before.before)
    (λ c. let made = c.before.before.before.before.before.before in
    sym (length-take-le made.choose-choice.result.count made.choose-choice.result.two (seconds made)))
    put-entries-requires
    (λ c. same_size c.before.before.put_entries.ensures.wrote)
    returns-2)

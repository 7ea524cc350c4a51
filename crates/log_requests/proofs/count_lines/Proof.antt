-- `count_lines` meets its contract. The invariant: the lines counted and those left are all the lines.
use mathlib.Core.Bool.{true}
use mathlib.Core.Path.{◌≡◌, sym, ap, ◌∙◌}
use Prim.Native.Nat.{◌≤◌, ◌<◌, ◌+◌, ◌-◌}
use native.Mathlib.Omega.{arith}
use borrow.Author.Rules.{rules}
use lib.ListN.{length}
use Rattle.text_lines.specs.Lines.{has_line}
use Rattle.text_lines.specs.LineLaws.{a_line_is_on_the_sheet, no_line_is_on_the_sheet, after-line-is-later}
use Rattle.log_requests.specs.Requests.{lines_from, lines}
use Rattle.log_requests.specs.RequestLaws.{after-within, lines_end, lines_step, all_lines}
use Rattle.log_requests.proofs.count_lines.Statement.{statement}
use Rattle.log_requests.proofs.count_lines.Tie as tie

abbrev invariant-loop : tie.invariant-loop-at
invariant-loop text at₀ count₀ at count = (at ≤ length text) × (count ≤ at) × (length (lines text) ≡ count + length (lines_from text (length text - at) at))

abbrev decreases-loop : tie.decreases-loop-at
decreases-loop text at₀ count₀ at count = length text - at

loop-holds : tie.Need-loop-at-init invariant-loop decreases-loop
loop-holds c = (omega arith, omega arith, omega (arith, ap length (all_lines c.before.args.text.now)))

-- there is a line, and the next one is later
here : (c : tie.In-loop-at invariant-loop decreases-loop) → let top = c.before.before in has_line top.before.before.args.text.now top.loop-at.at ≡ true
here c = sym c.before.has_line.ensures ∙ c.loop-at-test.true

later : (c : tie.After-rest-at invariant-loop decreases-loop) → c.before.before.before.loop-at.at < c.rest-at.result
later c =
    let top = c.before.before.before in
    rw c.rest-at.ensures (after-line-is-later top.before.before.args.text.now top.loop-at.at (here c.before))

add-count : tie.Need-overflow_add-count invariant-loop decreases-loop
add-count c =
    let top = c.before.before.before in
    omega (arith, a_line_is_on_the_sheet top.before.before.args.text.now top.loop-at.at (here c.before))

loop-less : tie.Need-loop-at-smaller invariant-loop decreases-loop
loop-less c =
    let top = c.before.before.before in
    omega (arith, later c, a_line_is_on_the_sheet top.before.before.args.text.now top.loop-at.at (here c.before))

loop-again : tie.Need-loop-at-preserved invariant-loop decreases-loop
loop-again c =
    let top = c.before.before.before in
    let text = top.before.before.args.text.now in
    let on = a_line_is_on_the_sheet text top.loop-at.at (here c.before) in
    let step = ap length (lines_step text top.loop-at.at on) in (
      rw c.rest-at.ensures (after-within text top.loop-at.at),
      omega (arith, later c),
      rw c.rest-at.ensures (omega (arith, top.loop-at.invariant.2)),
    )

returns : tie.Need-returns invariant-loop decreases-loop
returns c =
    let top = c.before.before in
    let text = top.before.before.args.text.now in
    let over = no_line_is_on_the_sheet text top.loop-at.at (sym c.before.has_line.ensures ∙ c.loop-at-test.false) in
    omega (arith, top.loop-at.invariant.2, ap length (lines_end text (length text - top.loop-at.at) top.loop-at.at over))

pub count_lines_spec : {M : Type 1} → statement M
count_lines_spec =
    tie.close
    (tie.spec
    invariant-loop
    decreases-loop
    loop-holds
    (λ c κs. search rules)
    (λ c κs. search rules)
    add-count
    loop-less
    loop-again
    returns)

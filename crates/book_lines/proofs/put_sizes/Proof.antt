-- `put_sizes` meets its contract. The loop's invariant: the sizes before j are written, a comma behind each.
use mathlib.Core.List.{List}
use mathlib.Core.Path.{◌≡◌, ◌∙◌}
use Prim.Native.Nat.{ℕ, ◌-◌, ◌+◌, ◌*◌, ◌≤◌}
use native.Mathlib.Omega.{arith}
use lib.ListN.{length}
use Rattle.lists.specs.Numbers.{look}
use Rattle.text_writers.specs.Fields.{decimal}
use Rattle.text_writers.specs.Wrote.{Wrote}
use Rattle.text_writers.specs.Writing.{nothing, then, same_size}
use Rattle.book_lines.specs.Laws.{parted, parted-none, parted_round, commas-done, sizes_by_place}
use Rattle.book_lines.proofs.put_sizes.Statement.{statement}
use Rattle.book_lines.proofs.put_sizes.Tie as tie

-- the text of the size at a place
abbrev textAt : List ℕ → ℕ → List ℕ
textAt sizes i = decimal (look sizes i)

abbrev invariant-loop : tie.invariant-loop-j
invariant-loop buf₀ at sizes last next₀ j₀ buf next j = (j ≤ last) × Wrote buf₀ at (parted (textAt sizes) j) buf next × (next ≤ at + 21 * j)

abbrev decreases-loop : tie.decreases-loop-j
decreases-loop buf₀ at sizes last next₀ j₀ buf next j = last - j

loop-holds : tie.Need-loop-j-init invariant-loop decreases-loop
loop-holds c =
    let a = c.before.before.args in
    (omega arith, rw (parted-none (textAt a.sizes.now)) (nothing a.buf.now a.at), omega arith)

loop-again : tie.Need-loop-j-preserved invariant-loop decreases-loop
loop-again c =
    let top = c.before.before.before.before.before.before in
    let a = c.before.before.before.before.before.before.before.before.before.args in
    let put = c.before.before.put_size-next.ensures in (
      omega arith,
      rw (parted_round (textAt a.sizes.now) top.loop-j.j) at (then top.loop-j.invariant.1 put.wrote),
      omega (arith, put.short, top.loop-j.invariant.2),
    )

same_length : tie.Need-shape_of-buf invariant-loop decreases-loop
same_length c = same_size c.before.before.put_size.ensures.wrote ∙ same_size c.before.before.before.before.before.before.loop-j.invariant.1

returns : tie.Need-returns invariant-loop decreases-loop
returns c =
    let top = c.before.before.before.before.before.before in
    let s = c.before.before.before.before.before.before.before.before.before in
    let sizes = s.args.sizes.now in
    let put = c.before.before.put_size.ensures in
    let last = length sizes - 1 in
    let here : top.loop-j.j ≡ last = omega arith in
    let front : Wrote s.args.buf.now s.args.at (parted (textAt sizes) last) top.loop-j.buf top.loop-j.next = rw here at top.loop-j.invariant.1 in
    record {
      wrote = rw (commas-done (textAt sizes) last 9, sizes_by_place sizes last (omega arith)) at (then front put.wrote);
      short = omega (arith, put.short, top.loop-j.invariant.2);
    }

pub put_sizes_spec : {M : Type 1} → statement M
put_sizes_spec =
    tie.close
    (tie.spec
    invariant-loop
    decreases-loop
    (λ c. omega arith)
    loop-holds
    (λ c. omega arith)
    (λ c. omega arith)
    (λ c κs. omega arith)
    (λ c. omega arith)
    (λ c. omega arith)
    loop-again
    (λ c. omega arith)
    (λ c. omega arith)
    (λ c κs. omega arith)
    same_length
    returns)

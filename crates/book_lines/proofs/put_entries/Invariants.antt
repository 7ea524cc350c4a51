-- The lines of the first s lists of sizes are written.
use Rattle.std.proofs.Common.{◌*◌, ◌≤◌}
use Rattle.text_writers.specs.Wrote.{Wrote}
use Rattle.tree.specs.Offer.{links}
use Rattle.book_lines.specs.Written.{lines_up_to}
use Rattle.book_lines.proofs.put_entries.Given as goal

abbrev pub invariant-loop-s : goal.invariant-loop-s
invariant-loop-s l = Wrote l.fn.buf 0 (lines_up_to l.s l.n (links l.one l.two)) l.buf l.next × (l.next ≤ 273 * l.s)

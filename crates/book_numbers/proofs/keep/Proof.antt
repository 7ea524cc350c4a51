-- `keep` meets its contract.
use mathlib.Core.Path.{sym, ◌∙◌}
use native.Mathlib.Omega.{arith}
use borrow.Author.Rules.{rules}
use Rattle.lists.specs.Sums.{pick_same, pick_other}
use Rattle.book_numbers.proofs.keep.Statement.{statement}
use Rattle.book_numbers.proofs.keep.Tie as tie

div-if1 : tie.Need-nonzero_div-m
div-if1 c = search rules

push-requires : tie.Need-push-requires
push-requires c κs = search rules

returns : tie.Need-returns-then-m-w-eq0
returns c = let p = c.push.ensures in (p.0 ∙ sym (pick_same (omega arith) _ _), omega (arith, p.1), p.2)

returns-2 : tie.Need-returns
returns-2 c = (sym (pick_other (λ e. absurd (omega arith)) _ _), omega arith, c.before.requires.2)

pub keep_spec : {M : Type 1} → statement M
keep_spec = tie.close (tie.spec div-if1 push-requires returns returns-2)

-- The invariant: the split of the line is what is noted so far, with the fields of the bytes from place i on.
use Rattle.std.proofs.Common.{◌≡◌, ◌≤◌}
use Rattle.text_grammar.specs.Grammar.{FIELDS, split}
use Rattle.text_grammar.specs.SplitLaws.{Left}
use Rattle.text_grammar.proofs.split.Given as goal
use Rattle.std.proofs.Common.{length}

abbrev pub invariant-loop-i : goal.invariant-loop-i
invariant-loop-i l = (l.count ≤ l.i) × (length l.end ≡ FIELDS) × (split l.line ≡ Left l.line l.end l.count l.i)

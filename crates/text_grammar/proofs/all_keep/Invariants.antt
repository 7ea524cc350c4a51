-- The invariant: all fields of the part keep the rule just if those from field k on do.
use Rattle.std.proofs.Common.{◌≡◌}
use Rattle.std.proofs.Math.Seq.{slice}
use Rattle.text_fields.specs.Fields.{fields, all}
use Rattle.text_grammar.specs.Grammar.{keeps}
use Rattle.text_grammar.proofs.all_keep.Given as goal

abbrev pub invariant-loop-k : goal.invariant-loop-k
invariant-loop-k l = all (keeps l.rule) (slice l.from l.to (fields l.line)) ≡ all (keeps l.rule) (slice l.k l.to (fields l.line))

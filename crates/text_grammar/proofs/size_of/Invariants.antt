-- The invariant: the value so far is within the limit, and the digits left make the whole value of it.
use Rattle.std.proofs.Common.{◌≡◌, ◌≤◌, drop}
use Rattle.text_fields.specs.Fields.{value, value_from}
use Rattle.text_grammar.proofs.size_of.Given as goal

abbrev pub invariant-loop-b : goal.invariant-loop-b
invariant-loop-b l = (l.value ≤ l.most) × (value l.s ≡ value_from l.value (drop l.b-index l.s))

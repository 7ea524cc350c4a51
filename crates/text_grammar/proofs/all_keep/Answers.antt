-- `all_keep` meets its contract: a turn tells what field k is, and what is left then.
use Rattle.std.proofs.Common.{◌≡◌, true, false, sym, ◌∙◌, arith, take, length-take, drop_of_length-le}
use Rattle.text_fields.specs.Fields.{fields, field, all}
use Rattle.text_grammar.specs.Grammar.{keeps}
use Rattle.text_grammar.specs.SplitLaws.{count_of_split}
use Rattle.text_grammar.specs.FormLaws.{part_step}
use Rattle.text_grammar.proofs.all_keep.Goals as goal

pub returns-then-not-keeps : goal.returns-then-not-keeps
returns-then-not-keeps c =
    let n = count_of_split c.args.line.now c.args.found c.requires.0 in
    let step = part_step (keeps c.args.rule) (fields c.args.line.now) c.loop-k.k c.args.to (omega arith) (omega arith) in
    let broken : keeps c.args.rule (field (fields c.args.line.now) c.loop-k.k) ≡ false = cc in
    sym (c.loop-k.invariant ∙ step ∙ rw broken)

pub loop-k-preserved : goal.loop-k-preserved
loop-k-preserved c =
    let n = count_of_split c.args.line.now c.args.found c.requires.0 in
    let step = part_step (keeps c.args.rule) (fields c.args.line.now) c.loop-k.k c.args.to (omega arith) (omega arith) in
    let kept : keeps c.args.rule (field (fields c.args.line.now) c.loop-k.k) ≡ true = cc in
    c.loop-k.invariant ∙ step ∙ rw kept

pub returns : goal.returns
unfolding all
returns c =
    let part = take c.args.to (fields c.args.line.now) in
    rw (c.loop-k.invariant, drop_of_length-le part {i = c.loop-k.k} (omega (arith, length-take c.args.to (fields c.args.line.now))))

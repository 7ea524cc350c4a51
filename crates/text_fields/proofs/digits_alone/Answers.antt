-- `digits_alone` meets its contract: the closure tests one byte.
use Rattle.std.proofs.Common.{rules, tests, ◌∙◌}
use Rattle.std.proofs.lemmas.Iterator.{YieldsList-from_slice}
use Rattle.std.proofs.lemmas.Iterator.Search.{all_from_yields_List}
use Rattle.text_fields.specs.Fields.{is_digit}
use Rattle.text_fields.specs.FieldLaws.{all_of_list}
use Rattle.text_fields.proofs.digits_alone.Goals as goal

pub returns : goal.returns
returns c =
    let s = c.args.s.now in
    all_from_yields_List is_digit _ _ _ c.all.ensures.ran (YieldsList-from_slice s cc) (λ x b q k. search (rules, tests)) ∙ all_of_list is_digit s

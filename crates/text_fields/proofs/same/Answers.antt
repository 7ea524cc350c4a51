-- `same` meets its contract: the library compares slices byte by byte.
use Rattle.std.proofs.Common.{◌∙◌}
use Rattle.text_fields.specs.FieldLaws.{compared}
use Rattle.text_fields.proofs.same.Goals as goal

pub returns : goal.returns
returns c = c.eq.ensures ∙ compared c.args.a.now c.args.b.now

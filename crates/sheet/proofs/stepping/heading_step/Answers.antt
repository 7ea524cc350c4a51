-- `heading_step`: by what the heading is found to be.
use Rattle.std.proofs.Common.{sym, ◌∙◌}
use Rattle.sheet.specs.Sheet.{heading_step}
use Rattle.sheet.proofs.stepping.heading_step.Goals as goal

pub returns-then-is_heading : goal.returns-then-is_heading
unfolding heading_step
returns-then-is_heading c = rw (sym c.is_heading.ensures ∙ c.if-is_heading.true)

pub returns : goal.returns
unfolding heading_step
returns c = rw (sym c.is_heading.ensures ∙ c.if-is_heading.false)

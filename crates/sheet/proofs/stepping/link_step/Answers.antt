-- `link_step`: look-up by look-up, then the roots.
use borrow.Author.Tests.{eq-eqb, ne_eqb}
use Rattle.sheet.specs.Sheet.{link_step}
use Rattle.sheet.specs.LabelLaws.{roots_tell}
use Rattle.sheet.proofs.stepping.link_step.Goals as goal

pub returns-in_default : goal.returns-in_default
unfolding link_step
returns-in_default c = λ ls h. rw c.in_default.is

pub returns-in_default-second : goal.returns-in_default-second
unfolding link_step
returns-in_default-second c = λ ls h. rw (c.in-Some.is, c.in_default-second.is)

pub returns-then-root : goal.returns-then-root
unfolding link_step
returns-then-root c = λ ls h.
    rw (
      c.in-Some.is,
      c.in-Some-second.is,
      roots_tell h (c.root.ensures h.lower) (c.root-2.ensures h.lower),
      eq-eqb _ _ c.if-root.true,
    )

pub returns : goal.returns
unfolding link_step
returns c = λ ls h.
    rw (
      c.in-Some.is,
      c.in-Some-second.is,
      roots_tell h (c.root.ensures h.lower) (c.root-2.ensures h.lower),
      ne_eqb _ _ c.if-root.false,
    )

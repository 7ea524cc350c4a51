-- `site_step`: the limit first, then what the look-up found.
use Rattle.std.proofs.Common.{◌≡◌, ℕ, true, false, Option, Some, None, Ok, Err, is_some, refl, sym, ◌∙◌}
use borrow.Author.Tests.{le-leb, lt-leb}
use Rattle.sheet.specs.Sheet.{refusal, site_by, site_step}
use Rattle.sheet.specs.declared.stepping.Step.TheVariants.{Site}
use Rattle.sheet.proofs.stepping.site_step.Goals as goal

given : (k a e m : ℕ) (w : Option ℕ) → is_some w ≡ true → site_by k (a, e) m w ≡ Err (refusal 5 k)
given k a e m None h = absurd cc
given k a e m (Some v) h = refl

new : (k a e m : ℕ) (w : Option ℕ) → is_some w ≡ false → site_by k (a, e) m w ≡ Ok (Site a e m)
new k a e m None h = refl
new k a e m (Some v) h = absurd cc

pub returns-then-sites-edition : goal.returns-then-sites-edition
unfolding site_step
returns-then-sites-edition c = rw (le-leb _ _ c.if-sites-edition.true)

pub returns-then-is_some : goal.returns-then-is_some
unfolding site_step
returns-then-is_some c = rw (lt-leb _ _ c.if-sites-edition.false) (sym (given _ _ _ _ c.args.found (sym c.is_some.ensures ∙ c.if-is_some.true)))

pub returns : goal.returns
unfolding site_step
returns c = rw (lt-leb _ _ c.if-sites-edition.false) (sym (new _ _ _ _ c.args.found (sym c.is_some.ensures ∙ c.if-is_some.false)))

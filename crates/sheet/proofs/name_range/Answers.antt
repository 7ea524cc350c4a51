-- `name_range`: a number is outside the limits, or the sheet is refused, or the number's place in the lists has the range of the name.
use Rattle.std.proofs.Common.{◌≡◌, List, ℕ, suc, ◌-◌, ◌≤◌, sym, ap, ◌∙◌, arith}
use Rattle.model.specs.Limits.{SITES}
use Rattle.model.specs.Edition.{editions}
use Rattle.model.specs.declared.Edition.{Edition}
use Rattle.sheet.specs.Sheet.{edition_of, name_range}
use Rattle.sheet.specs.NameLaws.{no_site_zero, no_site_above, refused_has_no_range, range_by_lists}
use Rattle.sheet.proofs.Editions.{a_known_edition_is_within_the_limits}
use Rattle.sheet.proofs.name_range.Goals as goal

within : (s : List ℕ) (k : ℕ) {ed : Edition} → ed ≡ edition_of editions s → k ≤ ed.sites → k ≤ SITES
within s k e h = omega (arith, rw (← e) at (a_known_edition_is_within_the_limits s))

pub read_into-requires : goal.read_into-requires
read_into-requires c = (rw c.edition_of-edition.ensures (a_known_edition_is_within_the_limits _), c.empty-net.ensures)

pub returns-then-site-lt1 : goal.returns-then-site-lt1
returns-then-site-lt1 c = let none : c.args.site ≡ 0 = omega arith in
    sym (ap (name_range editions c.args.sheet.now) none ∙ no_site_zero editions c.args.sheet.now)

pub returns-then-site-edition : goal.returns-then-site-edition
returns-then-site-edition c =
    let most = ap (λ (e : Edition). e.sites) c.edition_of-edition.ensures in
    sym (no_site_above editions c.args.sheet.now c.args.site (omega (arith, most)))

pub returns-in_default : goal.returns-in_default
unfolding name_range
returns-in_default c =
    let read = rw (c.edition_of-edition.ensures, c.in_default.is) at c.read_into.ensures in
    sym (refused_has_no_range _ c.args.site (sym read))

pub offset_bounds-net-i : goal.offset_bounds-net-i
offset_bounds-net-i c = omega (arith, within _ c.args.site c.edition_of-edition.ensures)

pub bounds-net-i : goal.bounds-net-i
bounds-net-i c = omega (arith, within _ c.args.site c.edition_of-edition.ensures)

pub offset_bounds-net-i-2 : goal.offset_bounds-net-i-2
offset_bounds-net-i-2 c = omega (arith, within _ c.args.site c.edition_of-edition.ensures)

pub bounds-net-i-2 : goal.bounds-net-i-2
bounds-net-i-2 c = omega (arith, within _ c.args.site c.edition_of-edition.ensures)

pub returns : goal.returns
unfolding name_range
returns c =
    let read = rw (c.edition_of-edition.ensures, c.in-Ok.is) at c.read_into.ensures in
    let number : c.args.site ≡ suc (c.args.site - 1) = omega arith in
    range_by_lists _ (c.args.site - 1) (sym read) ∙ ap (name_range editions c.args.sheet.now) (sym number)

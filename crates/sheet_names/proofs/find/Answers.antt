-- `find`: from the newest site with the name's hash back to the oldest, until one has the name.
use Rattle.std.proofs.Common.{◌≡◌, List, ℕ, ◌-◌, ◌<◌, Bool, true, false, sym, ap, ◌∙◌, true≢false, arith}
use Rattle.lists.specs.Numbers.{look}
use Rattle.text_fields.specs.Fields.{same, capitals, same_name}
use Rattle.text_fields.specs.FieldLaws.{same_are_equal, equal_are_same}
use Rattle.sheet_names.specs.Names.{part, ranges, name_at}
use Rattle.sheet_names.specs.LookupLaws.{length-ranges, range_at}
use Rattle.sheet_names.specs.TableLaws.{back_from, back_to, goes_back, none-there, site-there, lies_there}
use Rattle.sheet_names.proofs.find.Goals as goal

-- what the test says of the name at a place
at_place : (s starts ends f : List ℕ) (n i : ℕ) (t : Bool) → i < n → t ≡ same_name (part s (look starts i, look ends i)) f
    → same_name (name_at s (ranges starts ends 0 n) i) f ≡ t
at_place s starts ends f n i t l e = rw (range_at starts ends n i l) (sym e)

pub loop-site-init : goal.loop-site-init
loop-site-init c =
    let a = c.args in
    let from = back_from c.requires.1 a.name.now in
    rw (c.from-site.ensures, c.hash.ensures.value)
    (record { within = omega (arith, from.within, length-ranges a.starts.now a.ends.now 0 a.sites); back = from })

pub slice_bounds-of_site-count : goal.slice_bounds-of_site-count
slice_bounds-of_site-count c =
    (lies_there c.args.starts.now c.args.ends.now c.args.sites c.requires.1.distinct (c.loop-site.site - 1) (omega arith)).0

pub slice_bounds-of_site-start : goal.slice_bounds-of_site-start
slice_bounds-of_site-start c =
    omega (arith, lies_there c.args.starts.now c.args.ends.now c.args.sites c.requires.1.distinct (c.loop-site.site - 1) (omega arith))

pub slice_bounds-of_site-end : goal.slice_bounds-of_site-end
slice_bounds-of_site-end c =
    omega (arith, lies_there c.args.starts.now c.args.ends.now c.args.sites c.requires.1.distinct (c.loop-site.site - 1) (omega arith))

-- where the site has the name, it is the one that is looked up
pub returns-then-has_name : goal.returns-then-has_name
returns-then-has_name c =
    let a = c.args in
    let v = c.loop-site.site in
    let has = at_place a.sheet.now a.starts.now a.ends.now a.name.now a.sites (v - 1) true (omega arith) cc in
    sym (site-there c.requires.1 a.name.now v (omega arith) c.loop-site.invariant.back.within (same_are_equal _ _ has))

-- where it has another, the way goes on from the site before it with the same hash
pub loop-site-preserved : goal.loop-site-preserved
loop-site-preserved c =
    let a = c.args in
    let v = c.loop-site.site in
    let back = c.loop-site.invariant.back in
    let other = at_place a.sheet.now a.starts.now a.ends.now a.name.now a.sites (v - 1) false (omega arith) cc in
    rw c.from-site-in-loop-site.ensures
    (record {
      within = omega (arith, goes_back c.requires.1 a.name.now v (omega arith) back.within);
      back = back_to c.requires.1 a.name.now v back (omega arith)
          (λ h. true≢false (sym (equal_are_same (capitals a.name.now)) ∙ ap (λ g. same g (capitals a.name.now)) (sym h) ∙ other));
    })

pub returns : goal.returns
returns c =
    let over : c.loop-site.site ≡ 0 = omega arith in
    sym (none-there c.requires.1 c.args.name.now (rw over at c.loop-site.invariant.back))

-- `partners`: one site more in each turn, and its partner is what the look-up of its name finds.
use Rattle.std.proofs.Common.{◌≡◌, List, ℕ, ◌+◌, ◌-◌, ◌<◌, Option, refl, ap, ◌∙◌, arith}
use Rattle.std.proofs.Math.ListN.{length-set}
use Rattle.std.proofs.Math.Seq.{get_or-set_same, get_or-set_other}
use Rattle.lists.specs.Numbers.{look}
use Rattle.lists.specs.Sums.{same?}
use Rattle.sheet_names.specs.LookupLaws.{range_at}
use Rattle.sheet_names.specs.Names.{part, lookup, ranges}
use Rattle.region_links.specs.Partners.{site_found, partner_in}
use Rattle.region_links.proofs.partners.Goals as goal

-- what the look-up of the name at a place found
found : (s starts stops t : List ℕ) (others : List (ℕ × ℕ)) (n i : ℕ) {w : Option ℕ} → i < n → w ≡ lookup t others (part s (look starts i, look stops i))
    → site_found w ≡ partner_in s (ranges starts stops 0 n) t others (i + 1)
found s starts stops t others n i l e =
    let back : i + 1 - 1 ≡ i = omega arith in
    rw (back, range_at starts stops n i l) (ap site_found e)

pub loop-i-init : goal.loop-i-init
loop-i-init c = record { long = refl; so_far = λ x h. absurd (omega arith) }

pub loop-i-preserved : goal.loop-i-preserved
loop-i-preserved c =
    let a = c.args in
    let i = c.loop-i.i in
    let list = c.loop-i.list in
    let long = c.loop-i.invariant.long in
    let here = c.unwrap_or.ensures
    ∙ found a.first.now a.starts.now a.stops.now a.second.now (ranges a.starts2.now a.stops2.now 0 a.m) a.n i (omega arith)
    (c.find-found.ensures ∙ ap (lookup a.second.now (ranges a.starts2.now a.stops2.now 0 a.m)) c.part-name.ensures.bytes) in
    record {
      long = length-set list (i + 1) c.unwrap_or.result ∙ long;
      so_far = λ x h. same? x (i + 1)
          (λ e. rw e (get_or-set_same list (i + 1) c.unwrap_or.result 0 (omega (arith, long)) ∙ here))
          (λ d. get_or-set_other list (i + 1) x c.unwrap_or.result 0 d ∙ c.loop-i.invariant.so_far x (omega arith));
    }

pub returns : goal.returns
returns c = λ x h. c.loop-i.invariant.so_far x (omega arith)

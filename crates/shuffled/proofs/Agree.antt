-- The figures in halves of two sheets that hold the same sites and links by name agree: total, trimmed sizes, ends, end sets, their sizes and counts; and
-- so does the total in whole circuits.
use Rattle.std.specs.Prelude.{List, ◌≢◌, ◌≡◌, ℕ, zero, suc, ◌-◌, ◌≤◌}
use Rattle.std.proofs.Common.{inl, inr, ap, ◌∙◌, arith}
use Rattle.std.proofs.Math.Path.{sym}
use Rattle.lists.specs.Numbers.{pick, look}
use Rattle.lists.specs.Sums.{same?, pick_same, pick_other}
use Rattle.model.specs.Flows.{Site, one, two, mark, end_at, total}
use Rattle.model.specs.Text.{bytes}
use Rattle.model.specs.Trimming.{Greatest}
use Rattle.model.specs.Whole.{Even}
use Rattle.model.specs.declared.Edition.{Edition}
use Rattle.text_fields.specs.Fields.{SameName, capitals}
use Rattle.theory_trees.proofs.Ends.{ends_are_told}
use Rattle.theory_trees.specs.Owners.{owner-or-none}
use Rattle.theory_regions.specs.SharingLaws.{no_double_link}
use Rattle.theory_shuffled.specs.Matched.{Matched, Largest}
use Rattle.theory_shuffled.proofs.MatchedLaws.{leaf_matched, the_balanced_agree, the_sums_agree}
use Rattle.theory_shuffled.proofs.MatchedCuts.{the_sizes_agree, the_counts_agree, the_owners_agree}
use Rattle.theory_shuffled.proofs.MatchedFlows.{the_largest_agree}
use Rattle.sheet.specs.Sheet.{Network}
use Rattle.sheet.specs.SheetTheorem.{IsNetwork}
use Rattle.sheet_records.specs.SameRecords.{name_on}
use Rattle.report.specs.Report.{owner_name}
use Rattle.planner.specs.Figures.{halves, wholes, pairs_by, trimmed_are_greatest, figures_have_sound_pairs, halves_can_be_shown}
use Rattle.demands.specs.Printed.{site_count, is_end}
use Rattle.demands.specs.ReadBack.{figures_say}
use Rattle.demands.specs.WholeMet.{whole_says}
use Rattle.demands.proofs.WholeMet.{whole_has_a_largest_plan}
use Rattle.shuffled.specs.SameReports.{SameLink}
use Rattle.shuffled.specs.Networks.{Among, site_to}
use Rattle.shuffled.proofs.Networks.{link_to, site-to, link-to, site_of_the_name, same-link-joins, are_matched}
use Rattle.shuffled.specs.Agree.{Agree}

-- owners of the same names, or none
owner_named : (name name' : ℕ → List ℕ) (site : ℕ → ℕ) (a : ℕ) → (a ≢ 0 → site a ≢ 0) → (a ≢ 0 → SameName (name a) (name' (site a)))
    → SameName (owner_name name a) (owner_name name' (pick a 0 0 (site a)))
unfolding owner_name
owner_named name name' site a d e = same? a 0
    (λ z. ap capitals (pick_same z (bytes "-") (name a)) ∙ sym (ap capitals (pick_same (pick_same z 0 (site a)) (bytes "-") (name' (pick a 0 0 (site a))))))
    (λ z. ap capitals (pick_other z (bytes "-") (name a)) ∙ rw (pick_other {A = ℕ} z, pick_other {A = List ℕ} (d z)) (e z))

-- the mark of a site is that at its place
mark-at : (marks : List ℕ) (v : ℕ) → 1 ≤ v → mark marks v ≡ look marks (v - 1)
mark-at marks zero l = absurd (omega arith)
mark-at marks (suc v) l = let same : suc v - 1 ≡ v = omega arith in rw same

module _ {ed ed' : Edition} {s : List ℕ} {net : Network} {t : List ℕ} {other : Network} (N : IsNetwork ed s net) (N' : IsNetwork ed' t other)
    (A : Among s net t other) (B : Among t other s net) where
  abbrev site : ℕ → ℕ
  site = site_to s net t other

  matched : Matched net.links other.links (site_count net) (site_count other) (look net.capacities) (look other.capacities)
      site (site_to t other s net) (link_to N' A) (link_to N B)
  matched = are_matched N N' A B

  -- a site is an end in both or in none
  ends_agree : (v : ℕ) → Site (site_count net) v → is_end net v ≡ is_end other (site v)
  unfolding end_at
  ends_agree v p =
      let h = site-to N' A v p in
      let q = h.0.there in
      let same : end_at net.links net.marks v ≡ end_at other.links other.marks (site v)
      = rw (mark-at net.marks v p.0, mark-at other.marks (site v) q.0, h.1, leaf_matched matched v p) in
      ends_are_told net.links (site_count net) net.marks v p.1
      ∙ same
      ∙ sym (ends_are_told other.links (site_count other) other.marks (site v) q.1)

  given : Greatest net.links (is_end net) (look net.capacities) (look (halves net).shown)
  given = trimmed_are_greatest net N.tree

  given' : Greatest other.links (is_end other) (look other.capacities) (look (halves other).shown)
  given' = trimmed_are_greatest other N'.tree

  link-is : (i j : ℕ) → SameLink s net t other i j → link_to N' A i ≡ j
  link-is i j h =
      let k = (link-to N' A i h.here).0 in
      no_double_link N'.tree (link_to N' A i) j (site (one net.links i)) (site (two net.links i)) k.there h.there
      (same-link-joins N' i (link_to N' A i) k) (same-link-joins N' i j h)

  owners_agree : (v : ℕ) → Site (site_count net) v
      → SameName (owner_name (name_on s net) ((halves net).owner v)) (owner_name (name_on t other) ((halves other).owner (site v)))
  owners_agree v p =
      let a = (halves net).owner v in
      let own : a ≢ 0 → Site (site_count net) a
      = λ d. elim (owner-or-none net.links (look net.capacities) (look (halves net).shown) (is_end net) v (site_count net)) [
        | inl r ↦ absurd (d r.0)
        | inr r ↦ r.0
      ] in
      owner_named (name_on s net) (name_on t other) site a
      (λ d e. omega (arith, (site-to N' A a (own d)).0.there))
      (λ d. (site-to N' A a (own d)).0.name)
      ∙ ap (λ w. capitals (owner_name (name_on t other) w)) (sym (the_owners_agree matched ends_agree given given' N'.tree v p))

  members_agree : (v a : ℕ) → Site (site_count net) v → Site (site_count net) a → (halves net).owner v ≡ a → (halves other).owner (site v) ≡ site a
  members_agree v a p q e = the_owners_agree matched ends_agree given given' N'.tree v p ∙ rw e (pick_other (λ z. omega arith) 0 (site a))

  totals_agree : total (pairs_by net (halves net)) ≡ total (pairs_by other (halves other))
  totals_agree =
      (figures_have_sound_pairs net N.tree (halves net) (halves_can_be_shown net N.tree)).sums
      ∙ the_sums_agree matched ends_agree given given'
      ∙ sym (figures_have_sound_pairs other N'.tree (halves other) (halves_can_be_shown other N'.tree)).sums

  pub the_halves_agree : Agree s net (halves net) t other (halves other)
  the_halves_agree = record {
    totals = totals_agree;
    usable = λ i j h. (link-to N' A i h.here).1 ∙ ap (look other.capacities) (link-is i j h);
    shown = λ i j h. the_balanced_agree matched ends_agree given given' i h.here ∙ ap (look (halves other).shown) (link-is i j h);
    ends = λ v w h. ends_agree v h.here ∙ ap (is_end other) (site_of_the_name N' v w h);
    owners = λ v w h. owners_agree v h.here ∙ ap (λ y. capitals (owner_name (name_on t other) ((halves other).owner y))) (site_of_the_name N' v w h);
    members = λ v w a b h k e.
        ap (halves other).owner (sym (site_of_the_name N' v w h)) ∙ members_agree v a h.here k.here e ∙ site_of_the_name N' a b k;
    sizes = λ v w h. the_sizes_agree matched ends_agree given given' v h.here ∙ ap (halves other).size (site_of_the_name N' v w h);
    counts = λ v w h. the_counts_agree matched ends_agree given given' v h.here ∙ ap (halves other).count (site_of_the_name N' v w h);
  }

  -- ---- in whole circuits

  -- the total that a report in whole circuits shows is the largest
  largest-whole : {ed : Edition} {s : List ℕ} {net : Network} → IsNetwork ed s net
      → Largest net.links (site_count net) (is_end net) (look net.capacities) 2 Even (total (pairs_by net (wholes net)))
  unfolding figures_say
  largest-whole {net = net} N =
      let h = whole_has_a_largest_plan net N.tree in
      record {
        plan = (whole_says net).plan;
        routes = h.printed_plan.plan;
        fits = h.printed_plan.fits;
        kind = h.printed_plan.even;
        reached = h.reached;
        most = λ es routes fits even. h.largest es (record { plan = routes; even = even; fits = fits });
      }

  pub the_whole_totals_agree : total (pairs_by net (wholes net)) ≡ total (pairs_by other (wholes other))
  the_whole_totals_agree = the_largest_agree matched (is_end net) (is_end other) ends_agree 2 Even _ _ (largest-whole N) (largest-whole N')

-- The report of an accepted sheet, read back: its bytes say just the figures that it shows. For either report.
use Rattle.std.specs.Prelude.{◌≡◌, ◌≢◌, ℕ, ◌-◌, ◌<◌, length, get_or}
use Rattle.std.proofs.Math.Path.{refl, sym, ap}
use Rattle.std.proofs.Common.{◌∙◌, inl, inr, arith}
use Rattle.std.proofs.Math.Bool.{false}
use mathlib.Core.List.{List, [], ◌∷◌, map, flat_map}
use Rattle.std.proofs.lemmas.List.{length-map}
use Rattle.std.proofs.Math.ListN.{get_or-map}
use Rattle.lists.specs.Numbers.{is, look, upfrom, Each}
use Rattle.model.specs.Flows.{Links, Site, Route, sites, one, two, total}
use Rattle.model.specs.Text.{bytes}
use Rattle.model.specs.declared.Edition.{Edition}
use Rattle.model.specs.declared.Pair.{Pair}
use Rattle.lists.specs.Sums.{same?, pick_same, pick_other, pick_cases, is_same, is-other}
use Rattle.lists.specs.Tallies.{each_all, each_map}
use Rattle.text_fields.specs.FieldLaws.{equal_are_same, not_same}
use Rattle.sheet_kinds.specs.LineKinds.{same, field, value}
use Rattle.sheet.specs.Sheet.{Network}
use Rattle.sheet_names.specs.Names.{name_at}
use Rattle.sheet.specs.SheetTheorem.{IsNetwork}
use Rattle.report.specs.Report.{decimal, owner_name, Plan, report_of, report}
use Rattle.planner.specs.Figures.{Figures, halves, pairs_by, plan_showing, the_report_shows_halves, Showable, figures_have_sound_pairs, halves_can_be_shown}
use Rattle.demands.specs.Printed.{Record, records, headed, last_field, site_named, is_end, ends_among, dash, EndSet, read_records, read_report}
use Rattle.demands.specs.Parsing.{decimal_read_back}
use Rattle.demands.specs.Records.{head_fields, link_fields, site_fields, cut_fields, cut_lines, odd_fields, pair_fields}
use Rattle.demands.specs.Records.{first-line, link-lines, site-lines, cut-lines, odd_lines, pair-lines}
use Rattle.demands.specs.Names.{name_read_back, dash_read_back, site-name-is-plain}
use Rattle.demands.specs.Sets.{set_by}
use Rattle.theory_trees.proofs.Sites.{look-site}
use Rattle.lists.specs.Maps.{map-map, map_same}
use Rattle.demands.specs.Lists.{map-own, map-places, each-site}
use Rattle.demands.specs.ReadBack.{plan_says}
use Rattle.demands.specs.ReadBack.{figures_say, n, x}

module _ {ed : Edition} {s : List ℕ} {net : Network} (N : IsNetwork ed s net) (f : Figures) (h : Showable net f) where
  abbrev ls : Links
  ls = net.links

  abbrev c : ℕ → ℕ
  c = look net.capacities

  abbrev end : ℕ → ℕ
  end = is_end net

  abbrev site : List ℕ → ℕ
  site = site_named s net

  abbrev name : ℕ → List ℕ
  name v = name_at s net.names (v - 1)

  abbrev p : Plan
  p = plan_showing net s f

  abbrev rows : List ℕ → List Record
  rows k = headed k (records (report_of p))

  -- ---- the `L` lines
  module _ {B : Type 0} (g : Record → B) where
    by_link : (l : List B) (d : B) → length ls ≡ length l
        → ((j : ℕ) → j < length ls → g (bytes "L" ∷ name (one ls j) ∷ name (two ls j) ∷ decimal (c j) ∷ decimal (x N f h j) ∷ []) ≡ get_or l j d)
        → map g (rows (bytes "L")) ≡ l
    by_link l d e same =
        ap (map g) (link-lines p f.pieces h.long h.plain refl (site-name-is-plain N))
        ∙ map-map g (link_fields p) (upfrom 0 (length p.ones))
        ∙ rw (length-map ls (λ r. r.0) ∙ e) (map-places l d (λ j. g (link_fields p j))
        (λ j k. rw (get_or-map (λ r. r.0) ls j (0, 0), get_or-map (λ r. r.1) ls j (0, 0)) (same j (omega arith))))

  links-back : map (λ l. (site (field l 1), site (field l 2))) (rows (bytes "L")) ≡ net.links
  links-back = by_link (λ l. (site (field l 1), site (field l 2))) net.links (0, 0) refl
      (λ j k. rw (name_read_back N (one ls j) (N.tree.ends j k).0, name_read_back N (two ls j) (N.tree.ends j k).1))

  sizes-back : map (λ l. value (field l 3)) (rows (bytes "L")) ≡ net.capacities
  sizes-back = by_link (λ l. value (field l 3)) net.capacities 0 (sym N.capacities) (λ j k. decimal_read_back (c j))

  shown-back : map (λ l. value (last_field l)) (rows (bytes "L")) ≡ f.shown
  shown-back = by_link (λ l. value (last_field l)) f.shown 0 (sym h.each-link) (λ j k. decimal_read_back (x N f h j))

  -- ---- the `N` lines
  module _ {B : Type 0} (g : Record → B) (of : ℕ → B) where
    by_site : ((v : ℕ) → Site (n N f h) v → g (bytes "N" ∷ name v ∷ owner_name name (f.owner v) ∷ []) ≡ of v) → map g (rows (bytes "N")) ≡ map of (sites (n N f h))
    by_site same =
        ap (map g) (site-lines p f.pieces h.long h.plain refl (site-name-is-plain N))
        ∙ map-map g (site_fields p) (sites (n N f h))
        ∙ map_same (λ v. g (site_fields p v)) of (sites (n N f h))
        (each-site (λ v. g (site_fields p v) ≡ of v) (n N f h) (λ v q. rw (look-site f.owner (n N f h) v q) (same v q)))

  sites-back : map (λ l. site (field l 1)) (rows (bytes "N")) ≡ sites (n N f h)
  sites-back = by_site (λ l. site (field l 1)) (λ v. v) (λ v q. name_read_back N v q) ∙ map-own (sites (n N f h))

  -- an owner is a site, or none
  owner-site : (v : ℕ) → Site (n N f h) v → f.owner v ≢ 0 → Site (n N f h) (f.owner v)
  owner-site v q d = elim (h.owned v q) [ inl e ↦ absurd (d e) | inr r ↦ r.0 ]

  owners-back : map (λ l. site (field l 2)) (rows (bytes "N")) ≡ map f.owner (sites (n N f h))
  unfolding owner_name
  owners-back = by_site (λ l. site (field l 2)) f.owner
      (λ v q. let a = f.owner v in
      pick_cases (λ r. site r ≡ a) a 0 (bytes "-") (name a) (λ e. dash_read_back N ∙ sym e) (λ d. name_read_back N a (owner-site v q d)))

  -- an owner is the name of a site, which is not `-`, or it is `-`
  dash-back : (a : ℕ) → (a ≢ 0 → Site (n N f h) a) → dash (owner_name name a) ≡ is a 0
  unfolding owner_name dash
  dash-back a site-or-none = same? a 0
      (λ e. rw (pick_same {A = List ℕ} e, is_same e, equal_are_same (bytes "-")))
      (λ d. let q = site-or-none d in
      let not-dash : same (name a) (bytes "-") ≡ false =
      not_same (name a) (bytes "-") (λ e. d (sym (name_read_back N a q) ∙ ap site e ∙ dash_read_back N)) in
      rw (pick_other {A = List ℕ} d, is-other d, not-dash))

  dashes-back : map (λ l. dash (field l 2)) (rows (bytes "N")) ≡ map (λ v. is (f.owner v) 0) (sites (n N f h))
  dashes-back = by_site (λ l. dash (field l 2)) (λ v. is (f.owner v) 0) (λ v q. dash-back (f.owner v) (owner-site v q))

  -- ---- the `X` lines

  abbrev set_said : Record → EndSet
  set_said l = record { end = site (field l 1); size = value (field l 2); count = value (field l 3) }

  set_back : (u : ℕ) → Site (n N f h) u → set_said (cut_fields p u) ≡ set_by f u
  set_back u q = rw (
    name_read_back N u q,
    look-site f.size (n N f h) u q,
    look-site f.count (n N f h) u q,
    decimal_read_back (f.size u),
    decimal_read_back (f.count u),
  )

  sets_among : (us : List ℕ) → Each (Site (n N f h)) us → map set_said (flat_map (cut_lines p) us) ≡ map (set_by f) (ends_among end us)
  unfolding flat_map ends_among
  sets_among [] q = refl
  sets_among (u ∷ us) q = same? (end u) 1
      (λ e. rw (pick_same {A = List Record} e, pick_same {A = List ℕ} e, set_back u q.0, sets_among us q.1))
      (λ d. rw (pick_other {A = List Record} d, pick_other {A = List ℕ} d, sets_among us q.1))

  sets_back : map set_said (rows (bytes "X")) ≡ map (set_by f) (ends_among end (sites (n N f h)))
  sets_back = ap (map set_said) (cut-lines p f.pieces h.long h.plain refl (site-name-is-plain N))
      ∙ sets_among (sites (n N f h)) (each-site (Site (n N f h)) (n N f h) (λ v q. q))

  -- ---- the `Q` lines

  pieces_back : map (λ l. value (field l 1)) (rows (bytes "Q")) ≡ f.pieces
  pieces_back =
      ap (map (λ l. value (field l 1))) (odd_lines p f.pieces h.long h.plain refl (site-name-is-plain N))
      ∙ map-map (λ l. value (field l 1)) odd_fields f.pieces
      ∙ map_same (λ k. value (decimal k)) (λ k. k) f.pieces (each_all (λ k. value (decimal k) ≡ k) decimal_read_back f.pieces)
      ∙ map-own f.pieces

  -- ---- the `P` lines

  routes : Each (Route ls (n N f h) end) (pairs_by net f)
  routes = (figures_have_sound_pairs net N.tree f h).routes

  abbrev pair_said : Record → Pair
  pair_said l = record { first = site (field l 1); second = site (field l 2); amount = value (field l 3) }

  plan_back : map pair_said (rows (bytes "P")) ≡ pairs_by net f
  plan_back =
      ap (map pair_said) (pair-lines p f.pieces h.long h.plain refl (site-name-is-plain N))
      ∙ map-map pair_said (pair_fields p) (pairs_by net f)
      ∙ map_same (λ e. pair_said (pair_fields p e)) (λ e. e) (pairs_by net f)
      (each_map (Route ls (n N f h) end) (λ e. pair_said (pair_fields p e) ≡ e)
      (λ e r. rw (name_read_back N e.first r.first-site, name_read_back N e.second r.second-site, decimal_read_back e.amount))
      (pairs_by net f) routes)
      ∙ map-own (pairs_by net f)

  -- ---- line 1

  first_back : get_or (records (report_of p)) 0 [] ≡ head_fields p
  first_back = first-line p f.pieces h.long h.plain refl (site-name-is-plain N)

  total-back : value (field (get_or (records (report_of p)) 0 []) 1) ≡ total (pairs_by net f)
  total-back = ap (λ l. value (field l 1)) first_back ∙ decimal_read_back (total (pairs_by net f))

  count-back : value (field (get_or (records (report_of p)) 0 []) 2) ≡ length (pairs_by net f)
  count-back = ap (λ l. value (field l 2)) first_back ∙ decimal_read_back (length (pairs_by net f))

  -- ---- the report

  -- the bytes of the report say what it shows
  pub figures_read_back : read_report s net (report_of p) ≡ figures_say net f
  unfolding read_report read_records figures_say
  figures_read_back = λ i. record {
    heading = ap (λ l. field l 0) first_back i;
    total = total-back i;
    pair_count = count-back i;
    links = links-back i;
    sizes = sizes-back i;
    shown = shown-back i;
    sites = sites-back i;
    owners = owners-back i;
    dashes = dashes-back i;
    sets = sets_back i;
    pieces = pieces_back i;
    plan = plan_back i;
  }

pub report_read_back : {ed : Edition} {s : List ℕ} {net : Network} → IsNetwork ed s net → read_report s net (report s net) ≡ plan_says net
report_read_back {ed} {s} {net} N = ap (read_report s net) (the_report_shows_halves net s)
    ∙ figures_read_back N (halves net) (halves_can_be_shown net N.tree)

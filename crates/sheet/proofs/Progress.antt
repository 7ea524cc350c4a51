-- How far a sheet is read: the lists hold a network that the lines so far gave, and the lines left decide what reading comes to.
-- Each step takes one line from those left to those read.
use mathlib.Core.Bool.{true, false, cond}
use mathlib.Core.List.{List, [], ◌∷◌, ◌++◌, map, map-append, reverse, reverse_aux-append}
use mathlib.Core.Path.{◌≡◌, refl, sym, ap, subst, ◌∙◌}
use Prim.Native.Nat.{ℕ, ◌+◌, ◌-◌, ◌≤◌, ◌<◌}
use native.Mathlib.Nat.{sub-zero}
use native.Mathlib.Numerals.{add-one}
use native.Mathlib.Omega.{arith}
use lib.ListN.{length, replicate, set, length-append, length-map}
use lib.Seq.{get_or-append_seam}
use Rattle.model.specs.Limits.{PLACES, SITES}
use Rattle.lists.specs.Numbers.{upfrom}
use Rattle.model.specs.Flows.{Site}
use Rattle.model.specs.declared.Edition.{Edition}
use Rattle.model.specs.declared.Refusal.{Refusal}
use Rattle.tree_labels.specs.Labels.{whole}
use Rattle.tree_labels.specs.LabelPlaces.{whole-sites}
use Rattle.tree_parents.specs.Parents.{Joins, Settled}
use Rattle.text_lines.specs.Lines.{after_line}
use Rattle.sheet_names.specs.Names.{TABLE, part, ranges, hash, entered, Indexes}
use Rattle.sheet_names.specs.TableLaws.{no_sites, site-entered}
use Rattle.sheet.specs.Sheet.{Stepped, Network, empty, with_site, with_link, refused, accepted, step_of, added, read_line, read_lines, and_then, finish}
use Rattle.sheet.specs.Reading.{padded, lists, site_stored, link_stored, reading}
use Rattle.sheet.specs.Sound.{Sound, Accepts, none_is_sound, distinct_names, a_line_keeps_sound, links_are_few}
use Rattle.sheet.specs.ReadLaws.{lines_end, lines_step}
use Rattle.sheet.specs.Held.{LabelsOf, Held}
use Rattle.sheet.specs.ListLaws.{padded_more, names_are}
use Rattle.sheet.specs.LabelLaws.{own_labels, labels_join, alike-tells}
use Rattle.sheet.specs.declared.Lists.{Lists}
use Rattle.sheet.specs.declared.stepping.Step.TheVariants as step
use Rattle.std.specs.Prelude.{Ok, Err}

-- an element more of a list, in the first free place of the list of one of its parts
placed : (f : ℕ × ℕ → ℕ) (rs : List (ℕ × ℕ)) (r : ℕ × ℕ) → length rs < SITES
    → set (padded SITES (map f rs)) (length rs) (f r) ≡ padded SITES (map f (rs ++ (r ∷ [])))
placed f rs r h =
    ap (λ n. set (padded SITES (map f rs)) n (f r)) (sym (length-map rs f))
    ∙ padded_more SITES (map f rs) (f r) (omega (arith, length-map rs f))
    ∙ ap (padded SITES) (sym (map-append f rs (r ∷ [])))

-- the lists hold the network of the lines before the line at an offset, the table its names, and the lines from there on decide
pub record Progress (ed : Edition) (s : List ℕ) (net : Lists) (table parents : List ℕ) (at number : ℕ) : Type 0 where
  pub fits : ed.sites ≤ SITES
  pub read : Network
  pub lists_are : net ≡ lists read
  pub indexed : Indexes s read.names table
  pub labels_are : LabelsOf read.links parents
  pub sound : Sound ed s read
  pub on_sheet : at ≤ length s
  pub numbered : number ≤ at + 1
  pub rest : read_lines ed s (length s) 1 0 empty ≡ read_lines ed s (length s - at) number at read

pub start : (ed : Edition) → ed.sites ≤ SITES → (s : List ℕ) → Progress ed s (lists empty) (replicate TABLE 0) (upfrom 0 PLACES) 0 1
start ed h s = record {
  fits = h;
  read = empty;
  lists_are = refl;
  indexed = no_sites s;
  labels_are = own_labels;
  sound = none_is_sound ed s;
  on_sheet = omega arith;
  numbered = omega arith;
  rest = rw sub-zero;
}

module _ {ed : Edition} {s table parents : List ℕ} {net : Lists} {at number : ℕ} (P : Progress ed s net table parents at number) where
  -- how many sites and links there are, and that the lists have their places
  sites_are : net.sites ≡ length P.read.names
  unfolding lists
  sites_are = ap (λ n. n.sites) P.lists_are

  links_are : net.links ≡ length P.read.links
  unfolding lists
  links_are = ap (λ n. n.links) P.lists_are

  pub lengths : (length parents ≡ PLACES) × (net.sites ≤ SITES)
  lengths = (P.labels_are.long, omega (arith, sites_are, P.sound.few, P.fits))

  -- the names of the lists, of which the table is
  ranges_are : ranges net.start net.end 0 net.sites ≡ P.read.names
  unfolding lists
  ranges_are = rw P.lists_are (names_are SITES P.read.names)

  pub table_is : Indexes s (ranges net.start net.end 0 net.sites) table
  table_is = rw ranges_are P.indexed

  -- the network that the lists and the parents hold
  pub held : Held net.start net.end net.sites parents P.read
  held = record { names = ranges_are; labels_are = P.labels_are }

  module _ (w : Stepped) (h : at < length s) (e : w ≡ step_of ed s P.read number at) where
    -- the step reads the line
    line-is : read_line ed s P.read number at ≡ added P.read w
    unfolding read_line
    line-is = ap (added P.read) (sym e)

    -- the network after a line is sound
    sound-next : (next : Network) → added P.read w ≡ accepted next → Sound ed s next
    sound-next next q = subst (Accepts (Sound ed s)) (line-is ∙ q) (a_line_keeps_sound ed s P.read number P.sound at P.on_sheet)

    -- and the lines left go on from it
    on : (next : Network) → added P.read w ≡ accepted next → (after : Lists) → after ≡ lists next → (entries : List ℕ)
        → Indexes s next.names entries
        → {joined : List ℕ} → LabelsOf next.links joined → Progress ed s after entries joined (after_line s at) (number + 1)
    unfolding after_line and_then
    on next q after l entries t m =
        let read = line-is ∙ q in
        record {
          fits = P.fits;
          read = next;
          lists_are = l;
          indexed = t;
          labels_are = m;
          sound = sound-next next q;
          on_sheet = omega arith;
          numbered = omega (arith, P.numbered);
          rest = P.rest ∙ lines_step ed s number at P.read h ∙ rw (read, add-one number);
        }

    -- a heading leaves the lists as they are
    pub by_heading : w ≡ Ok step.Nothing → Progress ed s net table parents (after_line s at) (number + 1)
    by_heading q = on P.read (ap (added P.read) q) net P.lists_are table P.indexed P.labels_are

    -- a site takes the next place of the names
    pub site-fits : (a b m : ℕ) → w ≡ Ok (step.Site a b m) → net.sites < SITES
    site-fits a b m q = omega (arith, sites_are, (sound-next _ (ap (added P.read) q)).few, length-append P.read.names ((a, b) ∷ []))

    -- its name lies on the sheet
    pub site_lies : (a b m : ℕ) → w ≡ Ok (step.Site a b m) → (a ≤ b) × (b ≤ length s)
    site_lies a b m q =
        let names = P.read.names in
        let last = (sound-next _ (ap (added P.read) q)).names (length names) (omega (arith, length-append names ((a, b) ∷ []))) in
        let range = rw (get_or-append_seam names (a, b) [] (0, 0)) at last in
        (range.start, range.end)

    pub by_site : (a b m : ℕ) → w ≡ Ok (step.Site a b m) → (entries : List ℕ) → entries ≡ entered table (hash (part s (a, b))) (net.sites + 1)
        → Progress ed s (site_stored net a b m) entries parents (after_line s at) (number + 1)
    unfolding lists
    by_site a b m q entries e =
        let names = P.read.names in
        let ms = P.read.marks in
        let room : length names < SITES = omega (arith, sites_are, site-fits a b m q) in
        let after = sound-next _ (ap (added P.read) q) in
        let marked : set (padded SITES ms) (length names) m ≡ padded SITES (ms ++ (m ∷ []))
        = rw (← P.sound.marks) (padded_more SITES ms m (omega (arith, P.sound.marks))) in
        on (with_site P.read (a, b) m) (ap (added P.read) q) _
        (rw (P.lists_are, placed (λ r. r.0) names (a, b) room, placed (λ r. r.1) names (a, b) room, marked, length-append names ((a, b) ∷ [])))
        entries (rw (e, sites_are) (site-entered P.indexed (a, b) room (distinct_names after.names after.different)))
        P.labels_are

    -- a link takes the next place of the links, and joins its sites
    link-behind : (a b : ℕ) → reverse (P.read.links ++ ((a, b) ∷ [])) ≡ (a, b) ∷ reverse P.read.links
    link-behind a b = reverse_aux-append P.read.links ((a, b) ∷ []) []

    -- a link joins two sites
    link-sites : (a b size : ℕ) → w ≡ Ok (step.Link a b size) → Site (length P.read.names) a × Site (length P.read.names) b
    link-sites a b size q = rw (link-behind a b) at (sound-next _ (ap (added P.read) q)).ends 0 (omega arith)

    pub link_fits : (a b size : ℕ) → w ≡ Ok (step.Link a b size) → (net.links < SITES) × (a < PLACES) × (b < PLACES)
    link_fits a b size q =
        let are-sites = link-sites a b size q in
        let few = P.sound.few in
        omega (arith, links_are, links_are_few P.sound (omega arith))

    pub by_link : (a b size : ℕ) → w ≡ Ok (step.Link a b size) → {after : List ℕ} → Joins parents after a b
        → Progress ed s (link_stored net a b size) table after (after_line s at) (number + 1)
    unfolding lists
    by_link a b size q joins =
        let ls = P.read.links in
        let cs = P.read.capacities in
        let fits = link_fits a b size q in
        let room : length ls < SITES = omega (arith, links_are) in
        let sized : set (padded SITES cs) (length ls) size ≡ padded SITES (cs ++ (size ∷ []))
        = rw (← P.sound.capacities) (padded_more SITES cs size (omega (arith, P.sound.capacities))) in
        on (with_link P.read (a, b) size) (ap (added P.read) q) _
        (rw (P.lists_are, placed (λ l. l.0) ls (a, b) room, placed (λ l. l.1) ls (a, b) room, sized, length-append ls ((a, b) ∷ [])))
        table P.indexed (labels_join P.labels_are joins)

    -- a refused line decides
    pub by_refusal : (r : Refusal) → w ≡ Err r → and_then (read_lines ed s (length s) 1 0 empty) finish ≡ refused r.number r.line
    unfolding and_then
    by_refusal r q = rw (P.rest, lines_step ed s number at P.read h, line-is, q)

  -- ---- after the last line

  module _ (h : length s ≤ at) {labels : List ℕ} (settled : Settled parents labels) where
    finished : and_then (read_lines ed s (length s) 1 0 empty) finish ≡ finish P.read
    unfolding and_then
    finished = rw (P.rest, lines_end ed s (length s - at) number at P.read h)

    all-joined : finish P.read ≡ cond (whole labels net.sites) (accepted P.read) (refused 8 0)
    unfolding finish
    all-joined =
        rw (
          whole-sites labels net.sites (omega (arith, lengths, settled.long)),
          alike-tells P.labels_are settled 1 (length P.read.names) (omega (arith, P.sound.few, P.fits)),
          ← sites_are,
        )

    -- under two sites, or not all joined
    pub by_parts : whole labels net.sites ≡ false → and_then (read_lines ed s (length s) 1 0 empty) finish ≡ refused 8 0
    by_parts e = finished ∙ all-joined ∙ rw e

    -- else the network is that of the lists
    pub by_acceptance : whole labels net.sites ≡ true
        → reading (and_then (read_lines ed s (length s) 1 0 empty) finish) ≡ Ok net
    unfolding reading
    by_acceptance e = rw (finished, all-joined, e, ← P.lists_are)

-- The name of a site stands on its own `N` line (document 01: "comes back as the bytes of its own `N` line"), or on its own `T` line, which marks it (02,
-- Card 7), and a link with its usable size on its own `L` line (02, Card 5). By induction over the lines that are read: a line adds a name just where it is
-- a site, and then the range of its field 1 and its mark, and a link just where it is one.
use Rattle.std.specs.Prelude.{Option, Some, None, Ok, Err, Bool, cond, ◌↔◌, ◌≡◌, leb, ltb, length, get_or, drop, Result}
use Rattle.std.proofs.Math.Bool.{true, false}
use mathlib.Core.List.{List, [], ◌∷◌, ◌++◌}
use Rattle.std.proofs.Math.Path.{refl, subst}
use Rattle.std.proofs.Common.{sym, ap, arith, length-append, eqb-true}
use Prim.Native.Nat.{ℕ, ◌+◌, ◌<◌}
use Rattle.std.proofs.Math.Dec.{eqb}
use Rattle.std.proofs.Math.ListN.{get_or-append}
use Rattle.std.proofs.Math.Seq.{get_or-append_seam}
use Rattle.lists.specs.Numbers.{look}
use Rattle.lists.specs.Sums.{same?, contradiction}
use Rattle.model.specs.Flows.{joined}
use Rattle.model.specs.Text.{bytes}
use Rattle.model.specs.declared.Edition.{Edition}
use Rattle.text_lines.specs.Lines.{line_length, line_at}
use Rattle.sheet_kinds.specs.LineKinds.{field, is_heading, mark, capacity, IsSite, kind}
use Rattle.sheet_kinds.specs.LineKindLaws.{a_mark_tells_its_letter, no_mark_tells_its_letter}
use Rattle.sheet_kinds.specs.KindForms.{LinkWithin, Tells, a_kind_tells_its_form}
use Rattle.sheet_kinds.specs.declared.Line.{Line}
use Rattle.sheet_kinds.specs.declared.Line.TheVariants as line
use Rattle.sheet.specs.Sheet.{Stepped, refusal, Network, with_site, with_link, accepted, part, lookup, site_by, site_step, link_step, heading_step, record_step, step_of}
use Rattle.sheet.specs.Sheet.{added, read_line, read_as}
use Rattle.sheet.specs.Causes.{Named, fields_at, Reached, start, next}
use Rattle.sheet.specs.CauseLaws.{Finds, finds, first_name, a_site_is_looked_up_by_field_1}
use Rattle.sheet.specs.CauseLaws.{a_link_is_looked_up_by_field_1, a_link_is_looked_up_by_field_2}
use Rattle.sheet.specs.RefusalLaws.{an_accepted_sheet_is_read_to_its_end}
use Rattle.sheet.specs.declared.stepping.Step.TheVariants.{Nothing, Site, Link}

-- a line of a sheet, read after n sites, is a site line, r is the range of its field 1, and m is its mark
pub record OwnLine (ed : Edition) (s : List ℕ) (n : ℕ) (r : ℕ × ℕ) (m : ℕ) : Type 0 where
  pub number : ℕ
  pub offset : ℕ
  pub above : Network
  pub reached : Reached ed s number offset above
  pub sites : length above.names ≡ n
  pub is-site : IsSite (fields_at s offset)
  pub range : r ≡ first_name s offset
  pub name : part s r ≡ field (fields_at s offset) 1
  pub marked : m ≡ mark (fields_at s offset)

-- the line at an offset is a link line, its names are those of the sites a and b among names given above, and c is its capacity
pub record IsLinkLine (ed : Edition) (s : List ℕ) (names : List (ℕ × ℕ)) (at a b c : ℕ) : Type 0 where
  pub is-link : LinkWithin ed (line_at s at)
  pub first : Named s names (field (fields_at s at) 1) a
  pub second : Named s names (field (fields_at s at) 2) b
  pub usable : c ≡ capacity ed.sizing (fields_at s at)

-- a line of a sheet, read after j links, is the line of the link l, and c is its capacity (02, Card 5: size minus reserve; Card 11: its low or its high size)
pub record OwnLinkLine (ed : Edition) (s : List ℕ) (j : ℕ) (l : ℕ × ℕ) (c : ℕ) : Type 0 where
  pub number : ℕ
  pub offset : ℕ
  pub above : Network
  pub reached : Reached ed s number offset above
  pub links : length above.links ≡ j
  pub line : IsLinkLine ed s above.names offset l.0 l.1 c

-- ---- a line

module _ (ed : Edition) (s : List ℕ) (net : Network) (k at : ℕ) where
  -- a step that adds nothing is that of line 1, one that adds a site is that of a site line, and one that adds a link is that of a link line
  abbrev pub Adds : Stepped → Type 0
  Adds (Ok Nothing) = k ≡ 1
  Adds (Ok (Site a e m)) = IsSite (fields_at s at) × ((a, e) ≡ first_name s at) × (m ≡ mark (fields_at s at))
  Adds (Ok (Link a b c)) = IsLinkLine ed s net.names at a b c
  Adds (Err r) = Unit {0}

  site_adds : IsSite (fields_at s at) → (w : Option ℕ) → Adds (site_step ed k (length net.names) (first_name s at) (mark (fields_at s at)) w)
  unfolding site_step
  site_adds is = by (leb ed.sites (length net.names))
    where
      by : (t : Bool) (w : Option ℕ) → Adds (cond t (Err (refusal 4 k)) (site_by k (first_name s at) (mark (fields_at s at)) w))
      by true w = tt
      by false (Some v) = tt
      by false None = (is, refl, refl)

  link_adds : LinkWithin ed (line_at s at) → let one = field (fields_at s at) 1 in let two = field (fields_at s at) 2 in
      Adds (link_step k net.links (capacity ed.sizing (fields_at s at)) (lookup s net.names one) (lookup s net.names two))
  unfolding link_step
  link_adds is = by (lookup s net.names one) (finds s one net.names) (lookup s net.names two) (finds s two net.names)
    where
      one : List ℕ
      one = field (fields_at s at) 1

      two : List ℕ
      two = field (fields_at s at) 2

      either : (t : Bool) (a b : ℕ) → Named s net.names one a → Named s net.names two b
          → Adds (cond t (Err (refusal 7 k)) (Ok (Link a b (capacity ed.sizing (fields_at s at)))))
      either true a b p q = tt
      either false a b p q = record { is-link = is; first = p; second = q; usable = refl }

      by : (u : Option ℕ) → Finds s net.names one u → (w : Option ℕ) → Finds s net.names two w
          → Adds (link_step k net.links (capacity ed.sizing (fields_at s at)) u w)
      by None p w q = tt
      by (Some a) p None q = tt
      by (Some a) p (Some b) q = either (eqb (joined net.links a b) 1) a b p q

  heading_adds : k ≡ 1 → (t : Bool) → Adds (cond t (Ok Nothing) (Err (refusal 2 1)))
  heading_adds e true = e
  heading_adds e false = tt

  record_adds : (w : Result Line ℕ) → Tells ed (line_at s at) w → Adds (record_step ed s net k at w)
  unfolding record_step
  record_adds (Ok (line.Site a e m)) form = subst (λ w. Adds (record_step ed s net k at (Ok w))) (sym form.1) (site_adds form.0 _)
  record_adds (Ok (line.Link a e b f size)) form =
      let is = form.0.link in
      subst (λ w. Adds (record_step ed s net k at (Ok w))) (sym form.1)
      (rw (a_link_is_looked_up_by_field_1 s at ed.sizing is, a_link_is_looked_up_by_field_2 s at ed.sizing is) (link_adds form.0))
  record_adds (Err n) form = tt

  pub step_adds : Adds (step_of ed s net k at)
  unfolding step_of heading_step
  step_adds =
      by (ltb (at + line_length (drop at s)) (length s)) (eqb k 1) refl (kind ed (line_at s at)) (a_kind_tells_its_form ed (line_at s at))
    where
      by : (t u : Bool) → eqb k 1 ≡ u → (w : Result Line ℕ) → Tells ed (line_at s at) w
          → Adds (cond t (cond u (heading_step ed (line_at s at)) (record_step ed s net k at w)) (Err (refusal 2 k)))
      by false u e w form = tt
      by true true e w form = heading_adds (eqb-true k 1 e) (is_heading ed (fields_at s at))
      by true false e w form = record_adds w form

  -- a line that is read adds no site, or its own, with its name and its mark
  pub data SitesAfter (after : Network) : Type 0 where
    as-they-stood : after.names ≡ net.names → after.marks ≡ net.marks → SitesAfter after
    one-site-more : IsSite (fields_at s at) → after.names ≡ net.names ++ (first_name s at ∷ [])
        → after.marks ≡ net.marks ++ (mark (fields_at s at) ∷ []) → SitesAfter after

  line-sites : (after : Network) → read_line ed s net k at ≡ accepted after → SitesAfter after
  unfolding read_line
  line-sites after = by (step_of ed s net k at) step_adds
    where
      by : (w : Stepped) → Adds w → added net w ≡ accepted after → SitesAfter after
      by (Ok Nothing) h e = let same : after ≡ net = cc in
          as-they-stood (ap (λ (n : Network). n.names) same) (ap (λ (n : Network). n.marks) same)
      by (Ok (Site a b m)) h e = let same : after ≡ with_site net (a, b) m = cc in
          one-site-more h.0 (rw (← h.1) (ap (λ (n : Network). n.names) same)) (rw (← h.2) (ap (λ (n : Network). n.marks) same))
      by (Ok (Link a b size)) h e = let same : after ≡ with_link net (a, b) size = cc in
          as-they-stood (ap (λ (n : Network). n.names) same) (ap (λ (n : Network). n.marks) same)
      by (Err r) h e = contradiction cc

  -- and no link, or its own, with its usable size
  pub data LinksAfter (after : Network) : Type 0 where
    as-they-were : after.links ≡ net.links → after.capacities ≡ net.capacities → LinksAfter after
    one-link-more : (a b c : ℕ) → IsLinkLine ed s net.names at a b c → after.links ≡ net.links ++ ((a, b) ∷ [])
        → after.capacities ≡ net.capacities ++ (c ∷ []) → LinksAfter after

  line-links : (after : Network) → read_line ed s net k at ≡ accepted after → LinksAfter after
  unfolding read_line
  line-links after = by (step_of ed s net k at) step_adds
    where
      by : (w : Stepped) → Adds w → added net w ≡ accepted after → LinksAfter after
      by (Ok Nothing) h e = let same : after ≡ net = cc in
          as-they-were (ap (λ (n : Network). n.links) same) (ap (λ (n : Network). n.capacities) same)
      by (Ok (Site a b m)) h e = let same : after ≡ with_site net (a, b) m = cc in
          as-they-were (ap (λ (n : Network). n.links) same) (ap (λ (n : Network). n.capacities) same)
      by (Ok (Link a b c)) h e = let same : after ≡ with_link net (a, b) c = cc in
          one-link-more a b c h (ap (λ (n : Network). n.links) same) (ap (λ (n : Network). n.capacities) same)
      by (Err r) h e = contradiction cc

-- ---- the lines

-- as many numbers as elements, and what holds of each element with the number at its place
abbrev Each : (ℕ → ℕ × ℕ → ℕ → Type 0) → List (ℕ × ℕ) → List ℕ → Type 0
Each P l cs = (length cs ≡ length l) × ((i : ℕ) → i < length l → P i (get_or l i (0, 0)) (look cs i))

with_one_more : (P : ℕ → ℕ × ℕ → ℕ → Type 0) (l : List (ℕ × ℕ)) (cs : List ℕ) → Each P l cs → (a : ℕ × ℕ) (c : ℕ) → P (length l) a c
    → Each P (l ++ (a ∷ [])) (cs ++ (c ∷ []))
with_one_more P l cs own a c new = (
  omega (arith, own.0, length-append l (a ∷ []), length-append cs (c ∷ [])),
  λ j b. same? j (length l)
      (λ e. rw (e, get_or-append_seam l a [] (0, 0), ← own.0, get_or-append_seam cs c [] 0) (rw own.0 new))
      (λ d. let low : j < length l = omega (arith, length-append l (a ∷ [])) in
      rw (get_or-append l (a ∷ []) (0, 0) j low, get_or-append cs (c ∷ []) 0 j (omega (arith, own.0))) (own.1 j low)),
)

module _ (ed : Edition) (s : List ℕ) where
  pub own-lines : {k at : ℕ} {net : Network} → Reached ed s k at net → Each (OwnLine ed s) net.names net.marks
  own-lines start = (refl, λ i l. absurd (omega arith))
  own-lines (next {k = k} {at = at} {net = net} {after = after} r h e) = by (own-lines r) (line-sites ed s net k at after e)
    where
      own : IsSite (fields_at s at) → OwnLine ed s (length net.names) (first_name s at) (mark (fields_at s at))
      own is = record {
        number = k;
        offset = at;
        above = net;
        reached = r;
        sites = refl;
        is-site = is;
        range = refl;
        name = a_site_is_looked_up_by_field_1 s at is;
        marked = refl;
      }

      by : Each (OwnLine ed s) net.names net.marks → SitesAfter ed s net k at after → Each (OwnLine ed s) after.names after.marks
      by lines (as-they-stood p q) = rw (p, q) lines
      by lines (one-site-more is p q) = rw (p, q) (with_one_more (OwnLine ed s) net.names net.marks lines (first_name s at) _ (own is))

  -- the name of each site of an accepted sheet stands on its own `N` or `T` line
  pub a_name_stands_on_its_own_line : (net : Network) → read_as ed s ≡ accepted net → (i : ℕ) → i < length net.names
      → OwnLine ed s i (get_or net.names i (0, 0)) (look net.marks i)
  a_name_stands_on_its_own_line net e = (own-lines (an_accepted_sheet_is_read_to_its_end ed s net e).2).1

  -- a site of an accepted sheet is marked just where its own line has the letter `T`, and else the letter is `N` (02, Card 7)
  pub a_site_is_marked_just_by_its_letter : (net : Network) (e : read_as ed s ≡ accepted net) (i : ℕ) (l : i < length net.names)
      → let fs = fields_at s (a_name_stands_on_its_own_line net e i l).offset in
      ((look net.marks i ≡ 1) ↔ (field fs 0 ≡ bytes "T")) × ((look net.marks i ≡ 0) ↔ (field fs 0 ≡ bytes "N"))
  a_site_is_marked_just_by_its_letter net e i l =
      let own = a_name_stands_on_its_own_line net e i l in
      rw own.marked (a_mark_tells_its_letter (fields_at s own.offset), no_mark_tells_its_letter (fields_at s own.offset) own.is-site)

  -- ---- links

  own-links : {k at : ℕ} {net : Network} → Reached ed s k at net → Each (OwnLinkLine ed s) net.links net.capacities
  own-links start = (refl, λ j l. absurd (omega arith))
  own-links (next {k = k} {at = at} {net = net} {after = after} r h e) = by (own-links r) (line-links ed s net k at after e)
    where
      by : Each (OwnLinkLine ed s) net.links net.capacities → LinksAfter ed s net k at after
          → Each (OwnLinkLine ed s) after.links after.capacities
      by own (as-they-were p q) = rw (p, q) own
      by own (one-link-more a b c line p q) =
          rw (p, q) (with_one_more (OwnLinkLine ed s) net.links net.capacities own (a, b) c
          (record { number = k; offset = at; above = net; reached = r; links = refl; line = line }))

  -- each link of an accepted sheet stands on its own `L` line, and its capacity is the usable size there
  pub a_link_stands_on_its_own_line : (net : Network) → read_as ed s ≡ accepted net → (j : ℕ) → j < length net.links
      → OwnLinkLine ed s j (get_or net.links j (0, 0)) (look net.capacities j)
  a_link_stands_on_its_own_line net e = (own-links (an_accepted_sheet_is_read_to_its_end ed s net e).2).1

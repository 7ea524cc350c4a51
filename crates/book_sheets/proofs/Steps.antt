-- A line of the sheet read: the heading, a site line and a link line add what they say. By the forms of lines and the look-up of names.
use Rattle.std.specs.Prelude.{Some, ◌≡◌, true, ◌≢◌, List, [], ◌∷◌, ◌++◌, ℕ, suc, ◌+◌, ◌-◌, ◌≤◌, ◌<◌, take, drop, Ok}
use Rattle.std.proofs.Math.Path.{refl, ap}
use Rattle.std.proofs.Common.{sym, ◌∙◌, subst, inl, length-drop, take_at, take_all}
use native.Mathlib.Omega.{arith}
use borrow.Author.Tests.{ne_eqb, lt-leb}
use Rattle.std.proofs.Math.ListN.{length, length-append}
use Rattle.lists.specs.Numbers.{Each}
use Rattle.model.specs.Flows.{joined}
use Rattle.model.specs.Text.{bytes}
use Rattle.model.specs.declared.Edition.{Edition}
use Rattle.model.specs.declared.Sizing.TheVariants.{Reserved}
use Rattle.text_lines.specs.Lines.{line_length, line_at, after_line}
use Rattle.text_lines.specs.LineLaws.{after_ended_line}
use Rattle.text_fields.specs.Fields.{fields, same}
use Rattle.text_writers.specs.Fields.{decimal}
use Rattle.sheet_kinds.specs.LineKinds.{is_heading, kind, mark, size, reserve, capacity, IsSite, IsLink}
use Rattle.sheet_kinds.specs.LineKindLaws.{site_is_its_parts, link_is_its_parts, Together, no_fifth}
use Rattle.sheet_kinds.specs.KindForms.{a_site_by_its_form, a_link_by_its_form, link_name_is_field_1, link_name_is_field_2}
use Rattle.sheet_kinds.specs.declared.Line.TheVariants as kinds
use Rattle.sheet_names.specs.Names.{part, lookup}
use Rattle.sheet_names.specs.LookupLaws.{first_is_found}
use Rattle.sheet.specs.Sheet.{Network, accepted, with_site, with_link, site_step, link_step, heading_step, record_step, read_line, and_then, read_lines}
use Rattle.sheet.specs.ReadLaws.{lines_step}
use Rattle.sheet.specs.StepCases.{first_step, later_step}
use Rattle.sheet.specs.Sound.{part_of_line}
use Rattle.demands.specs.Parsing.{Plain, decimal-plain, decimal_read_back}
use Rattle.book_sheets.specs.Sheet.{site_name, site_row, link_row, heading}
use Rattle.book_sheets.specs.Rows.{row, NoEnd, fields_back, row_no_end, a-decimal-is-a-number, a-site-name-is-a-name, a_site_name_is_not_bare}
use Rattle.book_sheets.specs.Rows.{a-site-name-is-plain, names_tell_sites}
use Rattle.book_sheets.specs.Steps.{rest-is, heading-plain, NamesAre, a_new_name_is_absent, one_name_more}

-- ---- the line at an offset

line-stops : (l rest : List ℕ) → NoEnd l → line_length (l ++ (10 ∷ rest)) ≡ length l
unfolding line_length
line-stops [] rest p = refl
line-stops (b ∷ l) rest p = rw (ne_eqb b 10 p.0, line-stops l rest p.1)

module _ (s : List ℕ) (at : ℕ) (l rest : List ℕ) (plain : NoEnd l) (here : drop at s ≡ l ++ (10 ∷ rest)) where
  ended : at + length l < length s
  ended = omega (arith, ap length here, length-drop at s, length-append l (10 ∷ rest))

  line-is : line_at s at ≡ l
  unfolding line_at
  line-is = rw (here, line-stops l rest plain) (take_at l (10 ∷ rest) (length l) refl)

  ended_line : at + length (line_at s at) < length s
  ended_line = rw line-is ended

  after_is : after_line s at ≡ at + length l + 1
  after_is = after_ended_line s at ended_line ∙ ap (λ k. at + length k + 1) line-is

  -- reading goes on behind a line that is read
  goes_on : (ed : Edition) (k : ℕ) (net after : Network) → read_line ed s net k at ≡ accepted after
      → read_lines ed s (length s - at) k at net ≡ read_lines ed s (length s - (at + length l + 1)) (suc k) (at + length l + 1) after
  unfolding and_then
  goes_on ed k net after e = lines_step ed s k at net (omega (arith, ended)) ∙ rw (e, after_is)

module _ (ed : Edition) (s : List ℕ) (rest : List ℕ) (network : ed.sizing ≡ Reserved) (digit : ed.digit ≡ 49)
    (here : drop 0 s ≡ row heading ++ (10 ∷ rest)) where
  heading-line : line_at s 0 ≡ row heading
  heading-line = line-is s 0 (row heading) rest (row_no_end heading heading-plain) here

  pub heading_is_read : is_heading ed (fields (line_at s 0)) ≡ true
  unfolding is_heading same
  heading_is_read = rw (heading-line, fields_back (bytes "network") (bytes "1" ∷ []) heading-plain, network, digit)

  pub heading_step_lem : (net : Network) → read_lines ed s (length s - 0) 1 0 net
      ≡ read_lines ed s (length s - (0 + length (row heading) + 1)) 2 (0 + length (row heading) + 1) net
  unfolding read_line heading_step
  heading_step_lem net = goes_on s 0 (row heading) rest (row_no_end heading heading-plain) here ed 1 net net
      (rw (first_step ed s net 1 0 (ended_line s 0 (row heading) rest (row_no_end heading heading-plain) here) refl, heading_is_read) refl)

module _ (s : List ℕ) (names : List (ℕ × ℕ)) (N : NamesAre s names) where
  -- a site that is given is found
  pub a_given_name_is_found : (v : ℕ) → 1 ≤ v → v ≤ length names → lookup s names (site_name v) ≡ Some v
  a_given_name_is_found v h l =
      let i = v - 1 in
      let site : suc i ≡ v = omega arith in
      first_is_found s (site_name v) names 1 i (omega arith) (rw (N i (omega arith), site))
      (λ j b e. let z = names_tell_sites (suc j) v (rw (N j (omega arith)) at e) in absurd (omega arith))
      ∙ ap Some (omega arith)

-- ---- a site line

site-plain : (v : ℕ) → Each Plain (site_row v)
site-plain v = ((omega arith, tt), (a-site-name-is-plain v, tt))

module _ (ed : Edition) (s : List ℕ) (k at : ℕ) (net : Network) (v : ℕ) (rest : List ℕ) (here : drop at s ≡ row (site_row v) ++ (10 ∷ rest)) (later : k ≢ 1)
    (few : v < 1000) (next : v ≡ suc (length net.names)) (room : length net.names < ed.sites) (N : NamesAre s net.names) where
  abbrev text : List ℕ
  text = row (site_row v)

  plain-text : NoEnd text
  plain-text = row_no_end (site_row v) (site-plain v)

  its_fields : fields text ≡ site_row v
  its_fields = fields_back (bytes "N") (site_name v ∷ []) (site-plain v)

  text-is : text ≡ 78 ∷ 9 ∷ site_name v
  unfolding row
  text-is = refl

  its_form : IsSite (fields text)
  its_form = rw its_fields ((site_is_its_parts (site_row v)).1 (record {
    count = refl;
    letter = inl refl;
    name = a-site-name-is-a-name v few;
    lettered = a_site_name_is_not_bare v;
  }))

  unmarked : mark (site_row v) ≡ 0
  unfolding mark same
  unmarked = refl

  abbrev place : ℕ × ℕ
  place = (at + 2, at + (2 + length (site_name v)))

  its_kind : kind ed (line_at s at) ≡ Ok (kinds.Site 2 (2 + length (site_name v)) 0)
  its_kind = ap (kind ed) (line-is s at text rest plain-text here) ∙ a_site_by_its_form ed text its_form ∙ rw (its_fields, unmarked)

  its_name : part s place ≡ site_name v
  its_name =
      let line = line-is s at text rest plain-text here in
      let size : 2 + length (site_name v) ≡ length (line_at s at) = omega (arith, ap length text-is, ap length line) in
      part_of_line s at 2 (2 + length (site_name v)) (omega arith) (omega (arith, size))
      ∙ ap (λ l. take (2 + length (site_name v) - 2) (drop 2 l)) (line ∙ text-is)
      ∙ take_all (2 + length (site_name v) - 2) (site_name v) (omega arith)

  its_line : read_line ed s net k at ≡ accepted (with_site net place 0)
  unfolding read_line record_step site_step
  its_line = rw (
    later_step ed s net k at (ended_line s at text rest plain-text here) later,
    its_kind,
    its_name,
    a_new_name_is_absent s net.names N v (omega arith),
    lt-leb ed.sites (length net.names) room,
  )

  pub a_site_is_read : read_lines ed s (length s - at) k at net
      ≡ read_lines ed s (length s - (at + length text + 1)) (suc k) (at + length text + 1) (with_site net place 0)
  a_site_is_read = goes_on s at text rest plain-text here ed k net (with_site net place 0) its_line

  pub the_rest_follows : drop (at + length text + 1) s ≡ rest
  the_rest_follows = rest-is s at text rest plain-text here

  pub the_names_go_on : NamesAre s (with_site net place 0).names
  the_names_go_on = one_name_more s net.names N place (its_name ∙ ap site_name next)

-- ---- a link line

link-plain : (l : ℕ × ℕ) (c : ℕ) → Each Plain (link_row l c)
link-plain l c = ((omega arith, tt), (a-site-name-is-plain l.0, (a-site-name-is-plain l.1, (decimal-plain c, tt))))

module _ (ed : Edition) (s : List ℕ) (k at : ℕ) (net : Network) (l : ℕ × ℕ) (c : ℕ) (rest : List ℕ) (here : drop at s ≡ row (link_row l c) ++ (10 ∷ rest))
    (later : k ≢ 1) (few : length net.names < 1000) (first : (1 ≤ l.0) × (l.0 ≤ length net.names)) (second : (1 ≤ l.1) × (l.1 ≤ length net.names))
    (network : ed.sizing ≡ Reserved) (small : c ≤ ed.size) (N : NamesAre s net.names) (fresh : joined net.links l.0 l.1 ≢ 1) where
  abbrev link_text : List ℕ
  link_text = row (link_row l c)

  plain-link : NoEnd link_text
  plain-link = row_no_end (link_row l c) (link-plain l c)

  link-fields : fields link_text ≡ link_row l c
  link-fields = fields_back (bytes "L") (site_name l.0 ∷ site_name l.1 ∷ decimal c ∷ []) (link-plain l c)

  link_form_lem : IsLink ed.sizing (fields link_text)
  link_form_lem = rw (network, link-fields) ((link_is_its_parts Reserved (link_row l c)).1 (record {
    least = omega arith;
    enough = omega arith;
    no_more = omega arith;
    letter = refl;
    name = a-site-name-is-a-name l.0 (omega arith);
    lettered = a_site_name_is_not_bare l.0;
    name2 = a-site-name-is-a-name l.1 (omega arith);
    lettered2 = a_site_name_is_not_bare l.1;
    size = a-decimal-is-a-number c;
    reserve = λ e. absurd (omega arith);
  }))

  its_size : size (fields link_text) ≡ c
  its_size = ap size link-fields ∙ decimal_read_back c

  no_reserve : reserve (fields link_text) ≡ 0
  no_reserve = ap reserve link-fields ∙ no_fifth (link_row l c) (omega arith)

  abbrev a : ℕ
  a = length (site_name l.0)

  abbrev b : ℕ
  b = length (site_name l.1)

  link-kind : kind ed (line_at s at) ≡ Ok (kinds.Link 2 (2 + a) (3 + a) (3 + a + b) c)
  link-kind =
      let fs = fields link_text in
      let together : Together Reserved (size fs) (reserve fs) = omega (arith, no_reserve) in
      let usable : capacity Reserved fs ≡ c = omega (arith, its_size, no_reserve) in
      ap (kind ed) (line-is s at link_text rest plain-link here)
      ∙ a_link_by_its_form ed link_text (record {
        link = link_form_lem;
        within = omega (arith, its_size);
        within2 = omega (arith, no_reserve);
        together = subst (λ z. Together z (size fs) (reserve fs)) (sym network) together;
      })
      ∙ rw (network, usable, link-fields)

  link-long : 3 + a + b ≤ length (line_at s at)
  unfolding row
  link-long = omega (
    arith,
    ap length (line-is s at link_text rest plain-link here),
    length-append (site_name l.0) (9 ∷ (site_name l.1 ++ (9 ∷ decimal c))),
    length-append (site_name l.1) (9 ∷ decimal c),
  )

  first-name : part s (at + 2, at + (2 + a)) ≡ site_name l.0
  first-name = part_of_line s at 2 (2 + a) (omega arith) (omega (arith, link-long))
      ∙ ap (λ t. take (2 + a - 2) (drop 2 t)) (line-is s at link_text rest plain-link here)
      ∙ (rw link-fields at (link_name_is_field_1 link_text ed.sizing link_form_lem))

  second-name : part s (at + (3 + a), at + (3 + a + b)) ≡ site_name l.1
  second-name = part_of_line s at (3 + a) (3 + a + b) (omega arith) link-long
      ∙ ap (λ t. take (3 + a + b - (3 + a)) (drop (3 + a) t)) (line-is s at link_text rest plain-link here)
      ∙ (rw link-fields at (link_name_is_field_2 link_text ed.sizing link_form_lem))

  link-line : read_line ed s net k at ≡ accepted (with_link net (l.0, l.1) c)
  unfolding read_line record_step link_step
  link-line = rw (
    later_step ed s net k at (ended_line s at link_text rest plain-link here) later,
    link-kind,
    first-name,
    second-name,
    a_given_name_is_found s net.names N l.0 first.0 first.1,
    a_given_name_is_found s net.names N l.1 second.0 second.1,
    ne_eqb (joined net.links l.0 l.1) 1 fresh,
  )

  pub a_link_is_read : read_lines ed s (length s - at) k at net
      ≡ read_lines ed s (length s - (at + length link_text + 1)) (suc k) (at + length link_text + 1) (with_link net l c)
  a_link_is_read = goes_on s at link_text rest plain-link here ed k net (with_link net l c) link-line

  pub the_rest_follows_a_link : drop (at + length link_text + 1) s ≡ rest
  the_rest_follows_a_link = rest-is s at link_text rest plain-link here

-- What a line is in which a scan found a letter, a name or two and numbers: its fields are these, and they have the form of a site or of a link.
use Rattle.std.specs.Prelude.{true, false, List, [], ◌∷◌, ◌≡◌, refl, length, get_or, Result, Ok}
use Rattle.std.proofs.Math.Logic.{inl, inr}
use Rattle.std.proofs.Common.{sym, ◌∙◌, add-one, arith}
use Prim.Native.Nat.{ℕ, zero, suc, ◌+◌, ◌-◌, ◌≤◌, ◌<◌}
use Rattle.std.proofs.Math.Seq.{slice, slice_empty, slice-cons, length-slice}
use Rattle.model.specs.declared.Edition.{Edition}
use Rattle.model.specs.declared.Sizing.{Sizing}
use Rattle.model.specs.declared.Sizing.TheVariants.{Reserved, Low, High}
use Rattle.text_lines.specs.Lines.{line_at, after_line}
use Rattle.text_lines.specs.LineLaws.{after_ended_line, after_the_end_of_a_line}
use Rattle.text_fields.specs.Fields.{fields, field, all, digits_alone, is_name, is_number, value_from, value}
use Rattle.text_fields.specs.FieldLaws.{each_passes}
use Rattle.text_grammar.specs.SizeLaws.{size-within}
use Rattle.sheet_kinds.specs.LineKinds.{same, mark, fault_of, judged, least_numbers, paired, capacity_of, sized_link, link_line, kind, IsLink}
use Rattle.sheet_kinds.specs.LineKindLaws.{site_is_its_parts, link_is_its_parts, some_numbers}
use Rattle.sheet_kinds.specs.FaultyLines.{kind_of_L}
use Rattle.sheet_kinds.specs.KindForms.{a_site_by_its_form}
use Rattle.sheet_kinds.specs.declared.Line.{Line}
use Rattle.sheet_kinds.specs.declared.Line.TheVariants.{Site, Link}
use Rattle.sheet_scan.specs.Scan.{scanned, NameAt, NumberAt, NumbersAt, LetterTab, letter_of, LineIs, one_number, NumbersFound}
use Rattle.sheet_scan.specs.ScanLaws.{Plain, field_and_more, field-and-end, digits_are_plain, name-is-plain}

-- ---- by its fields

module _ (ed : Edition) (l : List ℕ) where
  site_by_its_fields : (name : List ℕ) (m : ℕ) → m ≤ 1 → fields l ≡ (letter_of m ∷ []) ∷ name ∷ [] → is_name name ≡ true → digits_alone name ≡ false
      → kind ed l ≡ Ok (Site 2 (2 + length name) m)
  unfolding mark same
  site_by_its_fields name zero h e is lettered =
      a_site_by_its_form ed l ((site_is_its_parts (fields l)).1 (rw e (record { count = refl; letter = inl refl; name = is; lettered = lettered }))) ∙ rw e
  site_by_its_fields name (suc zero) h e is lettered =
      a_site_by_its_form ed l ((site_is_its_parts (fields l)).1 (rw e (record { count = refl; letter = inr refl; name = is; lettered = lettered }))) ∙ rw e
  site_by_its_fields name (suc (suc m)) h e is lettered = absurd (omega arith)

  module _ (a b : List ℕ) (ns : List (List ℕ)) (e : fields l ≡ (76 ∷ []) ∷ a ∷ b ∷ ns)
      (name : is_name a ≡ true) (lettered : digits_alone a ≡ false) (name2 : is_name b ≡ true) (lettered2 : digits_alone b ≡ false)
      (least : least_numbers ed.sizing ≤ length ns) (most : length ns ≤ 2) (are : all is_number ns ≡ true) where
    is-link : IsLink ed.sizing (fields l)
    is-link =
        let some = (some_numbers ed.sizing).0 in
        (link_is_its_parts ed.sizing (fields l)).1
        (rw e (record {
          least = omega arith;
          enough = omega arith;
          no_more = omega arith;
          letter = refl;
          name = name;
          lettered = lettered;
          name2 = name2;
          lettered2 = lettered2;
          size = each_passes is_number ns [] are 0 (omega arith);
          reserve = λ n. each_passes is_number ns [] are 1 (omega arith);
        }))

    link-by-its-fields : (c : ℕ) → value (field ns 0) ≤ ed.size → value (field ns 1) ≤ ed.size
        → paired ed.sizing (value (field ns 0)) (value (field ns 1)) ≡ Ok c
        → kind ed l ≡ Ok (Link 2 (2 + length a) (3 + length a) (3 + length a + length b) c)
    unfolding link_line judged fault_of sized_link capacity_of
    link-by-its-fields c v w p =
        kind_of_L ed l (rw e) ∙ rw (is-link, e, size-within ed.size (field ns 0) v, size-within ed.size (field ns 1) w, p)

-- ---- by what was found

letter_is_above : (m : ℕ) → 48 ≤ letter_of m
letter_is_above zero = omega arith
letter_is_above (suc m) = omega arith

module _ (s : List ℕ) (at b : ℕ) (h : LetterTab s at b) (l : 48 ≤ b) where
  -- the letter is the first field
  one_byte : slice at (at + 1) s ≡ b ∷ []
  one_byte = slice-cons at (at + 1) s 0 (omega arith) (omega (arith, h.on_sheet)) ∙ rw (h.letter_is, add-one, slice_empty (suc at) s)

  letter_and_more : (fields (line_at s at) ≡ (b ∷ []) ∷ fields (line_at s (at + 2))) × (at + length (line_at s at) ≡ at + 2 + length (line_at s (at + 2)))
  letter_and_more =
      let two : at + 1 + 1 ≡ at + 2 = omega arith in
      let plain : Plain s at (at + 1) = λ k p q. let here : k ≡ at = omega arith in rw (here, h.letter_is) l in
      let f = field_and_more s at (at + 1) (omega arith) (omega (arith, h.on_sheet)) plain h.tab in
      rw (one_byte, two) at f

module _ (ed : Edition) (s : List ℕ) where
  -- a letter, a name and the end
  pub a_site_is_found : (at to m : ℕ) → m ≤ 1 → LetterTab s at (letter_of m) → at + 2 < to → NameAt s (at + 2) to 10 → LineIs ed s at (Site 2 (to - at) m) to
  a_site_is_found at to m few h o n =
      let f = letter_and_more s at (letter_of m) h (letter_is_above m) in
      let g = field-and-end s (at + 2) to (omega arith) n.on_sheet (name-is-plain s (at + 2) to n.run) n.followed in
      let long : 2 + length (slice (at + 2) to s) ≡ to - at = omega (arith, length-slice (at + 2) to s (omega (arith, n.on_sheet))) in
      record {
        kind-is = sym (site_by_its_fields ed (line_at s at) (slice (at + 2) to s) m few (f.0 ∙ rw g.0) n.name n.lettered ∙ rw long);
        ends = omega (arith, f.1, g.1);
        on_sheet = n.on_sheet;
      }

  -- a letter, two names and numbers
  pub a_link_is_found : (at one two to v w c : ℕ) → LetterTab s at 76 → at + 2 < one → NameAt s (at + 2) one 9 → one + 1 < two → NameAt s (one + 1) two 9
      → NumbersAt ed s (two + 1) to v w → paired ed.sizing v w ≡ Ok c → LineIs ed s at (Link 2 (one - at) (one + 1 - at) (two - at) c) to
  a_link_is_found at one two to v w c h o n o2 n2 ns p =
      let f = letter_and_more s at 76 h (omega arith) in
      let g = field_and_more s (at + 2) one (omega arith) n.on_sheet (name-is-plain s (at + 2) one n.run) n.followed in
      let g2 = field_and_more s (one + 1) two (omega arith) n2.on_sheet (name-is-plain s (one + 1) two n2.run) n2.followed in
      let a = length-slice (at + 2) one s (omega (arith, n.on_sheet)) in
      let b = length-slice (one + 1) two s (omega (arith, n2.on_sheet)) in
      let end : 2 + length (slice (at + 2) one s) ≡ one - at = omega arith in
      let start2 : 3 + length (slice (at + 2) one s) ≡ one + 1 - at = omega arith in
      let end2 : 3 + length (slice (at + 2) one s) + length (slice (one + 1) two s) ≡ two - at = omega arith in
      let is = link-by-its-fields ed (line_at s at) (slice (at + 2) one s) (slice (one + 1) two s) (fields (line_at s (two + 1)))
      (f.0 ∙ rw (g.0, g2.0)) n.name n.lettered n2.name n2.lettered ns.least ns.most ns.numbers c
      (rw ns.first ns.within) (rw ns.second ns.within2) (rw (ns.first, ns.second) p) in
      record {
        kind-is = sym (rw (end2, start2, end) at is);
        ends = omega (arith, f.1, g.1, g2.1, ns.ends);
        on_sheet = ns.on_sheet;
      }

  module _ (from to v : ℕ) (n : NumberAt s from to v ed.size) where
    plain : Plain s from to
    plain = digits_are_plain s from to n.digits.run

    -- one number and the end
    pub one_is_found : (z : Sizing) → ed.sizing ≡ z → get_or s to 0 ≡ 10 → NumbersFound ed s from (one_number z to v)
    unfolding all value_from
    one_is_found Reserved q e =
        let f = field-and-end s from to n.digits.behind n.digits.on_sheet plain e in
        record {
          least = rw (q, f.0) (omega arith);
          most = rw f.0 (omega arith);
          numbers = rw (f.0, n.number);
          first = rw f.0 n.digits.value-is;
          second = rw f.0 refl;
          within = n.within;
          within2 = omega arith;
          ends = f.1;
          on_sheet = n.digits.on_sheet;
        }
    one_is_found Low q e = tt
    one_is_found High q e = tt

    -- two numbers and the end
    pub two_are_found : (to2 w : ℕ) → get_or s to 0 ≡ 9 → NumberAt s (to + 1) to2 w ed.size → get_or s to2 0 ≡ 10 → NumbersAt ed s from to2 v w
    unfolding all
    two_are_found to2 w t n2 e =
        let f = field_and_more s from to n.digits.behind n.digits.on_sheet plain t in
        let g = field-and-end s (to + 1) to2 n2.digits.behind n2.digits.on_sheet (digits_are_plain s (to + 1) to2 n2.digits.run) e in
        let some = (some_numbers ed.sizing).1 in
        record {
          least = rw (f.0, g.0) (omega arith);
          most = rw (f.0, g.0) (omega arith);
          numbers = rw (f.0, g.0, n.number, n2.number);
          first = rw f.0 n.digits.value-is;
          second = rw (f.0, g.0) n2.digits.value-is;
          within = n.within;
          within2 = n2.within;
          ends = omega (arith, f.1, g.1);
          on_sheet = n2.digits.on_sheet;
        }

-- ---- the line as it is scanned

module _ (ed : Edition) (s : List ℕ) (at : ℕ) where
  pub a_found_line_is_scanned : (w : Line) (to : ℕ) → LineIs ed s at w to → record { line = Ok w; end = to; next = to + 1 } ≡ scanned ed s at
  unfolding scanned
  a_found_line_is_scanned w to h =
      let next = after_ended_line s at (omega (arith, h.ends, h.on_sheet)) in
      rw (h.kind-is, next, h.ends)

  pub parts_are_scanned : (line : List ℕ) (w : Result Line ℕ) (next : ℕ) → at ≤ length s → line ≡ line_at s at → w ≡ kind ed line → next ≡ after_line s (at + length line)
      → record { line = w; end = at + length line; next = next } ≡ scanned ed s at
  unfolding scanned
  parts_are_scanned line w next h l k n = rw (n, k, l, after_the_end_of_a_line s at h)

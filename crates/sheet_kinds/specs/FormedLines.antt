-- What is known of a line by its kind: its names are ranges of it, the mark of a site is 0 or 1, and the size of a link is within the limit.
-- By the places of the fields.
use Rattle.std.specs.Prelude.{Bool, true, false, cond, List, ◌≡◌, ℕ, ◌+◌, ◌-◌, ◌≤◌, ◌<◌, length, get_or, take, drop, Ok, Result, Err}
use Rattle.std.proofs.Common.{inl, inr, ap, ◌∙◌, arith}
use Rattle.std.proofs.Math.Nat.{sub-zero}
use Rattle.model.specs.Text.{bytes}
use Rattle.model.specs.declared.Edition.{Edition}
use Rattle.model.specs.declared.Sizing.{Sizing}
use Rattle.text_grammar.specs.Grammar.{ends, split}
use Rattle.text_grammar.specs.SplitLaws.{field_lies, length_of_field, end_of_split}
use Rattle.text_grammar.specs.declared.Fields.{Fields}
use Rattle.sheet_kinds.specs.LineKinds.{same, fields, field, is_name, checked, site_form, plain_form, marked_form, link_form, IsSite, IsLink}
use Rattle.sheet_kinds.specs.LineKinds.{site_line, capacity, link_of, sized_link, link_line, kind_of, kind}
use Rattle.sheet_kinds.specs.LineKindLaws.{judged_cases, parts_of_a_site, site_parts, one_letter, link_parts, taken-is-within, capacity_cases}
use Rattle.sheet_kinds.specs.declared.Line.{Line}
use Rattle.sheet_kinds.specs.declared.Line.TheVariants.{Site, Link}

-- names are ranges of the line, the mark of a site is 0 or 1, and the size of a link is within the limit
abbrev pub Formed : ℕ → List ℕ → Result Line ℕ → Type 0
Formed most l (Ok (Site a e m)) = (a ≤ e) × (e ≤ length l) × (is_name (take (e - a) (drop a l)) ≡ true) × (m ≤ 1)
Formed most l (Ok (Link a e b f size)) = (a ≤ e) × (e ≤ length l) × (b ≤ f) × (f ≤ length l) × (size ≤ most)
Formed most l (Err n) = Unit {0}

module _ (l : List ℕ) where
  abbrev one : ℕ
  one = length (field (fields l) 1)

  abbrev two : ℕ
  two = length (field (fields l) 2)

  -- where the second and the third field end, the first being one byte
  pub second-end : 1 < length (fields l) → length (field (fields l) 0) ≡ 1 → get_or (ends 0 (fields l)) 1 0 ≡ 2 + one
  second-end h e = omega (arith, length_of_field (field_lies 0 l 0 (omega arith)), length_of_field (field_lies 1 l 0 h))

  pub third_end : 2 < length (fields l) → length (field (fields l) 0) ≡ 1 → get_or (ends 0 (fields l)) 2 0 ≡ 3 + one + two
  third_end h e = omega (arith, second-end (omega arith) e, length_of_field (field_lies 2 l 0 h))

  -- the second and the third field, by their places
  pub part_of_field_1 : 1 < length (fields l) → length (field (fields l) 0) ≡ 1 → take (2 + one - 2) (drop 2 l) ≡ field (fields l) 1
  part_of_field_1 h e =
      let first : get_or (ends 0 (fields l)) 0 0 + 1 ≡ 2 = omega (arith, length_of_field (field_lies 0 l 0 (omega arith))) in
      rw (first, second-end h e, sub-zero) at (field_lies 1 l 0 h).part

  pub part_of_field_2 : 2 < length (fields l) → length (field (fields l) 0) ≡ 1
      → take (3 + one + two - (3 + one)) (drop (3 + one) l) ≡ field (fields l) 2
  part_of_field_2 h e =
      let second : get_or (ends 0 (fields l)) 1 0 + 1 ≡ 3 + one = omega (arith, second-end (omega arith) e) in
      rw (second, third_end h e, sub-zero) at (field_lies 2 l 0 h).part

  module _ (most : ℕ) where
    pub site_is_formed : IsSite (fields l) → (mark : ℕ) → mark ≤ 1 → Formed most l (Ok (Site 2 (2 + one) mark))
    site_is_formed e mark h =
        let k = site_parts (fields l) e in
        let short = one_letter (fields l) k in
        let n : 1 < length (fields l) = omega (arith, k.count) in
        (omega arith, omega (arith, (field_lies 1 l 0 n).within, second-end n short), rw (part_of_field_1 n short) k.name, h)

    pub link_is_formed : (z : Sizing) → IsLink z (fields l) → (size : ℕ) → size ≤ most → Formed most l (Ok (Link 2 (2 + one) (3 + one) (3 + one + two) size))
    link_is_formed z e size h =
        let k = link_parts z (fields l) e in
        let n : 2 < length (fields l) = omega (arith, k.enough) in
        let room : 3 + one + two ≤ length l = omega (arith, third_end n (ap length k.letter), (field_lies 2 l 0 n).within) in
        (omega arith, omega arith, omega arith, room, h)

    as-site : Formed most l (site_line 78 0 (fields l))
    unfolding site_line
    as-site = judged_cases (Formed most l) (checked plain_form (fields l)) _ (λ e. site_is_formed (inl e) 0 (omega arith)) (λ d. tt)

    as-marked : Formed most l (site_line 84 1 (fields l))
    unfolding site_line
    as-marked = judged_cases (Formed most l) (checked marked_form (fields l)) _ (λ e. site_is_formed (inr e) 1 (omega arith)) (λ d. tt)

  module _ (ed : Edition) where
    sized-is-formed : IsLink ed.sizing (fields l) → Formed ed.size l (sized_link ed (fields l))
    unfolding sized_link
    sized-is-formed e = capacity_cases (λ c. Formed ed.size l (link_of one two c)) ed.sizing ed.size (field (fields l) 3) (field (fields l) 4)
        (λ o. tt) (λ a b h. tt)
        (λ a b h. link_is_formed ed.size ed.sizing e (capacity ed.sizing (fields l)) (taken-is-within ed.sizing _ _ ed.size a b))

    as-link : Formed ed.size l (link_line ed (fields l))
    unfolding link_line
    as-link = judged_cases (Formed ed.size l) (checked (link_form ed.sizing) (fields l)) _ sized-is-formed (λ d. tt)

-- the ends of the names, as the code holds them, and that they lie within the line
pub site-end : (l : List ℕ) (found : Fields) → found ≡ split l → (letter : ℕ) → checked (site_form letter) (fields l) ≡ Ok tt
    → get_or found.end 1 0 ≡ 2 + length (field (fields l) 1)
site-end l found e letter h =
    let k = parts_of_a_site letter (fields l) h in
    let n : 1 < length (fields l) = omega (arith, k.0) in
    rw e (end_of_split l 1 (omega arith) n ∙ second-end l n (ap length k.1))

pub link-ends : (l : List ℕ) (found : Fields) → found ≡ split l → (z : Sizing) → IsLink z (fields l) → let one = length (field (fields l) 1) in
    let two = length (field (fields l) 2) in
    (get_or found.end 1 0 ≡ 2 + one) × (get_or found.end 2 0 ≡ 3 + one + two) × (3 + one + two ≤ length l)
link-ends l found e z h =
    let k = link_parts z (fields l) h in
    let short = ap length k.letter in
    let n : 2 < length (fields l) = omega (arith, k.enough) in
    let m : 1 < length (fields l) = omega arith in
    rw e (
      end_of_split l 1 (omega arith) m ∙ second-end l m short,
      end_of_split l 2 (omega arith) n ∙ third_end l n short,
      (link_is_formed l 0 z h 0 (omega arith)).3,
    )

pub kinds_are_formed : (ed : Edition) (l : List ℕ) → Formed ed.size l (kind ed l)
unfolding kind kind_of
kinds_are_formed ed l = by (same (field (fields l) 0) (bytes "L")) (same (field (fields l) 0) (bytes "T"))
  where
    by : (u v : Bool) → let fs = fields l in Formed ed.size l (cond u (link_line ed fs) (cond v (site_line 84 1 fs) (site_line 78 0 fs)))
    by true v = as-link l ed
    by false true = as-marked l ed.size
    by false false = as-site l ed.size

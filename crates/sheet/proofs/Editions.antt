-- What Card 8 changed in reading (document 02): a sheet that is not headed as edition 2 is read as it was; one that is was refused with 2 at line 1, or with 1
-- if longer than 16,384 bytes. A planner from before the card knows edition 1 alone. By the heading, which has one digit.
use Rattle.std.specs.Prelude.{Bool, true, false, cond, ◌&&◌, ◌≡◌, ℕ, ◌+◌, ◌≤◌, ◌<◌, eqb}
use Rattle.std.proofs.lemmas.Bool.{false≢true}
use mathlib.Core.List.{List, [], ◌∷◌}
use Rattle.std.proofs.Common.{inr, sym, ap, ◌∙◌, eqb-true}
use Rattle.std.proofs.Math.Path.{refl}
use Rattle.std.proofs.Math.Decide.{dec_lt}
use native.Mathlib.Omega.{arith}
use Rattle.std.proofs.Math.ListN.{length}
use Rattle.lists.specs.Numbers.{look}
use Rattle.lists.specs.Sums.{cases, contradiction}
use Rattle.model.specs.Limits.{BYTES, SITES, SIZE}
use Rattle.model.specs.Edition.{edition1, edition2, editions, largest}
use Rattle.model.specs.declared.Edition.{Edition}
use Rattle.model.specs.declared.Sizing.TheVariants.{Reserved}
use Rattle.text_lines.specs.Lines.{line_length, line_at}
use Rattle.text_fields.specs.FieldLaws.{both, fails}
use Rattle.sheet_kinds.specs.LineKinds.{same, fields, field, heading_word, is_heading}
use Rattle.sheet_kinds.specs.LineKindLaws.{same_are_equal}
use Rattle.sheet.specs.Sheet.{Network, refused, accepted, read_as, edition_of, read_sheet, range_in, name_range}
use Rattle.sheet.specs.Causes.{Refusal, unended, no_heading, start, by_length, by_line}
use Rattle.sheet.proofs.Answers.{a_line_at_fault_is_on_the_sheet}
use Rattle.sheet.specs.SheetTheorem.{IsNetwork, an_accepted_sheet_is_a_tree, a_sheet_is_refused_for_its_cause}
use Rattle.sheet.specs.Editions.{Headed, editions_before}

-- a heading is of two fields, and the second is its digit
second-field : (ed : Edition) (fs : List (List ℕ)) → is_heading ed fs ≡ true → (length fs ≡ 2) × (field fs 1 ≡ ed.digit ∷ [])
unfolding is_heading
second-field ed fs e =
    let h = both (eqb (length fs) 2 && same (field fs 0) (heading_word ed.sizing)) (same (field fs 1) (ed.digit ∷ [])) e in
    (eqb-true (length fs) 2 (both (eqb (length fs) 2) (same (field fs 0) (heading_word ed.sizing)) h.0).0, same_are_equal _ _ h.1)

-- so it is of one edition
one_digit : (fs : List (List ℕ)) → is_heading edition2 fs ≡ true → is_heading edition1 fs ≡ false
one_digit fs e = fails (is_heading edition1 fs)
    (λ f. contradiction (omega (arith, ap (λ g. look g 0) (second-field edition1 fs f).1, ap (λ g. look g 0) (second-field edition2 fs e).1)))

-- what holds of both editions that are known holds of that of a sheet
pub of_the_edition : (P : Edition → Type 0) (s : List ℕ) → P edition1 → P edition2 → P (edition_of editions s)
unfolding edition_of
of_the_edition P s one two = by (is_heading edition1 (fields (line_at s 0))) (is_heading edition2 (fields (line_at s 0)))
  where
    by : (t u : Bool) → P (cond t edition1 (cond u edition2 edition1))
    by true u = one
    by false true = two
    by false false = one

-- as that it has no more sites than there are places
pub a_known_edition_is_within_the_limits : (s : List ℕ) → (edition_of editions s).sites ≤ SITES
a_known_edition_is_within_the_limits s = of_the_edition (λ ed. ed.sites ≤ SITES) s (omega arith) (omega arith)

-- and that it is one of network sheets, whose link lines give a size and a reserve (02, Card 11: range sheets are another planner's)
pub a_known_edition_is_of_networks : (s : List ℕ) → (edition_of editions s).sizing ≡ Reserved
a_known_edition_is_of_networks s = of_the_edition (λ ed. ed.sizing ≡ Reserved) s refl refl

pub headed_as_edition_2 : (s : List ℕ) → Headed edition2 s → edition_of editions s ≡ edition2
unfolding edition_of
headed_as_edition_2 s h = rw (one_digit (fields (line_at s 0)) h, h)

pub not_headed_as_edition_2 : (s : List ℕ) → ¬ (Headed edition2 s) → edition_of editions s ≡ edition1
unfolding edition_of
not_headed_as_edition_2 s none = rw (fails (is_heading edition2 (fields (line_at s 0))) none) (by (is_heading edition1 (fields (line_at s 0))))
  where
    by : (t : Bool) → cond t edition1 edition1 ≡ edition1
    by true = refl
    by false = refl

-- as a sheet headed as edition 1 is not
pub edition_1_is_another_heading : (s : List ℕ) → Headed edition1 s → ¬ (Headed edition2 s)
edition_1_is_another_heading s one two = false≢true (sym (one_digit (fields (line_at s 0)) two) ∙ one)

-- a planner from before reads every sheet as one of edition 1
pub edition_1_alone : (s : List ℕ) → edition_of editions_before s ≡ edition1
unfolding edition_of
edition_1_alone s = by (is_heading edition1 (fields (line_at s 0)))
  where
    by : (t : Bool) → cond t edition1 edition1 ≡ edition1
    by true = refl
    by false = refl

-- a line at fault is within the most bytes that a sheet may have
pub a_line_at_fault_is_within_the_limit : (s : List ℕ) {n k : ℕ} → Refusal (edition_of editions s) s n k → k ≤ BYTES
a_line_at_fault_is_within_the_limit s c =
    omega (arith, (a_line_at_fault_is_on_the_sheet (edition_of editions s) s c).1, of_the_edition (λ ed. ed.bytes ≤ BYTES) s (omega arith) (omega arith))

-- an accepted sheet of either edition is a tree within the limits of the largest
pub an_accepted_sheet_is_within_the_largest : (s : List ℕ) (net : Network) → read_sheet editions s ≡ accepted net → IsNetwork largest s net
an_accepted_sheet_is_within_the_largest s net e =
    let N = an_accepted_sheet_is_a_tree (edition_of editions s) s net e in
    let few = a_known_edition_is_within_the_limits s in
    let small = of_the_edition (λ ed. ed.size ≤ SIZE) s (omega arith) (omega arith) in
    record {
      tree = N.tree;
      few = omega (arith, N.few);
      capacities = N.capacities;
      sizes = λ j l. omega (arith, N.sizes j l);
      marks = N.marks;
      marked = N.marked;
      names = N.names;
      different = N.different;
    }

-- a sheet that is not headed as edition 2, as every sheet of edition 1, is read as it was, and each of its sites has the name that it had
pub other_sheets_are_read_as_before : (s : List ℕ) → ¬ (Headed edition2 s) → read_sheet editions s ≡ read_sheet editions_before s
other_sheets_are_read_as_before s none = ap (λ ed. read_as ed s) (not_headed_as_edition_2 s none ∙ sym (edition_1_alone s))

pub names_are_as_before : (s : List ℕ) → ¬ (Headed edition2 s) → (k : ℕ) → name_range editions s k ≡ name_range editions_before s k
unfolding name_range
names_are_as_before s none k = ap (range_in k) (other_sheets_are_read_as_before s none)

module _ (s : List ℕ) (headed : Headed edition2 s) where
  -- a sheet with a heading has bytes
  some_bytes : 1 ≤ length s
  unfolding fields line_at line_length
  some_bytes = by s headed
    where
      by : (z : List ℕ) → Headed edition2 z → 1 ≤ length z
      by [] h = let none : length (fields (line_at [] 0)) ≡ 1 = refl in absurd (omega (arith, (second-field edition2 (fields (line_at [] 0)) h).0))
      by (b ∷ z) h = omega arith

  -- the new heading was refused with 2 at line 1
  pub the_new_heading_was_refused_with_2 : length s ≤ edition1.bytes → read_sheet editions_before s ≡ refused 2 1
  the_new_heading_was_refused_with_2 few = rw (edition_1_alone s) ((a_sheet_is_refused_for_its_cause edition1 s 2 1).1
      (by_line some_bytes few start some_bytes (cases (dec_lt (0 + length (line_at s 0)) (length s))
      (λ h. no_heading h refl (one_digit (fields (line_at s 0)) headed)) unended)))

  -- or with 1 where the sheet is longer than edition 1 allows
  pub the_new_heading_was_refused_with_1 : edition1.bytes < length s → read_sheet editions_before s ≡ refused 1 0
  the_new_heading_was_refused_with_1 long = rw (edition_1_alone s) ((a_sheet_is_refused_for_its_cause edition1 s 1 0).1 (by_length (inr long)))

  -- and nothing of the sheet was shown: every name was empty
  pub no_name_was_shown : (k : ℕ) → name_range editions_before s k ≡ (0, 0)
  unfolding name_range range_in
  no_name_was_shown k = cases (dec_lt edition1.bytes (length s))
      (λ long. rw (the_new_heading_was_refused_with_1 long)) (λ few. rw (the_new_heading_was_refused_with_2 (omega arith)))

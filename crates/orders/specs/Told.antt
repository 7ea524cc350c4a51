-- What the order of work tells, for every sheet and every lent list: each number for its cause and for no other, and the list after. Document 02, Card 3.
use Rattle.std.specs.Prelude.{◌≡◌, List, ◌++◌, ℕ, ◌≤◌, ◌<◌, length, drop}
use Rattle.std.proofs.Math.Path.{refl, ap}
use Rattle.std.proofs.Common.{arith}
use Rattle.std.proofs.Math.Decide.{dec_le}
use borrow.Author.Tests.{le-leb, lt-leb}
use Rattle.model.specs.Trimming.{elimination}
use Rattle.model.specs.Edition.{edition1, edition2, editions}
use Rattle.model.specs.Refusals.{refused_as}
use Rattle.model.specs.declared.Edition.{Edition}
use Rattle.lists.specs.Sums.{cases, contradiction}
use Rattle.theory_trees.specs.TreeTest.{length-elimination}
use Rattle.sheet.specs.Sheet.{Network, Read, refused, accepted, read_sheet, edition_of}
use Rattle.sheet.specs.Causes.{Refusal}
use Rattle.sheet.specs.Editions.{Headed, editions_before}
use Rattle.sheet.proofs.Editions.{other_sheets_are_read_as_before}
use Rattle.sheet.proofs.Editions.{the_new_heading_was_refused_with_2, the_new_heading_was_refused_with_1}
use Rattle.sheet.specs.Answers.{SheetNumber}
use Rattle.sheet.proofs.Answers.{refusals_have_sheet_numbers}
use Rattle.sheet.specs.SheetTheorem.{a_sheet_is_refused_for_its_cause}
use Rattle.orders.specs.Outcome.{Ordered, number, line_of, count_of, store, order_read, order_of}

-- refused with number k and line l: the count is 0 and the list keeps its values
pub record IsRefused (k l : ℕ) (list : List ℕ) (o : Ordered) : Type 0 where
  pub number-told : number o.outcome ≡ k
  pub line-told : line_of o.outcome ≡ l
  pub count-told : count_of o.outcome ≡ 0
  pub list_kept : o.list ≡ list

-- all sites taken: number 0, line 0 and their count; the list holds them in the order taken, and after them its values from before
pub record AllTaken (net : Network) (list : List ℕ) (o : Ordered) : Type 0 where
  pub number-told : number o.outcome ≡ 0
  pub line-told : line_of o.outcome ≡ 0
  pub count-told : count_of o.outcome ≡ length net.names
  pub list_filled : o.list ≡ elimination net.links (length net.names) ++ drop (length net.names) list

-- what the order of work over the sheet s, into the lent list l, comes to: the sheet is refused for a cause of its own; or it has none, and the list has
-- fewer places than the sheet has sites; or it has none, and all sites are told
pub data OrderTold (known : List Edition) (s l : List ℕ) : Type 0 where
  faulty_sheet : (k line : ℕ) → Refusal (edition_of known s) s k line → SheetNumber (edition_of known s).sizing k
      → IsRefused k line l (order_of known s l) → OrderTold known s l
  few_places : ((k line : ℕ) → ¬ (Refusal (edition_of known s) s k line)) → (net : Network) → read_sheet known s ≡ accepted net → length l < length net.names
      → IsRefused 9 0 l (order_of known s l) → OrderTold known s l
  all-taken : ((k line : ℕ) → ¬ (Refusal (edition_of known s) s k line)) → (net : Network) → read_sheet known s ≡ accepted net → length net.names ≤ length l
      → AllTaken net l (order_of known s l) → OrderTold known s l

module _ (known : List Edition) (s l : List ℕ) where
  abbrev sites-taken : Network → List ℕ
  sites-taken net = elimination net.links (length net.names)

  without-cause : (net : Network) → read_sheet known s ≡ accepted net → (k line : ℕ) → ¬ (Refusal (edition_of known s) s k line)
  without-cause net e k line c = let r = (a_sheet_is_refused_for_its_cause (edition_of known s) s k line).1 c in contradiction cc

  pub the_order_is_told_or_its_cause : OrderTold known s l
  unfolding order_of order_read store
  the_order_is_told_or_its_cause = by (read_sheet known s) refl
    where
      by : (r : Read) → read_sheet known s ≡ r → OrderTold known s l
      by (refused k line) e =
          let c = (a_sheet_is_refused_for_its_cause (edition_of known s) s k line).0 e in
          faulty_sheet k line c (refusals_have_sheet_numbers (edition_of known s) s c)
          (rw e (record { number-told = refl; line-told = refl; count-told = refl; list_kept = refl }))
      by (accepted net) e =
          let n = length-elimination net.links (length net.names) in
          cases (dec_le (length net.names) (length l))
          (λ h. all-taken (without-cause net e) net e h
          (rw (e, le-leb (length (sites-taken net)) (length l) (omega (arith, n)))
          (record { number-told = refl; line-told = refl; count-told = n; list_filled = rw n refl })))
          (λ h. few_places (without-cause net e) net e (omega arith)
          (rw (e, lt-leb (length (sites-taken net)) (length l) (omega (arith, n)))
          (record { number-told = refl; line-told = refl; count-told = refl; list_kept = refl })))

-- ---- Card 8

module _ (s l : List ℕ) where
  -- a sheet that is not headed as edition 2, as every sheet of edition 1, gets what it got
  pub other_sheets_are_ordered_as_before : ¬ (Headed edition2 s) → order_of editions s l ≡ order_of editions_before s l
  unfolding order_of
  other_sheets_are_ordered_as_before none = ap (order_read l) (other_sheets_are_read_as_before s none)

  module _ (headed : Headed edition2 s) where
    -- the new heading was refused with 2 at line 1, or with 1 where the sheet is longer than edition 1 allows, and the list kept its values
    pub the_new_heading_was_told_as_2 : length s ≤ edition1.bytes → order_of editions_before s l ≡ record { outcome = refused_as 2 1; list = l }
    unfolding order_of order_read
    the_new_heading_was_told_as_2 few = rw (the_new_heading_was_refused_with_2 s headed few)

    pub the_new_heading_was_told_as_1 : edition1.bytes < length s → order_of editions_before s l ≡ record { outcome = refused_as 1 0; list = l }
    unfolding order_of order_read
    the_new_heading_was_told_as_1 long = rw (the_new_heading_was_refused_with_1 s headed long)

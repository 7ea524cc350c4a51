-- `plan` prints the total of each entry of the exercise book for its sheet. By demand 2: the printed total is the largest of the tree, and so is the entry's.
use Rattle.std.specs.Prelude.{◌≡◌, List, ℕ, ◌≤◌, length, replicate}
use Rattle.std.proofs.Common.{sym, subst, arith}
use Rattle.lists.specs.Numbers.{look}
use Rattle.lists.specs.Sums.{contradiction}
use Rattle.model.specs.Limits.{REPORT}
use Rattle.model.specs.Edition.{editions}
use Rattle.model.specs.Flows.{Links, Multiflow, ends, total}
use Rattle.model.specs.declared.Pair.{Pair}
use Rattle.sheet.specs.Sheet.{edition_of}
use Rattle.sheet.specs.SheetTheorem.{a_sheet_is_refused_for_its_cause}
use Rattle.planner.specs.Outcome.{answered}
use Rattle.theory_book.specs.Listing.{In}
use Rattle.theory_book.proofs.ListLaws.{in_get_d}
use Rattle.theory_book.specs.Book.{Entry, Listed, exercise_book, halves}
use Rattle.theory_book.proofs.Entries.{every_entry_is_a_tree_with_its_sizes}
use Rattle.theory_book.specs.Totals.{pairs_in}
use Rattle.theory_book.proofs.Totals.{the_total_is_the_largest}
use Rattle.demands.specs.Printed.{Printed, read_report, bytes_printed}
use Rattle.demands.specs.Asked.{Demand2, IsReport, Prints, a_full_report, a-refusal}
use Rattle.demands.proofs.Demands.{the_program_prints_a_full_report_or_the_cause}
use Rattle.book_sheets.specs.Sheet.{sheet_of}
use Rattle.book_sheets.specs.Reads.{Fits}
use Rattle.book_sheets.proofs.ReadsLaws.{net}
use Rattle.book_sheets.proofs.ReadsLaws.{the_sheet_is_read_as_its_entry}
use Rattle.book_sheets.specs.Totals.{PrintsTotal}

-- plans over as many sites are plans over the entry's sites
as_many : (ls : Links) (n k : ℕ) (marks : List ℕ) (fs : List Pair) → k ≡ n → Multiflow ls k (look (ends ls k marks)) fs
    → Multiflow ls n (look (ends ls n marks)) fs
as_many ls n k marks fs c h = subst (λ i. Multiflow ls i (look (ends ls i marks)) fs) c h

module _ (e : Entry) (fits : Fits e) where
  -- the largest total is the entry's: each is at most the other
  the_same_total : (p : Printed) → Demand2 (net e fits) p → p.total ≡ halves e
  the_same_total p D =
      let R = the_sheet_is_read_as_its_entry e fits in
      let L = the_total_is_the_largest e fits.tree in
      let zeros : List ℕ = replicate e.sites 0 in
      let most = D.largest (pairs_in e) (as_many e.links (length (net e fits).names) e.sites zeros (pairs_in e) (sym R.count) L.plan) 2
      (omega arith) L.fits in
      let least = L.largest p.plan (as_many e.links e.sites (length (net e fits).names) zeros p.plan R.count D.printed_plan) 2
      D.printed_plan_fits in
      omega (arith, most, least, L.reached, D.reached)

  module _ (b : List ℕ) (room : REPORT ≤ length b) where
    -- the program prints a full report on the sheet of the entry, with its total
    pub plan_prints_the_total_of_an_entry : PrintsTotal e (bytes_printed (answered editions (sheet_of e) b))
    plan_prints_the_total_of_an_entry = by (the_program_prints_a_full_report_or_the_cause (sheet_of e) b room)
      where
        by : {r : List ℕ} → Prints IsReport (sheet_of e) r → PrintsTotal e r
        by {r} (a_full_report c R) =
            let its = the_sheet_is_read_as_its_entry e fits in
            let same : R.net ≡ net e fits = cc (R.read, its.read) in
            record {
              network = net e fits;
              read_as = its;
              report = R;
              total_printed = the_same_total (read_report (sheet_of e) (net e fits) r)
                  (subst (λ m. Demand2 m (read_report (sheet_of e) m r)) same R.meets_demand_2);
            }
        by {r} (a-refusal I) =
            let its = the_sheet_is_read_as_its_entry e fits in
            let refusal = (a_sheet_is_refused_for_its_cause (edition_of editions (sheet_of e)) (sheet_of e) _ _).1 I.cause in
            contradiction cc

-- so for each entry of the exercise book
listed-fits : (e : Entry) → Listed 2 4 2 e → Fits e
listed-fits e L = record {
  tree = L.drawn.tree;
  few = omega (arith, L.no_more);
  sized = L.sized;
  small = λ j h. omega (arith, L.small (look e.sizes j) (in_get_d e.sizes 0 j h));
}

pub plan_prints_every_total_of_the_book : (e : Entry) → In e exercise_book → (b : List ℕ) → REPORT ≤ length b
    → PrintsTotal e (bytes_printed (answered editions (sheet_of e) b))
plan_prints_every_total_of_the_book e i = plan_prints_the_total_of_an_entry e (listed-fits e (every_entry_is_a_tree_with_its_sizes 2 4 2 (omega arith) e i))

-- The number that tells an exchange, taken apart, gives the outcome's sheet, number, line and counts, for every two sheets and lists.
use Rattle.std.specs.Prelude.{◌≡◌, List, ℕ, ◌≤◌, length, Ok, Err}
use Rattle.std.proofs.Common.{ap, arith}
use Rattle.model.specs.Limits.{BYTES, LINKS}
use Rattle.model.specs.Edition.{editions}
use Rattle.sheet.proofs.Answers.{refusals_have_sheet_numbers}
use Rattle.sheet.proofs.Editions.{an_accepted_sheet_is_within_the_largest, a_line_at_fault_is_within_the_limit}
use Rattle.sheet.specs.Sheet.{Network, accepted, read_sheet, edition_of}
use Rattle.exchanges.specs.Outcome.{Outcome, sheet_of, number, line_of, first_of, second_of, exchanged}
use Rattle.exchanges.specs.Causes.{Cause, of_the_first, of_the_second, no_shared_link, first_list_too_short, second_list_too_short}
use Rattle.exchanges.specs.SharedLaws.{a_size_for_each_link}
use Rattle.exchanges.specs.Told.{ExchangeTold, for_its_cause, both-answered}
use Rattle.exchanges.proofs.Told.{the_exchange_is_told_or_its_cause}
use Rattle.packing.specs.Packed.{packed_regions, unpacked_text, unpacked_number, unpacked_line, unpacked_length}
use Rattle.packing.specs.Exchanged.{tells_refused, tells-answered, TellsExchange}

-- how large the numbers of an outcome are
record Bounded (o : Outcome) : Type 0 where
  pub sheet_small : sheet_of o ≤ 2
  pub number_small : number o ≤ 19
  pub line_small : line_of o ≤ BYTES
  pub first_small : (first_of o).count ≤ LINKS
  pub second_small : (second_of o).count ≤ LINKS

a_bounded_exchange_is_told : (o : Outcome) → Bounded o → TellsExchange (packed_regions o) o
unfolding packed_regions unpacked_text unpacked_number unpacked_line unpacked_length
a_bounded_exchange_is_told (Ok both) b =
    let few : both.first.count ≤ LINKS = b.first_small in
    let few2 : both.second.count ≤ LINKS = b.second_small in
    tells-answered {both = both} (omega arith) (omega arith) (omega arith) (omega arith)
a_bounded_exchange_is_told (Err r) b =
    let two : r.text ≤ 2 = b.sheet_small in
    let few : r.number ≤ 19 = b.number_small in
    let near : r.line ≤ BYTES = b.line_small in
    tells_refused {r = r} (omega arith) (omega arith) (omega arith)

module _ (s t l m : List ℕ) where
  abbrev outcome : Outcome
  outcome = (exchanged editions s t l m).outcome

  -- the links of an accepted sheet
  few_links : (r : List ℕ) (net : Network) → read_sheet editions r ≡ accepted net → length net.links ≤ LINKS
  few_links r net e = let n = an_accepted_sheet_is_within_the_largest r net e in omega (arith, n.few, n.tree.links)

  of_a_cause : {x k line : ℕ} → Cause editions s t l m x k line → (x ≤ 2) × (k ≤ 19) × (line ≤ BYTES)
  of_a_cause (of_the_first c) =
      (omega arith, omega (arith, (refusals_have_sheet_numbers (edition_of editions s) s c).known), a_line_at_fault_is_within_the_limit s c)
  of_a_cause (of_the_second net e c) =
      (omega arith, omega (arith, (refusals_have_sheet_numbers (edition_of editions t) t c).known), a_line_at_fault_is_within_the_limit t c)
  of_a_cause (no_shared_link R h) = (omega arith, omega arith, omega arith)
  of_a_cause (first_list_too_short X h) = (omega arith, omega arith, omega arith)
  of_a_cause (second_list_too_short X g h) = (omega arith, omega arith, omega arith)

  bounded : ExchangeTold editions s t l m → Bounded outcome
  bounded (for_its_cause c r) =
      let b = of_a_cause c in
      record {
        sheet_small = omega (arith, b, r.sheet-told);
        number_small = omega (arith, b, r.number-told);
        line_small = omega (arith, b, r.line-told);
        first_small = omega (arith, ap (λ a. a.count) r.first-told);
        second_small = omega (arith, ap (λ a. a.count) r.second-told);
      }
  bounded (both-answered {net} {other} X room r) = record {
    sheet_small = omega (arith, r.sheet-told);
    number_small = omega (arith, r.number-told);
    line_small = omega (arith, r.line-told);
    first_small = omega (arith, ap (λ a. a.count) r.first-told, (a_size_for_each_link X).0, few_links s net X.read.first);
    second_small = omega (arith, ap (λ a. a.count) r.second-told, (a_size_for_each_link X).1, few_links t other X.read.second);
  }

  -- the number returned, taken apart as the C header does, is the outcome's sheet, number, line and counts
  pub the_packed_number_tells_the_exchange : TellsExchange (packed_regions outcome) outcome
  the_packed_number_tells_the_exchange = a_bounded_exchange_is_told outcome (bounded (the_exchange_is_told_or_its_cause editions s t l m))

-- What a replay tells, for every sheet, every log and every lent list: each number for its cause and for no other, and the list after.
use Rattle.std.specs.Prelude.{◌≡◌, List, [], ℕ, ◌≤◌, ◌<◌, Ok}
use Rattle.std.proofs.Math.Path.{refl, ap}
use Rattle.std.proofs.Common.{inl, inr}
use native.Mathlib.Omega.{arith}
use Rattle.std.proofs.Math.Decide.{dec_le}
use borrow.Author.Tests.{le-leb, lt-leb}
use Rattle.std.proofs.Math.ListN.{length}
use Rattle.lists.specs.Sums.{cases}
use Rattle.model.specs.Limits.{LOGLINES, LOGBYTES}
use Rattle.model.specs.Edition.{edition1, edition2, editions}
use Rattle.model.specs.TextRefusals.{refused_in}
use Rattle.model.specs.declared.Edition.{Edition}
use Rattle.sheet.specs.Sheet.{Network, Read, refused, accepted, read_sheet, edition_of}
use Rattle.sheet.specs.Editions.{Headed, editions_before}
use Rattle.sheet.proofs.Editions.{other_sheets_are_read_as_before}
use Rattle.sheet.proofs.Editions.{the_new_heading_was_refused_with_2, the_new_heading_was_refused_with_1}
use Rattle.sheet.proofs.Answers.{refusals_have_sheet_numbers}
use Rattle.sheet.specs.SheetTheorem.{a_sheet_is_refused_for_its_cause}
use Rattle.model.specs.Booking.{answers}
use Rattle.log_requests.specs.Requests.{lines_from, lines, requests}
use Rattle.log_requests.specs.Sheets.{Sheet}
use Rattle.log_requests.proofs.Sheets.{an_accepted_sheet}
use Rattle.logs.specs.Outcome.{replay_over, replay_read, replayed}
use Rattle.logs.specs.Told.{ReplayTold, all-answered, faulty_sheet, few_places, long-log}

module _ (known : List Edition) (s log l : List ℕ) where
  module _ (net : Network) (e : read_sheet known s ≡ accepted net) where
    sheet : Sheet known s net
    sheet = an_accepted_sheet known s net e

    over-short-log : length log ≤ LOGBYTES → length (lines log) ≤ LOGLINES → ReplayTold known s log l
    unfolding replayed replay_read replay_over
    over-short-log g h = cases (dec_le (length (lines log)) (length l))
        (λ k. all-answered net sheet (record { bytes = g; few = h }) k
        (rw (e, le-leb _ _ g, le-leb _ _ h, le-leb _ _ k)
        (record { text-told = refl; number-told = refl; line-told = refl; count-told = refl; list_filled = refl })))
        (λ k. let i : length l < length (lines log) = omega arith in
        few_places net sheet (record { bytes = g; few = h }) i
        (rw (e, le-leb _ _ g, le-leb _ _ h, lt-leb _ _ i)
        (record { text-told = refl; number-told = refl; line-told = refl; count-told = refl; list_kept = refl })))

    over-log : ReplayTold known s log l
    unfolding replayed replay_read replay_over
    over-log = cases (dec_le (length log) LOGBYTES)
        (λ g. cases (dec_le (length (lines log)) LOGLINES)
        (over-short-log g)
        (λ h. let i : LOGLINES < length (lines log) = omega arith in
        long-log net sheet (inr i)
        (rw (e, le-leb _ _ g, lt-leb _ _ i) (record { text-told = refl; number-told = refl; line-told = refl; count-told = refl; list_kept = refl }))))
        (λ g. let i : LOGBYTES < length log = omega arith in
        long-log net sheet (inl i)
        (rw (e, lt-leb _ _ i) (record { text-told = refl; number-told = refl; line-told = refl; count-told = refl; list_kept = refl })))

  pub the_replay_is_told_or_its_cause : ReplayTold known s log l
  unfolding replayed replay_read
  the_replay_is_told_or_its_cause = by (read_sheet known s) refl
    where
      by : (r : Read) → read_sheet known s ≡ r → ReplayTold known s log l
      by (refused k line) e =
          let c = (a_sheet_is_refused_for_its_cause (edition_of known s) s k line).0 e in
          faulty_sheet k line c (refusals_have_sheet_numbers (edition_of known s) s c)
          (rw e (record { text-told = refl; number-told = refl; line-told = refl; count-told = refl; list_kept = refl }))
      by (accepted net) e = over-log net e

-- a log of 0 bytes has no lines: it is accepted with any list, which keeps its values (01: such a text is not refused for that)
pub a_log_of_0_bytes_is_accepted : (known : List Edition) (s l : List ℕ) (net : Network) → read_sheet known s ≡ accepted net
    → replayed known s [] l ≡ record { outcome = Ok 0; list = l }
unfolding replayed replay_read replay_over lines lines_from requests answers
a_log_of_0_bytes_is_accepted known s l net e = rw (e, le-leb 0 (length l) (omega arith)) refl

module _ (s log l : List ℕ) where
  -- a sheet that is not headed as edition 2, as every sheet of edition 1, gets what it got
  pub over_other_sheets_a_log_is_replayed_as_before : ¬ (Headed edition2 s) → replayed editions s log l ≡ replayed editions_before s log l
  unfolding replayed
  over_other_sheets_a_log_is_replayed_as_before none = ap (replay_read s log l) (other_sheets_are_read_as_before s none)

  module _ (headed : Headed edition2 s) where
    -- the new heading was refused with 2 at line 1, or with 1 where the sheet is longer than edition 1 allows, and the list kept its values
    pub the_new_heading_was_told_as_2 : length s ≤ edition1.bytes → replayed editions_before s log l ≡ record { outcome = refused_in 1 2 1; list = l }
    unfolding replayed replay_read
    the_new_heading_was_told_as_2 few = rw (the_new_heading_was_refused_with_2 s headed few)

    pub the_new_heading_was_told_as_1 : edition1.bytes < length s → replayed editions_before s log l ≡ record { outcome = refused_in 1 1 0; list = l }
    unfolding replayed replay_read
    the_new_heading_was_told_as_1 long = rw (the_new_heading_was_refused_with_1 s headed long)

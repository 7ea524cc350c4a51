-- What Card 7 changed in a log (document 02): where every end has one link, a log is answered as by the rule from before, which gave 6 unless the names were
-- those of two different ends. Since then no end stands between two others.
use Rattle.std.specs.Prelude.{Option, Some, None, Bool, List, [], ◌≡◌, ℕ, length, Result, Ok, Err}
use Rattle.std.proofs.Math.Bool.{false}
use Rattle.std.proofs.Math.Path.{refl, sym}
use Rattle.std.proofs.Common.{ap, ◌∙◌}
use borrow.Author.Tests.{eq-eqb, ne_eqb}
use Rattle.lists.specs.Numbers.{look}
use Rattle.lists.specs.Sums.{same?}
use Rattle.lists.specs.Maps.{map_same}
use Rattle.lists.specs.Tallies.{each_all}
use Rattle.model.specs.Flows.{Links, Tree}
use Rattle.model.specs.Booking.{answers}
use Rattle.model.specs.declared.Edition.{Edition}
use Rattle.model.specs.declared.Request.TheVariants as request
use Rattle.theory_trees.specs.Leaves.{Outer}
use Rattle.theory_trees.specs.FreePairs.{free_parts}
use Rattle.theory_trees.proofs.FreePairs.{outer_pairs_are_free}
use Rattle.text_lines.specs.Lines.{line_at}
use Rattle.sheet.specs.Sheet.{Network, read_sheet, accepted, edition_of}
use Rattle.sheet.specs.SheetTheorem.{an_accepted_sheet_is_a_tree}
use Rattle.log_lines.specs.declared.Booking.{Booking}
use Rattle.theory_trees.proofs.Ends.{unmarked_ends_are_leaves, unmarked_ends_are_outer}
use Rattle.sheet.specs.Marks.{WithoutMarks}
use Rattle.planner.specs.Unmarked.{leaves, unmarked}
use Rattle.log_requests.specs.Requests.{lines, line_of, between, request_by, request_at, requests, is_end}
use Rattle.logs.specs.Log.{answers_of}
use Rattle.log_requests.specs.RequestLaws.{Named}
use Rattle.log_requests.proofs.RequestLaws.{a_free_pair_is_asked_for, a_pair_that_is_not_free_gets_6}
use Rattle.log_requests.proofs.RequestLaws.{found_is_a_site}
use Rattle.logs.specs.Unmarked.{between_ends, request_before, requests_before}

module _ (s : List ℕ) (names : List (ℕ × ℕ)) {ls : Links} (T : Tree ls (length names)) (t : ℕ → ℕ) (O : Outer ls (length names) t) where
  between_as_before : (opens : Bool) (x : ℕ) (v w : Option ℕ) → Named (length names) v → Named (length names) w
      → between ls t opens x v w ≡ between_ends t opens x v w
  unfolding between between_ends
  between_as_before opens x None w g h = refl
  between_as_before opens x (Some a) None g h = refl
  between_as_before opens x (Some a) (Some b) g h = same? (t a) 1
      (λ p. same? (t b) 1
      (λ q. same? a b
      (λ e. a_pair_that_is_not_free_gets_6 ls t opens x a b (λ f. (free_parts ls t a b f).0 e) ∙ sym (rw (eq-eqb (t a) 1 p, eq-eqb (t b) 1 q, eq-eqb a b e)))
      (λ d. a_free_pair_is_asked_for ls t opens x a b (outer_pairs_are_free T t O a b g h p q d)
      ∙ sym (rw (eq-eqb (t a) 1 p, eq-eqb (t b) 1 q, ne_eqb a b d))))
      (λ d. a_pair_that_is_not_free_gets_6 ls t opens x a b (λ f. d (free_parts ls t a b f).2) ∙ sym (rw (eq-eqb (t a) 1 p, ne_eqb (t b) 1 d))))
      (λ d. a_pair_that_is_not_free_gets_6 ls t opens x a b (λ f. d (free_parts ls t a b f).1) ∙ sym (rw (ne_eqb (t a) 1 d)))

  request_as_before : (l : List ℕ) (w : Result Booking ℕ) → request_by s names ls t l w ≡ request_before s names t l w
  unfolding request_by request_before
  request_as_before l (Ok b) = between_as_before b.opens b.amount _ _ (found_is_a_site s _ names) (found_is_a_site s _ names)
  request_as_before l (Err k) = refl

  pub where_every_end_has_one_link_a_log_asks_what_it_asked_before : (log : List ℕ) → requests false s names ls t log ≡ requests_before s names t log
  unfolding requests request_at requests_before
  where_every_end_has_one_link_a_log_asks_what_it_asked_before log =
      map_same (request_at false s names ls t log) (λ at. request_before s names t (line_at log at) (line_of false log at)) (lines log)
      (each_all _ (λ at. request_as_before (line_at log at) (line_of false log at)) (lines log))

-- so over an accepted sheet whose ends have one link each every line gets the answer that it got
pub where_every_end_has_one_link_a_log_is_answered_as_before : (known : List Edition) (s : List ℕ) (net : Network) → read_sheet known s ≡ accepted net
    → Outer net.links (length net.names) (is_end net) → (log : List ℕ)
    → answers_of s net log ≡ answers net.links (look net.capacities) [] (requests_before s net.names (is_end net) log)
where_every_end_has_one_link_a_log_is_answered_as_before known s net e O log =
    ap (answers net.links (look net.capacities) [])
    (where_every_end_has_one_link_a_log_asks_what_it_asked_before s net.names
    (an_accepted_sheet_is_a_tree (edition_of known s) s net e).tree (is_end net) O log)

-- so over a sheet without marks, whose ends are the sites with one link
pub over_a_sheet_without_marks_a_log_is_answered_as_before : (known : List Edition) (s : List ℕ) → WithoutMarks s → (net : Network)
    → read_sheet known s ≡ accepted net
    → (log : List ℕ) → answers_of s net log
    ≡ answers net.links (look net.capacities) [] (requests_before s net.names (look (leaves net.links (length net.names))) log)
over_a_sheet_without_marks_a_log_is_answered_as_before known s none net e log =
    let n = length net.names in
    let unmarked-net = unmarked known s none net e in
    where_every_end_has_one_link_a_log_is_answered_as_before known s net e (unmarked_ends_are_outer net.links n net.marks unmarked-net) log
    ∙ ap (λ ends. answers net.links (look net.capacities) [] (requests_before s net.names (look ends) log))
    (unmarked_ends_are_leaves net.links n net.marks unmarked-net)

-- What is worked out of the lists of an accepted sheet in whole circuits is ready to be written: loads, sets, odd pieces and the pair list show its plan.
use Rattle.std.specs.Prelude.{◌≡◌, refl, List, ◌++◌, ℕ, ◌+◌, ◌≤◌, take, drop}
use Rattle.std.proofs.Math.Path.{sym, ap, fun_ext}
use Rattle.std.proofs.Common.{◌∙◌, append-nil, arith, zero-add, take_at}
use Rattle.std.proofs.Math.ListN.{length, length-map}
use Rattle.std.proofs.lemmas.List.Edits.{sets-eq}
use Rattle.model.specs.Edition.{largest}
use Rattle.model.specs.Limits.{SITES}
use Rattle.lists.specs.Numbers.{look, upfrom}
use Rattle.lists.specs.Places.{length-upfrom}
use Rattle.model.specs.Flows.{Links, Site, leaf}
use Rattle.model.specs.Parts.{pair_list_of_parts}
use Rattle.model.specs.Text.{bytes}
use Rattle.model.specs.Whole.{EndSets, LargestWhole, set_size, set_count, odd_pieces}
use Rattle.model.specs.WholeLoads.{whole_load, whole_loads, whole_owner}
use Rattle.model.specs.declared.Pair.{Pair}
use Rattle.model.specs.declared.Pairs.{Pairs}
use Rattle.theory_trees.proofs.Ends.{a_leaf_is_an_end}
use Rattle.tree.specs.Offer.{links}
use Rattle.tree.specs.Links.{length-links}
use Rattle.cuts_groups.specs.Places.{of_terminal, length-places}
use Rattle.cuts_groups.specs.Steps.{Owned, sets_of}
use Rattle.pairing_walk.specs.Visits.{Walkable}
use Rattle.sheet.specs.Sheet.{Network}
use Rattle.sheet.specs.SheetTheorem.{IsNetwork}
use Rattle.text_writers.specs.Wrote.{Wrote}
use Rattle.report.specs.Report.{lines, odd_line, whole_report}
use Rattle.report.specs.Shown.{shown_by}
use Rattle.planner.specs.Figures.{terminal, wholes, pairs_by, the_whole_report_shows_wholes}
use Rattle.planner.specs.WholeFigures.{wholes_are_largest, wholes_can_be_shown}
use Rattle.planner.specs.Shows.{Works}
use Rattle.planner.specs.Taken.{the_network_is_given, the_links_are_the_networks, the_network_is_a_tree_within, the_ends_are_the_networks}
use Rattle.planner.specs.Ready.{TakenApart, Charted, ReadyBy}
use Rattle.planner.specs.Works.{place, terminal-place, figures_are_ready}

module _ {s : List ℕ} {net : Network} (N : IsNetwork largest s net) where
  abbrev n : ℕ
  n = length net.names

  abbrev c : ℕ → ℕ
  c = look net.capacities

  abbrev owner : ℕ → ℕ
  owner = whole_owner net.links n (terminal net) c

  wholes_are_worked_out : (terminals : List ℕ) (cuts : Owned) (before : List ℕ) (ps : List Pair) → look terminals ≡ terminal net
      → cuts ≡ sets_of net.links n (terminal net) c owner → before ≡ odd_line (odd_pieces net.links n c owner) → ps ≡ pairs_by net (wholes net)
      → Works net (wholes net) terminals cuts.owner cuts.size cuts.count before ps
  unfolding sets_of lines
  wholes_are_worked_out terminals cuts before ps marked cut line listed = record {
    marked = marked;
    own = λ i l. rw cut (place N owner i l);
    cut = λ i l e. rw cut (terminal-place N (set_size net.links c owner) i l e);
    members = λ i l e. rw cut (terminal-place N (set_count n owner) i l e);
    lined = line ∙ sym (append-nil (odd_line (odd_pieces net.links n c owner)));
    paired = listed;
  }

-- there is a place for each site in the lists of sets
pub sets_have_places : (ls : Links) (n : ℕ) (terminal c owner : ℕ → ℕ) → n ≤ SITES → (cuts : Owned) → cuts ≡ sets_of ls n terminal c owner
    → (SITES ≡ length cuts.owner) × (SITES ≡ length cuts.size) × (SITES ≡ length cuts.count)
unfolding sets_of
sets_have_places ls n terminal c owner few cuts e = rw e (
  sym (length-places owner n few),
  sym (length-places (of_terminal terminal (set_size ls c owner)) n few),
  sym (length-places (of_terminal terminal (set_count n owner)) n few),
)

-- the lists of an accepted sheet, and what is worked out of them in whole circuits
pub whole_circuits_are_ready : {s starting stopping : List ℕ} {n : ℕ} {one two c : List ℕ} (a : TakenApart s starting stopping n one two c)
    → (shown terminals : List ℕ) (cuts : Owned) (before : List ℕ) (ps : Pairs)
    → look terminals ≡ terminal a.net
    → shown ≡ whole_loads (links one two) n (look terminals) (look c)
    → cuts ≡ sets_of (links one two) n (look terminals) (look c) (whole_owner (links one two) n (look terminals) (look c))
    → before ≡ odd_line (odd_pieces (links one two) n (look c) (whole_owner (links one two) n (look terminals) (look c)))
    → take ps.count ps.list ≡ pair_list_of_parts (links one two) n (look shown) (look terminals)
    → ps.count ≤ length ps.list
    → ReadyBy whole_report s starting stopping
    (shown_by (bytes "whole") before s starting stopping n one two c shown terminals cuts.owner cuts.size cuts.count ps) ps
whole_circuits_are_ready {s} {starting} {stopping} {n} {one} {two} {c} a shown terminals cuts before ps told =
    let ls = the_links_are_the_networks a in
    let N = the_network_is_given a in
    rw (ls, told, a.counted, a.sizes, a.started, a.stopped, a.firsts, a.seconds) (λ e. rw e (λ cut line listed held.
    let places = sets_have_places a.net.links (length a.net.names) (terminal a.net) (look a.net.capacities)
    (whole_owner a.net.links (length a.net.names) (terminal a.net) (look a.net.capacities)) N.few cuts cut in
    figures_are_ready N (wholes a.net) (wholes_can_be_shown a.net N.tree) ps
    (wholes_are_worked_out N terminals cuts before (take ps.count ps.list) told cut line listed)
    (omega (arith, places.0, N.few), omega (arith, places.1, N.few), omega (arith, places.2, N.few))
    held (the_whole_report_shows_wholes a.net s) a.read))

-- ---- from what the inner functions promise

module _ {s starting stopping : List ℕ} {n : ℕ} {one two c : List ℕ} (a : TakenApart s starting stopping n one two c)
    {order terminals last before : List ℕ} (chart : Charted a order terminals last before) where
  abbrev ls : Links
  ls = links one two

  pub every_leaf_is_an_end : (v : ℕ) → Site n v → leaf ls v ≡ 1 → look terminals v ≡ 1
  every_leaf_is_an_end v p e =
      ap (λ (f : ℕ → ℕ). f v) (chart.marked ∙ sym (the_ends_are_the_networks a)) ∙ a_leaf_is_an_end ls n a.net.marks v p.1 e

  -- all that Card 2 says holds of the loads and the sets taken
  pub the_largest_are_taken : (loads : List ℕ) → loads ≡ whole_loads ls n (look terminals) (look c)
      → LargestWhole ls n (look terminals) (look c) (look loads) (whole_owner ls n (look terminals) (look c))
  the_largest_are_taken loads e =
      let N = the_network_is_given a in
      let l = the_links_are_the_networks a in
      rw (e, l, chart.marked, a.counted, a.sizes) (wholes_are_largest a.net N.tree)

  -- the loads can be walked: there is one for each link, they are within the limits, and no inner site has a heavy link
  pub whole_loads_can_be_walked : (loads : List ℕ) → loads ≡ whole_loads ls n (look terminals) (look c)
      → (length loads ≡ length one) × Walkable n terminals last before one two loads
  unfolding whole_loads
  whole_loads_can_be_walked loads e =
      let w = the_network_is_a_tree_within a in
      let taken = the_largest_are_taken loads e in
      let all = length-links one two (omega (arith, w.firsts, w.seconds)) in
      let each : length loads ≡ length one =
      ap length e ∙ length-map (upfrom 0 (length ls)) (whole_load ls n (look terminals) (look c)) ∙ length-upfrom 0 (length ls) ∙ all in (
        each,
        record {
          tree = record {
            tree = w.tree;
            few = w.few;
            firsts = w.firsts;
            seconds = w.seconds;
            capacities = omega (arith, each, w.firsts);
            limited = λ j h. omega (arith, taken.loads.below j (omega (arith, each, all)), w.limited j (omega (arith, each, w.firsts, w.capacities)));
          };
          chained = chart.chained;
          balanced = taken.loads.balanced;
        },
      )

  -- the front of a list that begins with the loads
  pub the_front_is_the_loads : (list rest : List ℕ) → list ≡ whole_loads ls n (look terminals) (look c) ++ rest
      → take (length one) list ≡ whole_loads ls n (look terminals) (look c)
  the_front_is_the_loads list rest e =
      ap (take (length one)) e
      ∙ take_at (whole_loads ls n (look terminals) (look c)) rest (length one) (whole_loads_can_be_walked (whole_loads ls n (look terminals) (look c)) refl).0

  -- labels that hold the owners taken are end sets
  pub the_labels_are_end_sets : (labels : List ℕ) → ((x : ℕ) → look labels x ≡ whole_owner ls n (look terminals) (look c) x)
      → EndSets n (look terminals) (look labels)
  the_labels_are_end_sets labels e = rw (fun_ext e) (the_largest_are_taken (whole_loads ls n (look terminals) (look c)) refl).sets

-- a text written at the start of a buffer long enough stands there
pub the_text_stands_at_the_front : {b after text : List ℕ} {r : ℕ} → Wrote b 0 text after r → r ≤ length b → take r after ≡ text
the_text_stands_at_the_front {b} {after} {text} {r} w h =
    let e : r ≡ length text = omega (arith, w.next) in
    let a : after ≡ text ++ drop (length text) b = w.stored ∙ sets-eq text b 0 (omega arith) ∙ ap (λ i. text ++ drop i b) (zero-add (length text)) in
    rw (a, e) (take_at text (drop (length text) b) (length text) refl)

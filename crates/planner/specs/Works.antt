-- What is worked out of the lists of an accepted sheet is ready to be written: balanced capacities, terminal cuts and the pair list show its plan.
use Rattle.std.specs.Prelude.{◌≡◌, refl, List, [], ◌∷◌, ◌++◌, map, ℕ, zero, suc, ◌+◌, ◌-◌, ◌≤◌, ◌<◌, get_or, drop}
use Rattle.std.proofs.Math.Path.{sym, ap}
use Rattle.std.proofs.Common.{subst, ◌∙◌, inl, inr, arith, one-add, length-append, get_or-take, length-take-le}
use Rattle.std.proofs.Math.ListN.{length, take, get_or-map}
use Rattle.std.proofs.lemmas.List.{length-map}
use Rattle.std.proofs.Math.Seq.{take_at}
use Rattle.model.specs.Limits.{SITES}
use Rattle.model.specs.Edition.{editions, largest}
use Rattle.lists.specs.Numbers.{look, Each}
use Rattle.model.specs.Flows.{Links, Site, Route, one, two, ends as ends_of}
use Rattle.model.specs.Trimming.{Balanced, balanced}
use Rattle.model.specs.Cuts.{cut_size, cut_count, owner}
use Rattle.model.specs.Pairing.{ordered}
use Rattle.model.specs.Parts.{pair_list_of_parts}
use Rattle.model.specs.Text.{bytes}
use Rattle.model.specs.declared.Pair.{Pair}
use Rattle.model.specs.declared.Pairs.{Pairs}
use Rattle.tree.specs.Offer.{links}
use Rattle.trimming.specs.Outcome.{capacities}
use Rattle.trimming.specs.Promise.{Promise, capacities_keep_the_promise, promised_within}
use Rattle.cuts_groups.specs.Places.{places, of_terminal, length-places, look-places, of_terminal_lem}
use Rattle.cuts_groups.specs.Steps.{Owned, owned}
use Rattle.pairing_walk.specs.Visits.{Walkable, listing}
use Rattle.pairing_walk.specs.Laws.{listing_counts, listing-holds}
use Rattle.pairing_order.specs.Laws.{ordering_keeps_length}
use Rattle.sheet.specs.Sheet.{Network, accepted, read_sheet}
use Rattle.sheet.specs.SheetTheorem.{IsNetwork}
use Rattle.report.specs.Report.{lines, report_of}
use Rattle.report.specs.Shown.{Named, AllNamed, Owners, Paired, no_pair_lem, shown_by, Links as Linked}
use Rattle.planner.specs.Outcome.{Reporter}
use Rattle.planner.specs.Figures.{Figures, Showable, terminal, halves, pairs_by, plan_showing, halves_can_be_shown, the_report_shows_halves}
use Rattle.planner.specs.Small.{few_links, pairs_shown_are_sound, total-shown-within, figures_are_small}
use Rattle.planner.specs.Shows.{starts, stops, ranges, Works, plan_by, the_lists_show_the_figures}
use Rattle.planner.specs.Taken.{padded-length, the_network_is_given, the_links_are_the_networks}
use Rattle.planner.specs.Taken.{the_network_is_a_marked_tree, the_ends_are_the_networks}
use Rattle.planner.specs.Ready.{TakenApart, Charted, ReadyBy, Ready}

-- ---- names

module _ {s : List ℕ} {net : Network} (N : IsNetwork largest s net) where
  pub sites_are_named : AllNamed s (starts net) (stops net) (length net.names)
  sites_are_named v l k =
      let i = v - 1 in
      let range = N.names i (omega arith) in
      let e = ranges net i in
      let a : look (starts net) i ≡ (get_or net.names i (0, 0)).0 = ap (λ r. r.0) e in
      let b : look (stops net) i ≡ (get_or net.names i (0, 0)).1 = ap (λ r. r.1) e in
      let few : length net.names ≤ SITES = N.few in
      record {
        above = l;
        in_starts = omega (arith, padded-length SITES (map (λ r. r.0) net.names) (omega (arith, length-map net.names (λ r. r.0))));
        in_stops = omega (arith, padded-length SITES (map (λ r. r.1) net.names) (omega (arith, length-map net.names (λ r. r.1))));
        forward = rw (a, b) range.start;
        within = rw b range.end;
      }

  pub named_site : (v : ℕ) → Site (length net.names) v → Named s (starts net) (stops net) v
  named_site v p = sites_are_named v p.0 p.1

module _ {s : List ℕ} {net : Network} (N : IsNetwork largest s net) (f : Figures) (h : Showable net f) where
  abbrev size : ℕ
  size = length net.names

  abbrev ls : Links
  ls = net.links

  -- ---- links

  links_join_named_sites : Linked s (starts net) (stops net) (map (λ l. l.0) ls) (map (λ l. l.1) ls) net.capacities f.shown
  links_join_named_sites =
      let o = length-map ls (λ l. l.0) in
      record {
        twos-length = length-map ls (λ l. l.1) ∙ sym o;
        capacities-length = N.capacities ∙ sym o;
        shown-length = h.each-link ∙ sym o;
        named = λ j l. let k : j < length ls = omega arith in
            rw (get_or-map (λ l. l.0) ls j (0, 0), get_or-map (λ l. l.1) ls j (0, 0))
            (named_site N (one ls j) (N.tree.ends j k).0, named_site N (two ls j) (N.tree.ends j k).1);
      }

  -- ---- pairs

  pairs_join_named_sites : (es : List Pair) → Each (Route ls size (terminal net)) es → (i : ℕ) → i < length es
      → Named s (starts net) (stops net) (get_or es i no_pair_lem).first × Named s (starts net) (stops net) (get_or es i no_pair_lem).second
  pairs_join_named_sites [] r i l = absurd (omega arith)
  pairs_join_named_sites (e ∷ es) r zero l = (named_site N e.first r.0.first-site, named_site N e.second r.0.second-site)
  pairs_join_named_sites (e ∷ es) r (suc i) l = pairs_join_named_sites es r.1 i (omega arith)

  -- ---- all of it

  module _ {terminals owners sizes counts before : List ℕ} (ps : Pairs) (w : Works net f terminals owners sizes counts before (take ps.count ps.list))
      (places : (size ≤ length owners) × (size ≤ length sizes) × (size ≤ length counts))
      (held : ps.count ≤ length ps.list) where
    pairs-are-few : ps.count ≤ length ls
    pairs-are-few = omega (arith, (pairs_shown_are_sound N f h).few, ap length w.paired, length-take-le ps.count ps.list held)

    owners-are-named : Owners s (starts net) (stops net) owners size
    owners-are-named = record {
      held = places.0;
      named = λ i l d. rw (w.own i l) (elim (h.owned (1 + i) (omega arith, omega arith)) [
        | inl r ↦ absurd (d (w.own i l ∙ r))
        | inr r ↦ named_site N _ r.0
      ]);
    }

    pairs-can-be-written : Paired s (starts net) (stops net) ps.list ps.count
    pairs-can-be-written = record {
      few = omega (arith, pairs-are-few, few_links N);
      held = held;
      named = λ i l.
          let named = pairs_join_named_sites (pairs_by net f) (pairs_shown_are_sound N f h).routes i
          (omega (arith, ap length w.paired, length-take-le ps.count ps.list held)) in
          rw (← w.paired, get_or-take ps.count ps.list i no_pair_lem l) at named;
    }

    pub figures_are_ready : {text : Reporter} → text s net ≡ report_of (plan_showing net s f) → read_sheet editions s ≡ accepted net
        → ReadyBy text s (starts net) (stops net) (plan_by net f s terminals owners sizes counts before ps) ps
    figures_are_ready told read =
        let shows = the_lists_show_the_figures net f s ps w in
        record {
          net = net;
          read = read;
          shows = shows ∙ sym told;
          writable = record {
            few = N.few;
            named = sites_are_named N;
            linked = links_join_named_sites;
            owned = owners-are-named;
            sized = places.1;
            counted = places.2;
            paired = pairs-can-be-written;
            small = rw w.paired (total-shown-within N f h);
            room = rw shows (omega (arith, figures_are_small N f h));
          };
        }

-- ---- in halves

module _ {s : List ℕ} {net : Network} (N : IsNetwork largest s net) where
  abbrev count : ℕ
  count = length net.names

  abbrev c : ℕ → ℕ
  c = look net.capacities

  abbrev t : ℕ → ℕ
  t = look (halves net).shown

  pub place : (g : ℕ → ℕ) (i : ℕ) → i < count → look (places count g) i ≡ g (1 + i)
  place g i l = look-places g count i l ∙ ap g (sym (one-add i))

  pub terminal-place : (g : ℕ → ℕ) (i : ℕ) → i < count → terminal net (1 + i) ≡ 1 → look (places count (of_terminal (terminal net) g)) i ≡ g (1 + i)
  terminal-place g i l e = place (of_terminal (terminal net) g) i l ∙ of_terminal_lem (terminal net) g (1 + i) e

  halves_are_worked_out : (terminals : List ℕ) (cuts : Owned) (ps : List Pair) → look terminals ≡ terminal net
      → cuts ≡ owned net.links count (terminal net) c t → ps ≡ pairs_by net (halves net)
      → Works net (halves net) terminals cuts.owner cuts.size cuts.count [] ps
  unfolding owned lines
  halves_are_worked_out terminals cuts ps marked cut listed = record {
    marked = marked;
    own = λ i l. rw cut (place (owner net.links c t (terminal net) count) i l);
    cut = λ i l e. rw cut (terminal-place (cut_size net.links c t) i l e);
    members = λ i l e. rw cut (terminal-place (cut_count net.links c t count) i l e);
    lined = refl;
    paired = listed;
  }

-- there is a place for each site in the lists of cuts
pub owned_has_places : (ls : Links) (n : ℕ) (terminal c t : ℕ → ℕ) → n ≤ SITES → (cuts : Owned) → cuts ≡ owned ls n terminal c t
    → (SITES ≡ length cuts.owner) × (SITES ≡ length cuts.size) × (SITES ≡ length cuts.count)
unfolding owned
owned_has_places ls n terminal c t few cuts e = rw e (
  sym (length-places (owner ls c t terminal n) n few),
  sym (length-places (of_terminal terminal (cut_size ls c t)) n few),
  sym (length-places (of_terminal terminal (cut_count ls c t n)) n few),
)

-- the lists of an accepted sheet, and what is worked out of them in halves
pub what_is_worked_out_is_ready : {s starting stopping : List ℕ} {n : ℕ} {one two c : List ℕ} (a : TakenApart s starting stopping n one two c)
    → (shown terminals : List ℕ) (cuts : Owned) (ps : Pairs)
    → look terminals ≡ terminal a.net
    → shown ≡ balanced (links one two) n (look terminals) c
    → cuts ≡ owned (links one two) n (look terminals) (look c) (look shown)
    → take ps.count ps.list ≡ pair_list_of_parts (links one two) n (look shown) (look terminals)
    → ps.count ≤ length ps.list
    → Ready s starting stopping (shown_by (bytes "plan") [] s starting stopping n one two c shown terminals cuts.owner cuts.size cuts.count ps) ps
what_is_worked_out_is_ready {s} {starting} {stopping} {n} {one} {two} {c} a shown terminals cuts ps told =
    let ls = the_links_are_the_networks a in
    let N = the_network_is_given a in
    rw (ls, told, a.counted, a.sizes, a.started, a.stopped, a.firsts, a.seconds) (λ e. rw e (λ cut listed held.
    let places = owned_has_places a.net.links (length a.net.names) (terminal a.net) (look a.net.capacities)
    (look (halves a.net).shown) N.few cuts cut in
    figures_are_ready N (halves a.net) (halves_can_be_shown a.net N.tree) ps
    (halves_are_worked_out N terminals cuts (take ps.count ps.list) told cut listed)
    (omega (arith, places.0, N.few), omega (arith, places.1, N.few), omega (arith, places.2, N.few))
    held (the_report_shows_halves a.net s) a.read))

-- ---- from what the inner functions promise

module _ {s starting stopping : List ℕ} {n : ℕ} {one two c : List ℕ} (a : TakenApart s starting stopping n one two c) where
  -- the front of a list that begins with the balanced capacities keeps the promise of trimming
  pub the_front_keeps_the_promise : (ends : ℕ → ℕ) → ends ≡ terminal a.net → (list rest : List ℕ)
      → list ≡ balanced (links one two) n ends c ++ rest
      → (take (length one) list ≡ balanced (links one two) n ends c) × Promise n one two a.net.marks c (take (length one) list)
  unfolding capacities
  the_front_keeps_the_promise ends marked list rest e =
      let promise = capacities_keep_the_promise (the_network_is_a_marked_tree a) in
      let same : ends ≡ look (ends_of (links one two) n a.net.marks) = marked ∙ sym (the_ends_are_the_networks a) in
      let long : length (balanced (links one two) n ends c) ≡ length one = rw same promise.each in
      let front : take (length one) list ≡ balanced (links one two) n ends c =
      ap (take (length one)) e ∙ take_at (balanced (links one two) n ends c) rest (length one) long in
      (front, rw (front, same) promise)

  -- what keeps the promise of trimming can be walked
  pub the_promised_can_be_walked : {order terminals last before : List ℕ} → Charted a order terminals last before
      → (t : List ℕ) → Promise n one two a.net.marks c t → Walkable n terminals last before one two t
  the_promised_can_be_walked chart t p = record {
    tree = (promised_within (the_network_is_a_marked_tree a) t p).within;
    chained = chart.chained;
    balanced = subst (λ (f : ℕ → ℕ). Balanced (links one two) f (look t)) (the_ends_are_the_networks a ∙ sym chart.marked) p.greatest.balanced;
  }

-- pairs put in order are the pair list
pub pairs_in_order : (es : List Pair) (made ps : Pairs) → made ≡ listing es
    → (ps.count ≡ made.count) × (ps.list ≡ ordered (take made.count made.list) ++ drop made.count made.list)
    → (take ps.count ps.list ≡ ordered es) × (ps.count ≤ length ps.list)
pairs_in_order es made ps l h =
    let held : take made.count made.list ≡ es = rw l (listing-holds es) in
    let e : ps.list ≡ ordered es ++ drop made.count made.list = rw held at h.1 in
    let k : ps.count ≡ length (ordered es) = h.0 ∙ ap (λ r. r.count) l ∙ listing_counts es ∙ sym (ordering_keeps_length es) in (
      rw (e, k) (take_at (ordered es) (drop made.count made.list) (length (ordered es)) refl),
      rw (e, k) (omega (arith, length-append (ordered es) (drop made.count made.list))),
    )

-- What a step is given and gives: every number fits, the path tells what is overfilled, and the arrays hold what is opened or given up.
use mathlib.Core.Path.{◌≡◌, refl, sym, ap, ap₂, ◌∙◌}
use mathlib.Core.Logic.{◌≢◌}
use mathlib.Core.List.{List, [], ◌∷◌, map}
use Prim.Native.Nat.{ℕ, ◌+◌, ◌-◌, ◌*◌, ◌≤◌, ◌<◌}
use native.Mathlib.Decide.{dec_lt}
use native.Mathlib.Omega.{arith}
use lib.ListN.{length, length-map, get_or-eq_default}
use Rattle.model.specs.Limits.{AMOUNT, OPEN, SITES}
use Rattle.lists.specs.Numbers.{pick, look, upfrom, Each}
use Rattle.lists.specs.Sums.{pick_same, pick_other, pick_const, same?, cases}
use Rattle.lists.specs.Places.{length-upfrom, look_values}
use Rattle.model.specs.Flows.{Links, Tree, separates, load}
use Rattle.model.specs.Pairing.{lower_first}
use Rattle.model.specs.Booking.{open_of, grow, shrink, overfilled, answer_open, answer, changed, next, Proper, Entry}
use Rattle.model.specs.declared.Pair.{Pair}
use Rattle.model.specs.declared.Request.{Request}
use Rattle.model.specs.declared.Request.TheVariants.{Open, GiveUp, Fault}
use Rattle.tree.specs.Offer.{links}
use Rattle.tree.specs.Links.{length-links}
use Rattle.tree_sets.specs.Members.{member}
use Rattle.tree_sets.specs.declared.Set.{Set}
use Rattle.theory_log.specs.Pairs.{grow-load, shrink-load}
use Rattle.theory_log.specs.Answers.{overfilled-some, overfilled_by, says_15, says_16, opens_new, opens_more, says_14, gives_up}
use Rattle.theory_log.specs.Requests.{lower_amount, lower_entry, entry_at, an_open_amount_is_at_most_twice_a_capacity}
use Rattle.log_paths.specs.Tables.{PathBy}
use Rattle.log_paths.specs.Laws.{what_is_no_link_separates_nothing, a_path_has_links_only}
use Rattle.log_pairs.specs.Arrays.{none, pairs_of, Held, FirstPlace, Growing}
use Rattle.log_pairs.specs.declared.OpenPairs.{OpenPairs}
use Rattle.log_pairs.specs.Found.{a_pair_that_is_found_has_its_amount_open, a_pair_that_is_not_found_has_nothing_open}
use Rattle.log_pairs.specs.Rows.{length-entries, entries_at}
use Rattle.log_steps.specs.Loads.{Measured, Passing, Raising, Lowering, raised, lowered}
use Rattle.log_steps.specs.Steps.{Given, Holds, Standing, Answered, Wanted, Opened, GivenUp}

-- the loads behind the links are 0
load-none : {ls : Links} {n : ℕ} → Tree ls n → (es : List Pair) → Each (Entry n) es → (j : ℕ) → length ls ≤ j → load ls es j ≡ 0
unfolding load
load-none T [] h j l = refl
load-none T (e ∷ es) h j l =
    rw (what_is_no_link_separates_nothing T j e.first e.second l h.0.first-site h.0.second-site) (omega (arith, load-none T es h.1 j l))

look_map_past : (f : ℕ → ℕ) (j : ℕ) → SITES ≤ j → look (map f (upfrom 0 SITES)) j ≡ 0
look_map_past f j h = get_or-eq_default (map f (upfrom 0 SITES)) 0 {n = j} (omega (arith, length-map (upfrom 0 SITES) f, length-upfrom 0 SITES))

module _ {n : ℕ} {one two c rows l : List ℕ} {ps : OpenPairs} (g : Given n one two c rows) (t : Standing (links one two) n (look c) ps l) where
  pub many : length (links one two) ≡ length c
  many = let w = g.within in length-links one two (omega arith) ∙ omega arith

  pub load_small : (j : ℕ) → look l j ≤ AMOUNT
  load_small j = cases (dec_lt j (length (links one two)))
      (λ i. omega (arith, t.holds.loads j, t.kept.fits j i, g.within.limited j (omega (arith, many))))
      (λ i. omega (arith, t.holds.loads j, load-none g.within.tree (pairs_of ps) t.kept.entries j (omega arith)))

  pub amount_small : (k : ℕ) → k < ps.count → (1 ≤ look ps.amounts k) × (look ps.amounts k ≤ AMOUNT)
  amount_small k i =
      let es = pairs_of ps in
      let inside : k < length es = omega (arith, length-entries ps.pairs ps.amounts ps.count) in
      let e = rw (entries_at ps.pairs ps.amounts ps.count k i) at (entry_at (links one two) n (look c) es t.kept none k inside) in
      let r = an_open_amount_is_at_most_twice_a_capacity (links one two) n (look c) g.within.tree es t.kept none k inside in
      let below = rw (entries_at ps.pairs ps.amounts ps.count k i) at r.2 in
      (e.some, omega (arith, below, g.within.limited r.0 (omega (arith, many, r.1))))

  -- refused: nothing is moved
  stays : (a : ℕ) (es : List Pair) → a ≢ 0 → Holds (links one two) (pick a 0 es (pairs_of ps)) ps l
  stays a es d = rw (pick_other d) t.holds

  module _ {p : Pair} (w : Wanted n p) where
    pub sites-low : (p.first ≤ SITES) × (p.second ≤ SITES)
    sites-low =
        let few = g.within.few in
        (omega (arith, w.entry.first-site), omega (arith, w.entry.second-site))

    module _ (path : Set) (by : PathBy rows p.first p.second path) where
      on-path : (j : ℕ) → member path j ≡ separates (links one two) j p.first p.second
      on-path j = by (links one two) n g.within.tree g.table w.entry.first-site w.entry.second-site j

      links-only : (j : ℕ) → member path j ≡ 1 → j < length c
      links-only j o = omega (arith, many, a_path_has_links_only g.within.tree path g.table w.entry.first-site w.entry.second-site by j o)

      pub measured : Measured path p.amount c l
      measured = record { few = let v = g.within in omega arith; links = links-only; capacities = g.within.limited; loads = load_small; small = w.limited }

      pub raising : Raising path p.amount l
      raising = record { places = t.holds.places; room = λ j. omega (arith, load_small j, w.limited) }

      -- what the walk over the path tells
      pub passing_overfills : Passing path p.amount c l → overfilled (links one two) (look c) (pairs_of ps) p ≢ 0
      passing_overfills o = overfilled_by (links one two) (look c) (pairs_of ps) p (record {
        link = o.link;
        inside = omega (arith, many, links-only o.link o.on);
        on = sym (on-path o.link) ∙ o.on;
        over = omega (arith, o.over, t.holds.loads o.link);
      })

      pub passing-none : (Passing path p.amount c l → ⊥) → overfilled (links one two) (look c) (pairs_of ps) p ≡ 0
      passing-none never = same? (overfilled (links one two) (look c) (pairs_of ps) p) 0
          (λ z. z)
          (λ d. let o = overfilled-some (links one two) (look c) (pairs_of ps) p d in
          absurd (never (record { link = o.link; on = on-path o.link ∙ o.on; over = omega (arith, o.over, t.holds.loads o.link) })))

      -- a place behind the links
      beyond-links : (j : ℕ) → SITES ≤ j → (load (links one two) (pairs_of ps) j ≡ 0) × (separates (links one two) j p.first p.second ≡ 0)
      beyond-links j h =
          let past : length (links one two) ≤ j = omega (arith, many, g.within.few, g.within.capacities) in (
            load-none g.within.tree (pairs_of ps) t.kept.entries j past,
            what_is_no_link_separates_nothing g.within.tree j p.first p.second past w.entry.first-site w.entry.second-site,
          )

      -- more
      pub opened-holds : {ps' : OpenPairs} {l' : List ℕ} → l' ≡ raised path p.amount l
          → Held (grow p.first p.second p.amount (pairs_of ps)) ps'
          → Holds (links one two) (grow p.first p.second p.amount (pairs_of ps)) ps' l'
      unfolding raised
      opened-holds e h = record {
        pairs = h;
        places = ap length e ∙ length-map (upfrom 0 SITES) _ ∙ length-upfrom 0 SITES;
        loads = λ j. ap (λ z. look z j) e ∙ cases (dec_lt j SITES)
            (λ i. look_values (λ j. look l j + p.amount * member path j) SITES j i ∙ ap₂ (λ u v. u + p.amount * v) (t.holds.loads j) (on-path j)
            ∙ sym (grow-load p.first p.second p.amount (links one two) j (pairs_of ps)))
            (λ i. let z = beyond-links j (omega arith) in
            look_map_past (λ j. look l j + p.amount * member path j) j (omega arith)
            ∙ sym (grow-load p.first p.second p.amount (links one two) j (pairs_of ps) ∙ rw (z.0, z.1) (omega arith)));
      }

      -- ---- an opening, answered

      pub answered_15 : Passing path p.amount c l
          → Opened (links one two) (look c) (pairs_of ps) p ps l 15
      answered_15 o =
          let e = says_15 (links one two) (look c) (pairs_of ps) p (passing_overfills o) in
          record { told = sym e; holds = stays _ _ (λ z. omega (arith, e, z)) }

      module _ (fits : Passing path p.amount c l → ⊥) {k : ℕ} (place : FirstPlace ps.pairs p.first p.second ps.count k) where
        pub answered_16 : k ≡ OPEN → Opened (links one two) (look c) (pairs_of ps) p ps l 16
        answered_16 z =
            let few = t.holds.pairs.few in
            let within = place.within in
            let e = says_16 (links one two) (look c) (pairs_of ps) p (passing-none fits)
            (a_pair_that_is_not_found_has_nothing_open ps.pairs ps.amounts place (omega arith)) (omega (arith, length-entries ps.pairs ps.amounts ps.count)) in
            record { told = sym e; holds = stays _ _ (λ y. omega (arith, e, y)) }

        pub growing : k ≢ OPEN → Growing ps p.first p.second p.amount k
        growing d = record {
          held = t.holds.pairs;
          place = place;
          room = omega (arith, place.within, t.holds.pairs.few);
          first = sites-low.0;
          second = sites-low.1;
          small = w.limited;
          fits = cases (dec_lt k ps.count)
              (λ i. (amount_small k i).1)
              (λ i. let z : look ps.amounts k ≡ 0 = ap (λ e. e.amount) (t.holds.pairs.behind k (omega arith)) in omega arith);
        }

        opens : k ≢ OPEN → answer_open (links one two) (look c) (pairs_of ps) p ≡ 0
        opens d = same? k ps.count
            (λ z. opens_new (links one two) (look c) (pairs_of ps) p (passing-none fits) (a_pair_that_is_not_found_has_nothing_open ps.pairs ps.amounts place z)
            (omega (arith, length-entries ps.pairs ps.amounts ps.count, t.holds.pairs.few)))
            (λ z. let l : k < ps.count = omega (arith, place.within) in
            opens_more (links one two) (look c) (pairs_of ps) p (passing-none fits)
            (λ o. omega (
              arith,
              a_pair_that_is_found_has_its_amount_open ps.pairs ps.amounts place (t.kept.once p.first p.second) l,
              (amount_small k l).0,
            )))

        pub opened : k ≢ OPEN → {ps' : OpenPairs} {l' : List ℕ} → l' ≡ raised path p.amount l
            → Held (grow p.first p.second p.amount (pairs_of ps)) ps'
            → Opened (links one two) (look c) (pairs_of ps) p ps' l' 0
        opened d e h = record { told = sym (opens d); holds = rw (pick_same (opens d)) (opened-holds e h) }

      -- less
      module _ (enough : p.amount ≤ open_of p.first p.second (pairs_of ps)) where
        less-load : (j : ℕ) → load (links one two) (shrink p.first p.second p.amount (pairs_of ps)) j
            + p.amount * separates (links one two) j p.first p.second ≡ load (links one two) (pairs_of ps) j
        less-load j = shrink-load p.first p.second p.amount (links one two) j (pairs_of ps) (t.kept.once p.first p.second)
            w.entry.some enough

        pub lowering : Lowering path p.amount l
        lowering = record {
          places = t.holds.places;
          enough = λ j o. omega (arith, rw (sym (on-path j) ∙ o) at (less-load j), t.holds.loads j);
        }

        pub given_holds : {ps' : OpenPairs} {l' : List ℕ} → l' ≡ lowered path p.amount l
            → Held (shrink p.first p.second p.amount (pairs_of ps)) ps'
            → Holds (links one two) (shrink p.first p.second p.amount (pairs_of ps)) ps' l'
        unfolding lowered
        given_holds e h = record {
          pairs = h;
          places = ap length e ∙ length-map (upfrom 0 SITES) _ ∙ length-upfrom 0 SITES;
          loads = λ j. ap (λ z. look z j) e ∙ cases (dec_lt j SITES)
              (λ i. look_values (λ j. look l j - p.amount * member path j) SITES j i
              ∙ omega (arith, ap (λ u. p.amount * u) (on-path j), t.holds.loads j, less-load j))
              (λ i. let z = beyond-links j (omega arith) in
              look_map_past (λ j. look l j - p.amount * member path j) j (omega arith) ∙ omega (arith, z.0, less-load j));
        }

    -- ---- a giving up, answered

    module _ {k : ℕ} (place : FirstPlace ps.pairs p.first p.second ps.count k) where
      refused : open_of p.first p.second (pairs_of ps) < p.amount
          → GivenUp (links one two) (look c) (pairs_of ps) p ps l 14
      refused i =
          let e = says_14 (links one two) (look c) (pairs_of ps) p i in
          record { told = sym e; holds = stays _ _ (λ z. omega (arith, e, z)) }

      pub not_open : k ≡ ps.count → GivenUp (links one two) (look c) (pairs_of ps) p ps l 14
      not_open e = refused (omega (arith, a_pair_that_is_not_found_has_nothing_open ps.pairs ps.amounts place e, w.entry.some))

      module _ (there : k ≢ ps.count) where
        pub inside : (k < ps.count) × (ps.count ≤ OPEN)
        inside = (omega (arith, place.within), t.holds.pairs.few)

        has : open_of p.first p.second (pairs_of ps) ≡ look ps.amounts k
        has = a_pair_that_is_found_has_its_amount_open ps.pairs ps.amounts place (t.kept.once p.first p.second) inside.0

        pub too_little : look ps.amounts k < p.amount → GivenUp (links one two) (look c) (pairs_of ps) p ps l 14
        too_little i = refused (rw has i)

        pub enough_open : p.amount ≤ look ps.amounts k → p.amount ≤ open_of p.first p.second (pairs_of ps)
        enough_open i = rw has i

        pub given-up : p.amount ≤ look ps.amounts k → (path : Set) → PathBy rows p.first p.second path → {ps' : OpenPairs} {l' : List ℕ}
            → l' ≡ lowered path p.amount l → Held (shrink p.first p.second p.amount (pairs_of ps)) ps'
            → GivenUp (links one two) (look c) (pairs_of ps) p ps' l' 0
        given-up i path by e h =
            let z = gives_up (links one two) (look c) (pairs_of ps) p (enough_open i) in
            record { told = sym z; holds = rw (pick_same z) (given_holds path by (enough_open i) e h) }

-- ---- the request

pub asked_wanted : {n : ℕ} {e p : Pair} → Proper n e → p ≡ lower_first e → Wanted n p
asked_wanted {n} {e} {p} h q = rw q (record { entry = lower_entry n e h; limited = rw (lower_amount e) h.limited })

module _ {ls : Links} {c : ℕ → ℕ} {es : List Pair} {r : Request} {ps : OpenPairs} {l : List ℕ} {said : ℕ} where
  pub open_answered : {e p : Pair} → r ≡ Open e → p ≡ lower_first e → Opened ls c es p ps l said → Answered ls c es r ps l said
  unfolding answer next changed
  open_answered q z o = rw q (record { told = rw z at o.told; holds = rw z at o.holds })

  pub give-up-answered : {e p : Pair} → r ≡ GiveUp e → p ≡ lower_first e → GivenUp ls c es p ps l said → Answered ls c es r ps l said
  unfolding answer next changed
  give-up-answered q z o = rw q (record { told = rw z at o.told; holds = rw z at o.holds })

pub fault_answered : {ls : Links} {n : ℕ} {c : ℕ → ℕ} {r : Request} {k : ℕ} {ps : OpenPairs} {l : List ℕ} → r ≡ Fault k → Standing ls n c ps l
    → Answered ls c (pairs_of ps) r ps l k
unfolding answer next changed
fault_answered {k = k} {ps = ps} q t =
    rw q (record { told = refl; holds = rw (pick_const k 0 (pairs_of ps)) t.holds })

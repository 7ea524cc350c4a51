-- What a line leaves of the entries that the arrays hold: a pair that is given gets 20, another one is in its row and its amount on the links of its path.
use mathlib.Core.Path.{◌≡◌, refl, sym, ap, ◌∙◌}
use mathlib.Core.List.{List, ◌∷◌, map}
use Prim.Native.Nat.{ℕ, suc, ◌+◌, ◌-◌, ◌*◌, ◌≤◌, ◌<◌}
use native.Mathlib.Decide.{dec_lt}
use native.Mathlib.Omega.{arith}
use lib.ListN.{length, length-map, get_or-eq_default}
use Rattle.model.specs.Limits.{SITES}
use Rattle.lists.specs.Numbers.{look, upfrom}
use Rattle.lists.specs.Sums.{pick_same, pick_other, cases, is_iff}
use Rattle.lists.specs.Places.{length-upfrom, look_values}
use Rattle.model.specs.Flows.{Links, load, total}
use Rattle.model.specs.Pairing.{lower_first}
use Rattle.model.specs.Booking.{places_of, same, Proper}
use Rattle.model.specs.declared.Pair.{Pair}
use Rattle.model.specs.declared.Request.{Request}
use Rattle.model.specs.declared.Request.TheVariants.{Open, GiveUp, Fault}
use Rattle.theory_log.specs.Requests.{lower_amount, lower_entry}
use Rattle.theory_verdicts.specs.HandPlan.{line_answer, entered}
use Rattle.tree.specs.Offer.{links}
use Rattle.tree_sets.specs.Members.{member}
use Rattle.tree_sets.specs.declared.Set.{Set}
use Rattle.log_paths.specs.Tables.{in_table, Mapped, PathBy}
use Rattle.log_paths.specs.Rows.{Put}
use Rattle.log_paths.specs.Laws.{what_is_no_link_separates_nothing}
use Rattle.log_steps.specs.Loads.{raised}
use Rattle.log_steps.specs.Steps.{Wanted}
use Rattle.plan_entries.specs.Holding.{Holding, PairEntered, LineEntered}
use Rattle.plan_entries.specs.declared.Entered.{Entered}

module _ {n : ℕ} {one two rows : List ℕ} (m : Mapped n one two rows) {p : Pair} (w : Wanted n p) where
  -- its sites have places
  pub sites-low : (1 ≤ p.second) × (p.first ≤ SITES) × (p.second ≤ SITES) × (p.second - 1 < SITES)
  sites-low = let t = m.tree in let e = w.entry in (omega arith, omega arith, omega arith, omega arith)

  module _ {es : List Pair} {given l : List ℕ} (h : Holding (links one two) es given l) where
    -- its bit tells whether it is given
    told : in_table given (p.second - 1) p.first ≡ places_of p.first p.second es
    told =
        let next : suc (p.second - 1) ≡ p.second = omega (arith, sites-low.0) in
        h.pairs p.first (p.second - 1) sites-low.3 ∙ ap (λ b. places_of p.first b es) next

    pub given_already : in_table given (p.second - 1) p.first ≡ 1 → PairEntered (links one two) es p given l (record { number = 20; amount = 0 })
    given_already e = record {
      said = sym (pick_other {A = ℕ} {u = places_of p.first p.second es} {v = 0} (λ z. omega (arith, told)) 0 20);
      holds = λ z. absurd (omega arith);
      amount = λ z. absurd (omega arith);
      limited = omega arith;
    }

    -- one place more
    one_more : {given' : List ℕ} → Put p.first (p.second - 1) given given' → (a k : ℕ) → k < SITES → in_table given' k a ≡ places_of a (suc k) (p ∷ es)
    unfolding places_of same
    one_more q a k small =
        let low = sites-low.0 in
        let first = is_iff a p.first p.first a (λ z. sym z) (λ z. sym z) in
        let second = is_iff k (p.second - 1) p.second (suc k) (λ z. omega arith) (λ z. omega arith) in
        q.rows a k small ∙ rw (first, second) (omega (arith, h.pairs a k small))

    -- its amount on its path
    loaded : (path : Set) → PathBy rows p.first p.second path → {l' : List ℕ} → l' ≡ raised path p.amount l → (j : ℕ)
        → look l' j ≡ load (links one two) (p ∷ es) j
    unfolding load raised
    loaded path by e j = ap (λ z. look z j) e ∙ cases (dec_lt j SITES)
        (λ i. look_values (λ j. look l j + p.amount * member path j) SITES j i
        ∙ rw (by (links one two) n m.tree.tree m.table w.entry.first-site w.entry.second-site j) (omega (arith, h.loads j)))
        (λ i. let past : length (links one two) ≤ j = omega (arith, m.tree.tree.links, m.tree.few) in
        let none = what_is_no_link_separates_nothing m.tree.tree j p.first p.second past w.entry.first-site w.entry.second-site in
        get_or-eq_default (map (λ j. look l j + p.amount * member path j) (upfrom 0 SITES)) 0 {n = j} (omega (
          arith,
          length-map (upfrom 0 SITES)
              (λ j. look l j + p.amount * member path j),
          length-upfrom 0 SITES,
        ))
        ∙ rw none (omega (arith, h.loads j, get_or-eq_default l 0 {n = j} (omega (arith, h.places)))))

    pub newly_entered : in_table given (p.second - 1) p.first ≡ 0 → {given' : List ℕ} → Put p.first (p.second - 1) given given'
        → (path : Set) → PathBy rows p.first p.second path → {l' : List ℕ} → l' ≡ raised path p.amount l
        → PairEntered (links one two) es p given' l' (record { number = 0; amount = p.amount })
    unfolding raised
    newly_entered e q path by raising = record {
      said = sym (pick_same {A = ℕ} (sym told ∙ e) 0 20);
      holds = λ z. record {
        rows = q.long ∙ h.rows;
        places = ap length raising ∙ length-map (upfrom 0 SITES) _ ∙ length-upfrom 0 SITES;
        pairs = one_more q;
        loads = loaded path by raising;
      };
      amount = λ z. refl;
      limited = w.limited;
    }

-- ---- the line

pub asked_wanted : {n : ℕ} {e p : Pair} → Proper n e → p ≡ lower_first e → Wanted n p
asked_wanted {n} {e} {p} h q = rw q (record { entry = lower_entry n e h; limited = rw (lower_amount e) h.limited })

module _ {ls : Links} {es : List Pair} {q : Request} {given l : List ℕ} where
  pub a-pair-entered : {e p : Pair} {r : Entered} → q ≡ Open e → p ≡ lower_first e → PairEntered ls es p given l r → LineEntered ls es q given l r
  unfolding line_answer entered total
  a-pair-entered {e} {p} {r} z y h = rw z (record {
    said = rw y at h.said;
    holds = λ o. rw y at (h.holds o);
    totals = λ o. omega (arith, h.amount o, ap (λ x. x.amount) y);
    limited = h.limited;
  })

  pub a_giving_up_gets_2 : {e : Pair} → q ≡ GiveUp e → LineEntered ls es q given l (record { number = 2; amount = 0 })
  unfolding line_answer
  a_giving_up_gets_2 z = rw z (record { said = refl; holds = λ o. absurd (omega arith); totals = λ o. absurd (omega arith); limited = omega arith })

  pub a_fault_gets_its_number : {k : ℕ} → q ≡ Fault k → Holding ls es given l → LineEntered ls es q given l (record { number = k; amount = 0 })
  unfolding line_answer entered
  a_fault_gets_its_number z h = rw z (record { said = refl; holds = λ o. h; totals = λ o. omega arith; limited = omega arith })

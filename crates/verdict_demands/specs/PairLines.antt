-- The `P` lines of a report, taken as a plan text over the same sheet: they ask for the pairs of the report, one by one.
-- Each line reads back as its pair: its names lead to its sites, which are two ends free to be joined, and its decimal to its amount.
use Rattle.std.specs.Prelude.{Option, Some, None, false, ◌≡◌, ℕ, ◌+◌, ◌-◌, ◌≤◌, length, drop, Ok}
use Rattle.std.proofs.Math.Bool.{true}
use Rattle.std.proofs.Math.Path.{refl, ap, ap₂}
use Rattle.std.proofs.Common.{◌∙◌, arith, length-drop}
use mathlib.Core.List.{List, [], ◌∷◌, ◌++◌, map}
use Rattle.lists.specs.Numbers.{Each}
use Rattle.model.specs.Limits.{AMOUNT}
use Rattle.model.specs.Text.{bytes}
use Rattle.model.specs.Flows.{Site, Route}
use Rattle.model.specs.declared.Edition.{Edition}
use Rattle.model.specs.declared.Pair.{Pair}
use Rattle.model.specs.declared.Request.TheVariants.{Open}
use Rattle.theory_trees.specs.FreePairs.{free_iff_route}
use Rattle.text_lines.specs.Lines.{line_at, after_line}
use Rattle.text_fields.specs.Fields.{fields, field, value, same, all, is_name, is_number, digits_alone}
use Rattle.text_grammar.specs.Grammar.{checked, checked_fields}
use Rattle.text_writers.specs.Fields.{decimal, line}
use Rattle.sheet_names.specs.Names.{name_at}
use Rattle.sheet.specs.Sheet.{Network, lookup, read_as, accepted}
use Rattle.sheet.specs.SheetTheorem.{IsNetwork}
use Rattle.sheet.specs.BareNames.{no_name_is_a_bare_number}
use Rattle.report.specs.Report.{lines, pair_line}
use Rattle.demands.specs.Printed.{site_named, site_found}
use Rattle.demands.specs.Parsing.{Plain, decimal_read_back, decimal-plain}
use Rattle.demands.specs.Names.{name_read_back, site-name-is-plain}
use Rattle.log_lines.specs.LogLines.{amount_form, plan_letter}
use Rattle.log_lines.specs.BookingLaws.{Asks}
use Rattle.log_lines.proofs.BookingLaws.{asks_makes_plan}
use Rattle.log_requests.specs.Requests.{lines_from, request_at, requests, is_end}
use Rattle.log_requests.specs.RequestLaws.{after-within, lines_end, lines_step, all_lines}
use Rattle.log_requests.specs.TwoEnds.{Asking}
use Rattle.log_requests.specs.TwoEnds as two
use Rattle.log_requests.proofs.TwoEnds as two_laws
use Rattle.verdict_demands.specs.Offsets.{fields_of_joined, a-line-is-there, the_line_is_joined, the_line_is_ended, what_follows}
use Rattle.verdict_demands.specs.Decimals.{a-decimal-is-a-number}

-- the fields of a `P` line
abbrev pub pair_fields : (ℕ → List ℕ) → Pair → List (List ℕ)
pair_fields name e = bytes "P" ∷ name e.first ∷ name e.second ∷ decimal e.amount ∷ []

-- a line of two good names and a good number is formed
formed : (a b d : List ℕ) → is_name a ≡ true → is_name b ≡ true → digits_alone a ≡ false → digits_alone b ≡ false → is_number d ≡ true
    → checked (amount_form plan_letter) (bytes "P" ∷ a ∷ b ∷ d ∷ []) ≡ Ok tt
unfolding checked checked_fields all same
formed a b d na nb la lb nd = rw (na, nb) (rw (la, lb) (rw nd refl))

-- nothing is left of a text where nothing goes on
nothing_left : (text : List ℕ) (at : ℕ) → drop at text ≡ [] → at ≤ length text → length text ≤ at
nothing_left text at h l = omega (arith, ap length h, length-drop at text)

-- the site that is found has the number
found_at : (w : Option ℕ) (v : ℕ) → 1 ≤ v → site_found w ≡ v → w ≡ Some v
unfolding site_found
found_at (Some u) v h e = ap Some e
found_at None v h e = absurd (omega arith)

module _ (ed : Edition) (s : List ℕ) (net : Network) (N : IsNetwork ed s net) (accepts : read_as ed s ≡ accepted net) where
  abbrev n : ℕ
  n = length net.names

  abbrev pub name : ℕ → List ℕ
  name v = name_at s net.names (v - 1)

  -- the name of a site leads to it
  found : (v : ℕ) → Site n v → lookup s net.names (name v) ≡ Some v
  unfolding site_named
  found v q = found_at (lookup s net.names (name v)) v q.0 (name_read_back N v q)

  -- a pair that a plan may have: two ends free to be joined, and an amount within the limits
  pub record Good (e : Pair) : Type 0 where
    pub route : Route net.links n (is_end net) e
    pub some : 1 ≤ e.amount
    pub limited : e.amount ≤ AMOUNT

  plain : (e : Pair) → Each Plain (pair_fields name e)
  plain e = (omega arith, (site-name-is-plain N e.first, (site-name-is-plain N e.second, (decimal-plain e.amount, tt))))

  module _ (text : List ℕ) where
    -- a line that is written of a pair asks for it
    a-pair-line-asks : (at : ℕ) (e : Pair) (x : List ℕ) → Good e → drop at text ≡ line (pair_fields name e) ++ x
        → request_at true s net.names net.links (is_end net) text at ≡ Open e
    a-pair-line-asks at e x g h =
        let r = g.route in
        let rest = name e.first ∷ name e.second ∷ decimal e.amount ∷ [] in
        let is : fields (line_at text at) ≡ pair_fields name e =
        ap fields (the_line_is_joined text at (bytes "P") rest (plain e) x h) ∙ fields_of_joined (bytes "P") rest (plain e) in
        let read : value (field (fields (line_at text at)) 3) ≡ e.amount = ap (λ fs. value (field fs 3)) is ∙ decimal_read_back e.amount in
        let asks : Asks plan_letter (line_at text at) = record {
          formed = rw is (formed (name e.first) (name e.second) (decimal e.amount)
              (N.names (e.first - 1) (omega (arith, r.first-site))).name (N.names (e.second - 1) (omega (arith, r.second-site))).name
              (no_name_is_a_bare_number ed s net accepts (e.first - 1) (omega (arith, r.first-site)))
              (no_name_is_a_bare_number ed s net accepts (e.second - 1) (omega (arith, r.second-site)))
              (a-decimal-is-a-number e.amount g.some));
          some = omega (arith, read, g.some);
          limited = omega (arith, read, g.limited);
        } in
        let asking : Asking plan_letter text at = record { ended = the_line_is_ended text at (bytes "P") rest (plain e) x h; asks = asks } in
        let ends : two.TwoEnds s net.names net.links (is_end net) text at e.first e.second = record {
          first = ap (λ fs. lookup s net.names (field fs 1)) is ∙ found e.first r.first-site;
          second = ap (λ fs. lookup s net.names (field fs 2)) is ∙ found e.second r.second-site;
          free = (free_iff_route net.links (is_end net) n N.tree.ends e r.first-site r.second-site).1 r;
        } in
        two_laws.asked-between s net.names net.links (is_end net) text at asking true true (asks_makes_plan (line_at text at) asks) ends
        ∙ ap (λ x. Open (record { first = e.first; second = e.second; amount = x })) read

    -- the lines that are written of pairs ask for them, one by one
    pair-lines-ask : (at : ℕ) (es : List Pair) → Each Good es → drop at text ≡ lines (pair_line name) es → at ≤ length text
        → map (request_at true s net.names net.links (is_end net) text) (lines_from text (length text - at) at) ≡ map Open es
    unfolding lines pair_line
    pair-lines-ask at [] g h l = ap (map (request_at true s net.names net.links (is_end net) text)) (lines_end text (length text - at) at (nothing_left text at h l))
    pair-lines-ask at (e ∷ es) g h l =
        let rest = name e.first ∷ name e.second ∷ decimal e.amount ∷ [] in
        let x = lines (pair_line name) es in
        ap (map (request_at true s net.names net.links (is_end net) text))
        (lines_step text at (a-line-is-there text at (bytes "P") rest (plain e) x h))
        ∙ ap₂ ◌∷◌ (a-pair-line-asks at e x g.0 h)
        (pair-lines-ask (after_line text at) es g.1 (what_follows text at (bytes "P") rest (plain e) x h) (after-within text at))

  pub the_pair_lines_ask_for_the_pairs : (es : List Pair) → Each Good es
      → requests true s net.names net.links (is_end net) (lines (pair_line name) es) ≡ map Open es
  unfolding requests
  the_pair_lines_ask_for_the_pairs es g =
      let text = lines (pair_line name) es in
      ap (map (request_at true s net.names net.links (is_end net) text)) (all_lines text) ∙ pair-lines-ask text 0 es g refl (omega arith)

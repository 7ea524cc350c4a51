-- The lines of a report, read back: the first, and those with each letter, are the fields that the report was written from.
-- By the line that each place of the plan gives, and by the letter in front of it. For either heading, with or without a line `Q`.
use Rattle.std.specs.Prelude.{◌≡◌, refl, Bool, true, false, ℕ, ◌-◌, ◌≤◌, length, get_or}
use Rattle.std.proofs.Common.{sym, ◌∙◌}
use Rattle.std.proofs.Math.Path.{ap}
use Rattle.std.proofs.Math.Bool.{cond}
use mathlib.Core.List.{List, [], ◌∷◌, ◌++◌, map, flat_map, append_assoc, append-nil}
use native.Mathlib.Omega.{arith}
use Rattle.lists.specs.Numbers.{pick, look, upfrom}
use Rattle.model.specs.Flows.{sites, total}
use Rattle.model.specs.Text.{bytes}
use Rattle.model.specs.declared.Pair.{Pair}
use Rattle.lists.specs.Sums.{same?, pick_same, pick_other, pick_cases}
use Rattle.text_fields.specs.FieldLaws.{not_same}
use Rattle.sheet_kinds.specs.LineKinds.{same, field, value}
use Rattle.report.specs.Report.{decimal, lines, Plan, head_record, link_record, link_line, owner_name, site_record, site_line, cut_record, cut_line, pair_line}
use Rattle.report.specs.Report.{odd_line, report_of, line, refusal_line}
use Rattle.demands.specs.Printed.{Record, lines_of, records, headed, first_line, line_read}
use Rattle.demands.specs.Parsing.{Plain, line_read_back, decimal-plain, lines_read_back, headed-append, headed_parts}
use Rattle.demands.specs.Parsing.{decimal_read_back}

-- ---- the fields that go into each line
module _ (p : Plan) where
  abbrev pub head_fields : Record
  head_fields = p.word ∷ decimal (total p.pairs) ∷ decimal (length p.pairs) ∷ []

  abbrev pub link_fields : ℕ → Record
  link_fields j = bytes "L" ∷ p.names (look p.ones j) ∷ p.names (look p.twos j) ∷ decimal (look p.capacities j) ∷ decimal (look p.shown j) ∷ []

  abbrev pub site_fields : ℕ → Record
  site_fields x = bytes "N" ∷ p.names x ∷ owner_name p.names (look p.owners (x - 1)) ∷ []

  abbrev pub cut_fields : ℕ → Record
  cut_fields a = bytes "X" ∷ p.names a ∷ decimal (look p.cut_sizes (a - 1)) ∷ decimal (look p.cut_counts (a - 1)) ∷ []

  abbrev pub pair_fields : Pair → Record
  pair_fields e = bytes "P" ∷ p.names e.first ∷ p.names e.second ∷ decimal e.amount ∷ []

  -- the `X` line of an end, none of another site
  abbrev pub cut_lines : ℕ → List Record
  cut_lines a = pick (look p.ends a) 1 (cut_fields a ∷ []) []

  -- the lines of each letter, in order
  abbrev link_rows : List Record
  link_rows = flat_map (λ j. link_fields j ∷ []) (upfrom 0 (length p.ones))

  abbrev site_rows : List Record
  site_rows = flat_map (λ x. site_fields x ∷ []) (sites p.size)

  abbrev pub cut_rows : List Record
  cut_rows = flat_map cut_lines (sites p.size)

  abbrev pair_rows : List Record
  pair_rows = flat_map (λ e. pair_fields e ∷ []) p.pairs

abbrev pub odd_fields : ℕ → Record
odd_fields k = bytes "Q" ∷ decimal k ∷ []

abbrev odd_rows : List ℕ → List Record
odd_rows ks = flat_map (λ k. odd_fields k ∷ []) ks

pub singles : {A : Type 0} (g : A → Record) (l : List A) → flat_map (λ a. g a ∷ []) l ≡ map g l
unfolding flat_map
singles g [] = refl
singles g (a ∷ l) = ap (λ y. g a ∷ y) (singles g l)

nothing-kept : (t : Bool) → [] ≡ cond {A = List Record} t [] []
nothing-kept true = refl
nothing-kept false = refl

-- ---- the lines

odd_back : (k : ℕ) (x : List ℕ) → records (odd_line k ++ x) ≡ odd_fields k ∷ records x
unfolding odd_line
odd_back k x = line_read_back _ _ (omega arith, (decimal-plain _, tt)) x

-- a plan headed by a word of more than one letter, with lines `Q` for ks before the pairs
module _ (p : Plan) (ks : List ℕ) (long : 2 ≤ length p.word) (word : Plain p.word) (odd : p.before ≡ lines odd_line ks)
    (plain : (v : ℕ) → Plain (p.names v)) where
  owner-plain : (a : ℕ) → Plain (owner_name p.names a)
  unfolding owner_name
  owner-plain a = pick_cases Plain a 0 (bytes "-") (p.names a) (λ e. omega arith) (λ d. plain a)

  head-back : (x : List ℕ) → records (head_record p.word (total p.pairs) (length p.pairs) ++ x) ≡ head_fields p ∷ records x
  unfolding head_record
  head-back x = line_read_back _ _ (word, (decimal-plain _, (decimal-plain _, tt))) x

  link-back : (j : ℕ) (x : List ℕ) → records (link_line p.names p.ones p.twos p.capacities p.shown j ++ x) ≡ link_fields p j ∷ records x
  unfolding link_line link_record
  link-back j x = line_read_back _ _ (omega arith, (plain _, (plain _, (decimal-plain _, (decimal-plain _, tt))))) x

  site-back : (v : ℕ) (x : List ℕ) → records (site_line p.names p.owners v ++ x) ≡ site_fields p v ∷ records x
  unfolding site_line site_record
  site-back v x = line_read_back _ _ (omega arith, (plain _, (owner-plain _, tt))) x

  cut-back : (a : ℕ) (x : List ℕ) → records (cut_line p.names p.ends p.cut_sizes p.cut_counts a ++ x) ≡ cut_lines p a ++ records x
  unfolding cut_line cut_record
  cut-back a x = same? (look p.ends a) 1
      (λ e. rw (pick_same {A = List ℕ} e, pick_same {A = List Record} e)
      (line_read_back _ _ (omega arith, (plain _, (decimal-plain _, (decimal-plain _, tt)))) x))
      (λ d. rw (pick_other {A = List ℕ} d, pick_other {A = List Record} d))

  pair-back : (e : Pair) (x : List ℕ) → records (pair_line p.names e ++ x) ≡ pair_fields p e ∷ records x
  unfolding pair_line
  pair-back e x = line_read_back _ _ (omega arith, (plain _, (plain _, (decimal-plain _, tt)))) x

  -- all lines of the report, in order
  report-back : records (report_of p) ≡ head_fields p ∷ (link_rows p ++ (site_rows p ++ (cut_rows p ++ (odd_rows ks ++ pair_rows p))))
  unfolding report_of records lines_of
  report-back =
      let heading = head_record p.word (total p.pairs) (length p.pairs) in
      let ls = lines (link_line p.names p.ones p.twos p.capacities p.shown) (upfrom 0 (length p.ones)) in
      let ns = lines (site_line p.names p.owners) (sites p.size) in
      let xs = lines (cut_line p.names p.ends p.cut_sizes p.cut_counts) (sites p.size) in
      let qs = lines odd_line ks in
      let ps = lines (pair_line p.names) p.pairs in
      let regroup : heading ++ ls ++ ns ++ xs ++ p.before ++ ps ≡ heading ++ (ls ++ (ns ++ (xs ++ (qs ++ (ps ++ []))))) =
      rw (odd, append-nil ps) (simp append_assoc) in
      ap records regroup
      ∙ head-back (ls ++ (ns ++ (xs ++ (qs ++ (ps ++ [])))))
      ∙ ap (λ y. head_fields p ∷ y) (lines_read_back _ (λ j. link_fields p j ∷ []) link-back (upfrom 0 (length p.ones)) (ns ++ (xs ++ (qs ++ (ps ++ []))))
      ∙ ap (λ y. link_rows p ++ y) (lines_read_back _ (λ x. site_fields p x ∷ []) site-back (sites p.size) (xs ++ (qs ++ (ps ++ [])))
      ∙ ap (λ y. site_rows p ++ y) (lines_read_back _ (cut_lines p) cut-back (sites p.size) (qs ++ (ps ++ []))
      ∙ ap (λ y. cut_rows p ++ y) (lines_read_back _ (λ k. odd_fields k ∷ []) odd_back ks (ps ++ [])
      ∙ ap (λ y. odd_rows ks ++ y) (lines_read_back _ (λ e. pair_fields p e ∷ []) pair-back p.pairs [] ∙ append-nil (pair_rows p))))))

  pub first-line : get_or (records (report_of p)) 0 [] ≡ head_fields p
  first-line = ap (λ y. get_or y 0 []) report-back

  cut_line_lem : (k : List ℕ) (a : ℕ) → headed k (cut_lines p a) ≡ cond (same (bytes "X") k) (cut_lines p a) []
  unfolding headed
  cut_line_lem k a = pick_cases (λ r. headed k r ≡ cond (same (bytes "X") k) r []) (look p.ends a) 1 (cut_fields p a ∷ []) []
      (λ e. refl) (λ d. nothing-kept (same (bytes "X") k))

  -- the lines headed k: those of the letter k
  headed-report : (k : List ℕ) → headed k (records (report_of p))
      ≡ cond (same p.word k) (head_fields p ∷ []) [] ++ (cond (same (bytes "L") k) (link_rows p) [] ++ (cond (same (bytes "N") k) (site_rows p) []
      ++ (cond (same (bytes "X") k) (cut_rows p) [] ++ (cond (same (bytes "Q") k) (odd_rows ks) [] ++ cond (same (bytes "P") k) (pair_rows p) []))))
  unfolding headed
  headed-report k =
      ap (headed k) report-back
      ∙ headed-append k (head_fields p ∷ []) (link_rows p ++ (site_rows p ++ (cut_rows p ++ (odd_rows ks ++ pair_rows p))))
      ∙ rw (
        headed-append k (link_rows p),
        headed-append k (site_rows p),
        headed-append k (cut_rows p),
        headed-append k (odd_rows ks),
        headed_parts k (λ j. link_fields p j ∷ []) (same (bytes "L") k) (λ j. refl) (upfrom 0 (length p.ones)),
        headed_parts k (λ x. site_fields p x ∷ []) (same (bytes "N") k) (λ x. refl) (sites p.size),
        headed_parts k (cut_lines p) (same (bytes "X") k) (cut_line_lem k) (sites p.size),
        headed_parts k (λ k. odd_fields k ∷ []) (same (bytes "Q") k) (λ k. refl) ks,
        headed_parts k (λ e. pair_fields p e ∷ []) (same (bytes "P") k) (λ e. refl) p.pairs,
      )

  -- line 1 is headed by no letter
  no_letter : (k : List ℕ) → length k ≤ 1 → same p.word k ≡ false
  no_letter k one = not_same p.word k (λ e. omega (arith, ap length e))

  pub link-lines : headed (bytes "L") (records (report_of p)) ≡ map (link_fields p) (upfrom 0 (length p.ones))
  unfolding same
  link-lines = headed-report (bytes "L")
      ∙ rw (no_letter (bytes "L") (omega arith)) (append-nil (link_rows p) ∙ singles (link_fields p) (upfrom 0 (length p.ones)))

  pub site-lines : headed (bytes "N") (records (report_of p)) ≡ map (site_fields p) (sites p.size)
  unfolding same
  site-lines = headed-report (bytes "N")
      ∙ rw (no_letter (bytes "N") (omega arith)) (append-nil (site_rows p) ∙ singles (site_fields p) (sites p.size))

  pub cut-lines : headed (bytes "X") (records (report_of p)) ≡ cut_rows p
  unfolding same
  cut-lines = headed-report (bytes "X") ∙ rw (no_letter (bytes "X") (omega arith)) (append-nil (cut_rows p))

  pub odd_lines : headed (bytes "Q") (records (report_of p)) ≡ map odd_fields ks
  unfolding same
  odd_lines = headed-report (bytes "Q") ∙ rw (no_letter (bytes "Q") (omega arith)) (append-nil (odd_rows ks) ∙ singles odd_fields ks)

  pub pair-lines : headed (bytes "P") (records (report_of p)) ≡ map (pair_fields p) p.pairs
  unfolding same
  pair-lines = headed-report (bytes "P") ∙ rw (no_letter (bytes "P") (omega arith)) (singles (pair_fields p) p.pairs)

-- the line of a refusal is one line of three fields
pub refusal-line : (k l : ℕ) → records (refusal_line k l) ≡ (bytes "refused" ∷ decimal k ∷ decimal l ∷ []) ∷ []
unfolding refusal_line records lines_of
refusal-line k l =
    let fs = bytes "refused" ∷ decimal k ∷ decimal l ∷ [] in
    ap records (sym (append-nil (line fs))) ∙ line_read_back _ _ (omega arith, (decimal-plain k, (decimal-plain l, tt))) []

pub refusal-fields : (k l : ℕ) → first_line (refusal_line k l) ≡ bytes "refused" ∷ decimal k ∷ decimal l ∷ []
unfolding first_line
refusal-fields k l = ap (λ rs. get_or rs 0 []) (refusal-line k l)

pub refusal-at : (k l : ℕ) → line_read (refusal_line k l) ≡ l
refusal-at k l = ap (λ f. value (field f 2)) (refusal-fields k l) ∙ decimal_read_back l

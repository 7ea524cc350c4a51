-- Which reorderings of an accepted sheet are accepted again: those in which each link stands below its two sites. No cause of a refusal is left: a record
-- keeps its form, sites and links are as many and as different as they were, and links that join no two joined sites in one order do so in no other.
use Rattle.std.specs.Prelude.{true, List, [], ◌∷◌, ◌++◌, ◌⊎◌, ◌≢◌, ◌↔◌, ◌≡◌, refl, ℕ, ◌+◌, ◌-◌, ◌<◌, length, get_or, drop, Ok, Err}
use Rattle.std.proofs.Common.{true≢false, append_assoc, append-nil, inl, inr, sym, subst, ◌∙◌}
use Rattle.std.proofs.Math.Path.{ap}
use native.Mathlib.Omega.{arith}
use Rattle.std.proofs.Math.Decide.{dec_lt}
use Rattle.std.proofs.Math.ListN.{get_or-eq_default}
use Rattle.lists.specs.Sums.{cases, contradiction}
use Rattle.lists.specs.Tallies.{tally, tally-append}
use Rattle.model.specs.Flows.{Site, Joined, same, link, back, chain, one, two, side}
use Rattle.model.specs.declared.Edition.{Edition}
use Rattle.model.specs.declared.Sizing.TheVariants.{Reserved}
use Rattle.theory_trees.specs.Labels.{label-joined}
use Rattle.theory_trees.specs.Trees.{side-link, bridge}
use Rattle.theory_shuffled.specs.Shuffled.{Stands}
use Rattle.theory_shuffled.specs.ShuffledLaws.{stands_front, stands_behind, shuffled_covers, shuffled_is_covered, Apart, apart_above}
use Rattle.theory_shuffled.proofs.ShuffledLaws.{apart_shuffled}
use Rattle.theory_shuffled.proofs.ShuffledLaws.{tally_shuffled}
use Rattle.text_fields.specs.Fields.{SameName, capitals}
use Rattle.text_lines.specs.Lines.{line_at, after_line}
use Rattle.text_lines.specs.LineLaws.{line_holds_no_ten, line_is_part_of_sheet, line_stays_on_sheet}
use Rattle.text_records.specs.Records.{Record, records}
use Rattle.sheet_kinds.specs.LineKinds.{field, value, is_heading, IsSite, IsLink}
use Rattle.sheet_kinds.specs.LineKindLaws.{Together}
use Rattle.sheet_kinds.specs.FaultyLines as faulty
use Rattle.sheet_kinds.specs.KindForms.{LinkWithin, a_site_by_its_form, a_link_by_its_form}
use Rattle.sheet_kinds.specs.declared.Line.TheVariants as line
use Rattle.sheet_names.specs.Names.{Different}
use Rattle.sheet.specs.Sheet.{Network, accepted, read_as}
use Rattle.sheet.specs.Causes.{Named, Ended, fields_at, Cause, unended, no_heading, no_letter, wrong_count, bad_name, bare_name, bad_number, too_large}
use Rattle.sheet.specs.Causes.{too_much_held, low-above-high, too_many, given, not-given, already_joined, Refusal, by_length, by_line, by_whole}
use Rattle.sheet.specs.RefusalLaws.{an_accepted_sheet_is_read_to_its_end}
use Rattle.sheet.specs.SheetTheorem.{IsNetwork, an_accepted_sheet_is_a_tree, a_sheet_without_causes_is_accepted}
use Rattle.sheet_records.specs.SameRecords.{name_on, records_of, SameNames, SameRecord, same-site, same-link, SameRecords, GivenAmong, LinksBelow}
use Rattle.sheet_records.specs.SameRecords.{EachLinkBelowItsSites, SameFrame}
use Rattle.sheet_records.specs.RecordLaws.{a_site_is_no_link}
use Rattle.sheet_records.proofs.RecordLaws.{names_turned, names_chained, record_turned}
use Rattle.sheet_records.specs.Held.{LinkRecord, Holds}
use Rattle.sheet_records.specs.LinesRead.{Meet, at-a-site, at-a-link, as_site, a_site_counts, a_link_does_not_count}
use Rattle.sheet_records.proofs.LinesRead.{records_step}
use Rattle.sheet_records.proofs.LinesRead.{meet_turned, meet_carried}
use Rattle.sheet_records.specs.LinesRead.{Kept, ReadTo}
use Rattle.sheet_records.proofs.LinesRead.{what_is_reached_is_read, read_to_the_end, an_accepted_sheet_keeps_its_records}
use Rattle.sheet_records.proofs.LinesRead.{an_accepted_sheet_has_each_link_below_its_sites}
use Rattle.shuffled.specs.Networks.{found_by_name, site_to}

-- ---- links of the same records, on two sheets

-- the same records count alike
counts_alike : (r q : Record) → SameRecord r q → as_site r ≡ as_site q
counts_alike r q (same-site a b letter name) = a_site_counts r a ∙ sym (a_site_counts q b)
counts_alike r q (same-link a b names size reserve) = a_link_does_not_count r a ∙ sym (a_link_does_not_count q b)

-- the records that stand below some have their links below their sites
links-below-from : (above rs more : List Record) → LinksBelow above (rs ++ more) → LinksBelow (above ++ rs) more
links-below-from above [] more h = rw (append-nil above) h
links-below-from above (r ∷ rs) more h = rw (← (append_assoc above (r ∷ []) rs)) (links-below-from (above ++ (r ∷ [])) rs more h.1)

module _ (s : List ℕ) (net : Network) (t : List ℕ) (other : Network) (D : Different t other.names) where
  -- a site goes to the site that answers to the same name
  goes_to : (f g : List ℕ) (v w : ℕ) → Named s net.names f v → Named t other.names g w → SameName f g → site_to s net t other v ≡ w
  goes_to f g v w h k e = found_by_name t other D (name_on s net v) w (record { site = k.site; name = k.name ∙ sym e ∙ sym h.name })

  -- the sites of a link of the one sheet go to those of the link of the same names on the other, in either order
  link_goes_to : {ed ed' : Edition} (i j : ℕ) (r q : Record) → LinkRecord ed s net i r → LinkRecord ed' t other j q
      → SameNames (field r 1) (field r 2) (field q 1) (field q 2)
      → ((site_to s net t other (one net.links i) ≡ one other.links j) × (site_to s net t other (two net.links i) ≡ two other.links j))
      ⊎ ((site_to s net t other (one net.links i) ≡ two other.links j) × (site_to s net t other (two net.links i) ≡ one other.links j))
  link_goes_to i j r q h k (inl e) = inl (goes_to _ _ _ _ h.first k.first e.0, goes_to _ _ _ _ h.second k.second e.1)
  link_goes_to i j r q h k (inr e) = inr (goes_to _ _ _ _ h.first k.second e.0, goes_to _ _ _ _ h.second k.first e.1)

-- the record of a link has its like among the records of another sheet, and that is the record of a link there
link_like : {ed : Edition} {t : List ℕ} {other : Network} {rs : List Record} → Holds ed t rs other → (r q : Record) → IsLink Reserved r → Stands q rs
    → SameRecord r q → (j : ℕ) × LinkRecord ed t other j q × SameNames (field r 1) (field r 2) (field q 1) (field q 2)
link_like H r q is z (same-site a b letter name) = absurd (a_site_is_no_link r a is)
link_like H r q is z (same-link a b names size reserve) = elim (H.held q z) [
  | inl k ↦ absurd (a_site_is_no_link q k.1.is-site b)
  | inr k ↦ (k.0, k.1, names)
]

-- ---- a sheet t that holds the records of an accepted sheet s

module _ (ed : Edition) (network : ed.sizing ≡ Reserved) (s t : List ℕ) (net : Network) (read : read_as ed s ≡ accepted net) (F : SameFrame ed s t)
    (same-records : SameRecords s t) where
  abbrev N : IsNetwork ed s net
  N = an_accepted_sheet_is_a_tree ed s net read

  abbrev K : Kept ed s (records_of s) net
  K = an_accepted_sheet_keeps_its_records ed s network net read

  -- no two records of t meet, and there are as many sites
  apart : Apart Meet (records_of t)
  apart = apart_shuffled SameRecord Meet meet_turned meet_carried same-records K.apart

  counted : tally as_site (records_of t) ≡ length net.names
  counted = sym (K.counted ∙ tally_shuffled SameRecord as_site counts_alike same-records)

  -- line 1 is the heading
  headed : is_heading ed (fields_at t 0) ≡ true
  headed =
      let z = an_accepted_sheet_is_read_to_its_end ed s net read in
      let of-s : is_heading ed (fields_at s 0) ≡ true = elim (what_is_reached_is_read ed s network z.2).3 [
        | inl w ↦ absurd (omega (arith, N.tree.big, ap (λ (n : Network). length n.names) w.2))
        | inr w ↦ w.1
      ] in
      rw F.heading of-s

  -- every line is ended
  line_is_ended : (at : ℕ) → at < length t → Ended t at
  line_is_ended at l = cases (dec_lt (at + length (line_at t at)) (length t)) (λ h. h) (λ h.
      let stays = line_stays_on_sheet t at (omega arith) in
      let i : ℕ = length (line_at t at) - 1 in
      let place : at + i ≡ length t - 1 = omega arith in
      absurd (line_holds_no_ten t at i (omega arith) (line_is_part_of_sheet t at i (omega arith) ∙ ap (λ k. get_or t k 0) place ∙ F.ended)))

  -- ---- a line of t below the heading

  module _ (at : ℕ) (other : Network) (above : List Record) (R : ReadTo ed t at other above) (l : at < length t) where
    abbrev here : Record
    here = fields_at t at

    abbrev rest : List Record
    rest = records (drop (after_line t at) t)

    placed : records_of t ≡ above ++ (here ∷ rest)
    placed = R.rest ∙ ap (λ y. above ++ y) (records_step t at (line_is_ended at l))

    -- no record above meets this one
    alone : (q : Record) → Stands q above → ¬ (Meet q here)
    alone = apart_above Meet above rest here (subst (Apart Meet) placed apart)

    -- this record, and each above, has its like on s
    like : (q : Record) × Stands q (records_of s) × SameRecord q here
    like = shuffled_is_covered SameRecord same-records here (subst (Stands here) (sym placed) (stands_behind here above (here ∷ rest) (inl refl)))

    like-above : (r : Record) → Stands r above → (q : Record) × Stands q (records_of s) × SameRecord q r
    like-above r z = shuffled_is_covered SameRecord same-records r (subst (Stands r) (sym placed) (stands_front r above (here ∷ rest) z))

    -- it has the form of a site or of a link within the limits
    formed : IsSite here ⊎ LinkWithin ed (line_at t at)
    formed = by like.0 like.1 like.2
      where
        by : (q : Record) → Stands q (records_of s) → SameRecord q here → IsSite here ⊎ LinkWithin ed (line_at t at)
        by q z (same-site a b letter name) = inl b
        by q z (same-link a b names size reserve) = elim (K.holds.held q z) [
          | inl k ↦ absurd (a_site_is_no_link q k.1.is-site a)
          | inr k ↦ inr (record {
            link = subst (λ z. IsLink z here) (sym network) b;
            within = rw (← size) k.1.within;
            within2 = omega (arith, size, reserve, k.1.within, k.1.held);
            together = subst (λ z. Together z (value (field here 3)) (value (field here 4))) (sym network) (rw (← size, ← reserve) k.1.held);
          })
        ]

    no-fault : (n : ℕ) → faulty.LineFault ed (line_at t at) n → ⊥
    no-fault n f =
        let fault = (faulty.a_line_is_a_fault_just_for_its_cause ed (line_at t at) n).1 f in
        elim formed [
          | inl is ↦
              let no : Ok (line.Site _ _ _) ≡ Err n = sym (a_site_by_its_form ed (line_at t at) is) ∙ fault in contradiction cc
          | inr is ↦
              let no : Ok (line.Link _ _ _ _ _) ≡ Err n = sym (a_link_by_its_form ed (line_at t at) is) ∙ fault in contradiction cc
        ]

    -- there is room for a site
    room : IsSite here → length other.names < ed.sites
    unfolding tally
    room is = omega (
      arith,
      R.kept.counted,
      counted,
      ap (tally as_site) placed,
      tally-append as_site above (here ∷ rest),
      a_site_counts here is,
      N.few,
    )

    -- a name given above is that of a site
    named-above : (f : List ℕ) → GivenAmong above f → (v : ℕ) × Named t other.names f v
    named-above f g = elim (R.kept.holds.held g.0 g.1) [
      | inl k ↦ (k.0, record { site = k.1.site; name = ap capitals k.1.name ∙ g.3 })
      | inr k ↦ absurd (a_site_is_no_link g.0 g.2 k.1.is-link)
    ]

    -- a link within the limits is one of a network sheet
    is-link : LinkWithin ed (line_at t at) → IsLink Reserved here
    is-link is = subst (λ z. IsLink z here) network is.link

    -- links above do not join the sites of this one: on s, the link of this record has them on its two sides
    not-joined : LinkWithin ed (line_at t at) → (v w : ℕ) → Named t other.names (field here 1) v → Named t other.names (field here 2) w
        → ¬ (Joined other.links v w)
    not-joined is v w p q joined = elim L.2 [
      | inl e ↦ bridge N.tree j L.1.link
          (ap f (sym (goes_to t other s net N.different _ _ v _ p L.1.first e.0))
          ∙ along joined ∙ ap f (goes_to t other s net N.different _ _ w _ q L.1.second e.1))
      | inr e ↦ bridge N.tree j L.1.link
          (ap f (sym (goes_to t other s net N.different _ _ w _ q L.1.first e.1))
          ∙ sym (along joined) ∙ ap f (goes_to t other s net N.different _ _ v _ p L.1.second e.0))
    ]
      where
        L : (j : ℕ) × LinkRecord ed s net j like.0 × SameNames (field here 1) (field here 2) (field like.0 1) (field like.0 2)
        L = link_like K.holds here like.0 (is-link is) like.1 (record_turned like.0 here like.2)

        j : ℕ
        j = L.0

        f : ℕ → ℕ
        f = side net.links j

        -- a link above is another link of s
        other-link : (i k : ℕ) (r q : Record) → Stands r above → LinkRecord ed t other i r → LinkRecord ed s net k q
            → SameNames (field r 1) (field r 2) (field q 1) (field q 2) → k ≢ j
        other-link i k r q z h m names e =
            let one_name = sym (rw e at m.first.name) ∙ L.1.first.name in
            let two-name = sym (rw e at m.second.name) ∙ L.1.second.name in
            alone r z (at-a-link h.is-link (is-link is)
            (names_chained _ _ _ _ _ _ names (names_chained _ _ _ _ _ _ (inl (one_name, two-name)) (names_turned _ _ _ _ L.2))))

        along : {a b : ℕ} → Joined other.links a b → f (site_to t other s net a) ≡ f (site_to t other s net b)
        along same = refl
        along (link i k) =
            let h = R.kept.holds.links i k in
            let o = like-above h.0 h.1 in
            let m = link_like K.holds h.0 o.0 h.2.is-link o.1 (record_turned o.0 h.0 o.2) in
            let beside = side-link net.links m.0 j m.1.link (other-link i m.0 h.0 o.0 h.1 h.2 m.1 m.2) in
            elim (link_goes_to t other s net N.different i m.0 h.0 o.0 h.2 m.1 m.2) [
              | inl e ↦ ap f e.0 ∙ beside ∙ sym (ap f e.1)
              | inr e ↦ ap f e.0 ∙ sym beside ∙ sym (ap f e.1)
            ]
        along (back x) = sym (along x)
        along (chain x y) = along x ∙ along y

    -- so one cause alone is left to refuse the line: a link to a name not given above
    only-6 : (k n : ℕ) → k ≢ 1 → Cause ed t other k at n → n ≡ 6
    only-6 k n d (unended h) = absurd (h (line_is_ended at l))
    only-6 k n d (no_heading h e f) = absurd (d e)
    only-6 k n d (no_letter h e f) = absurd (no-fault 2 (faulty.no_letter f))
    only-6 k n d (wrong_count h e f) = absurd (no-fault 10 (faulty.wrong_count f))
    only-6 k n d (bad_name h e f) = absurd (no-fault 11 (faulty.bad_name f))
    only-6 k n d (bare_name h e f) = absurd (no-fault 17 (faulty.bare_name f))
    only-6 k n d (bad_number h e f) = absurd (no-fault 12 (faulty.bad_number f))
    only-6 k n d (too_large h e f) = absurd (no-fault 3 (faulty.too_large f))
    only-6 k n d (too_much_held h e f) = absurd (no-fault 13 (faulty.too_much_held f))
    only-6 k n d (low-above-high h e f) = absurd (no-fault 19 (faulty.low-above-high f))
    only-6 k n d (too_many h e is m) = absurd (omega (arith, room is))
    only-6 k n d (given h e is m v p) =
        let o = R.kept.holds.sites v p.site in
        absurd (alone o.0 o.1 (at-a-site o.2.is-site is (ap capitals (sym o.2.name) ∙ p.name)))
    only-6 k n d (not-given h e is o) = refl
    only-6 k n d (already_joined h e is v w p q j) = absurd (not-joined is v w p q j)

    -- and not even that, where each link stands below its sites
    not-6 : EachLinkBelowItsSites t → (k n : ℕ) → n ≡ 6 → ¬ (Cause ed t other k at n)
    not-6 below k n six (not-given h e is o) =
        let g = (links-below-from [] above (here ∷ rest) (subst (LinksBelow []) placed below)).0 (is-link is) in
        elim o [
          | inl none ↦ let v = named-above (field here 1) g.0 in none v.0 v.1
          | inr none ↦ let v = named-above (field here 2) g.1 in none v.0 v.1
        ]
    not-6 below k n six (unended h) = omega arith
    not-6 below k n six (no_heading h e f) = omega arith
    not-6 below k n six (no_letter h e f) = omega arith
    not-6 below k n six (wrong_count h e f) = omega arith
    not-6 below k n six (bad_name h e f) = omega arith
    not-6 below k n six (bare_name h e f) = omega arith
    not-6 below k n six (bad_number h e f) = omega arith
    not-6 below k n six (too_large h e f) = omega arith
    not-6 below k n six (too_much_held h e f) = omega arith
    not-6 below k n six (low-above-high h e f) = omega arith
    not-6 below k n six (too_many h e is m) = omega arith
    not-6 below k n six (given h e is m v p) = omega arith
    not-6 below k n six (already_joined h e is v w p q j) = omega arith

  -- ---- all lines of t

  module _ (other : Network) (D : Different t other.names) (M : Kept ed t (records_of t) other) where
    -- what is joined on s is joined on t
    joined-there : {a b : ℕ} → Joined net.links a b → Joined other.links (site_to s net t other a) (site_to s net t other b)
    joined-there same = same
    joined-there (link i k) =
        let h = K.holds.links i k in
        let o = shuffled_covers SameRecord same-records h.0 h.1 in
        let m = link_like M.holds h.0 o.0 h.2.is-link o.1 o.2 in
        let j : Joined other.links (one other.links m.0) (two other.links m.0) = link m.0 m.1.link in
        elim (link_goes_to s net t other D i m.0 h.0 o.0 h.2 m.1 m.2) [
          | inl e ↦ rw (e.0, e.1) j
          | inr e ↦ rw (e.0, e.1) (back j)
        ]
    joined-there (back x) = back (joined-there x)
    joined-there (chain x y) = chain (joined-there x) (joined-there y)

    -- each site of t is that of a site of s
    comes-from : (x : ℕ) → Site (length other.names) x → (y : ℕ) × Site (length net.names) y × (site_to s net t other y ≡ x)
    comes-from x p =
        let h = M.holds.sites x p in
        let o = shuffled_is_covered SameRecord same-records h.0 h.1 in
        by h.0 h.2.is-site h.2.name o.0 o.1 o.2
      where
        by : (r : Record) → IsSite r → name_on t other x ≡ field r 1 → (q : Record) → Stands q (records_of s) → SameRecord q r
            → (y : ℕ) × Site (length net.names) y × (site_to s net t other y ≡ x)
        by r is e q z (same-link a b names size reserve) = absurd (a_site_is_no_link r is b)
        by r is e q z (same-site a b letter name) = elim (K.holds.held q z) [
          | inl k ↦ (
            k.0,
            k.1.site,
            goes_to s net t other D (field q 1) (field r 1) k.0 x
                (record { site = k.1.site; name = ap capitals k.1.name }) (record { site = p; name = ap capitals e }) name,
          )
          | inr k ↦ absurd (a_site_is_no_link q a k.1.is-link)
        ]

    all-joined : (x : ℕ) → Site (length other.names) x → Joined other.links 1 x
    all-joined x p =
        let u = comes-from 1 (omega arith, omega (arith, p)) in
        let v = comes-from x p in
        let j = joined-there (label-joined net.links u.0 v.0 (N.tree.whole u.0 u.1 ∙ sym (N.tree.whole v.0 v.1))) in
        rw (u.2, v.2) at j

    no-fewer : length other.names ≡ length net.names
    no-fewer = M.counted ∙ counted

  -- ---- so t is accepted, or refused with 6

  -- line 1 is refused for nothing
  no_cause_at_first : (at : ℕ) (other : Network) (k n : ℕ) → at < length t → k ≡ 1 → at ≡ 0 → ¬ (Cause ed t other k at n)
  no_cause_at_first at other k n l e z (unended h) = h (line_is_ended at l)
  no_cause_at_first at other k n l e z (no_heading h q f) = true≢false (sym headed ∙ rw z at f)
  no_cause_at_first at other k n l e z (no_letter h d f) = d e
  no_cause_at_first at other k n l e z (wrong_count h d f) = d e
  no_cause_at_first at other k n l e z (bad_name h d f) = d e
  no_cause_at_first at other k n l e z (bare_name h d f) = d e
  no_cause_at_first at other k n l e z (bad_number h d f) = d e
  no_cause_at_first at other k n l e z (too_large h d f) = d e
  no_cause_at_first at other k n l e z (too_much_held h d f) = d e
  no_cause_at_first at other k n l e z (low-above-high h d f) = d e
  no_cause_at_first at other k n l e z (too_many h d is m) = d e
  no_cause_at_first at other k n l e z (given h d is m v p) = d e
  no_cause_at_first at other k n l e z (not-given h d is o) = d e
  no_cause_at_first at other k n l e z (already_joined h d is v w p q j) = d e

  -- no refusal is left but 6 for a line, and none where each link stands below its sites
  pub refused_with_6_alone : (n k : ℕ) → Refusal ed t n k → (n ≡ 6) × (¬ (EachLinkBelowItsSites t))
  refused_with_6_alone n k (by_length (inl e)) = absurd (omega (arith, sym F.ended ∙ get_or-eq_default t 0 {n = length t - 1} (omega arith)))
  refused_with_6_alone n k (by_length (inr h)) = absurd (omega (arith, F.short))
  refused_with_6_alone n k (by_line {at = at} {net = other} some few q l c) = elim (what_is_reached_is_read ed t network q).3 [
    | inl z ↦ absurd (no_cause_at_first at other k n l z.0 z.1 c)
    | inr z ↦
        let six = only-6 at other z.2.0 z.2.1 l k n z.0 c in
        (six, λ below. not-6 at other z.2.0 z.2.1 l below k n six c)
  ]
  refused_with_6_alone n k (by_whole {k = m} {at = at} {net = other} some few q h o) =
      let r = what_is_reached_is_read ed t network q in
      let M = read_to_the_end ed t h r.3 in
      let D = r.2.different in
      absurd (elim o [
        | inl low ↦ omega (arith, no-fewer other D M, N.tree.big)
        | inr z ↦ z.2 (all-joined other D M z.0 z.1)
      ])

  -- a sheet that holds the records of an accepted sheet below the same heading, with every line ended and within the limit of bytes, is accepted exactly if
  -- each link stands below its two sites
  pub accepted_exactly_if_each_link_is_below : ((other : Network) × (read_as ed t ≡ accepted other)) ↔ EachLinkBelowItsSites t
  accepted_exactly_if_each_link_is_below = (
    λ r. an_accepted_sheet_has_each_link_below_its_sites ed t network r.0 r.1,
    λ below. a_sheet_without_causes_is_accepted ed t (λ n k r. (refused_with_6_alone n k r).1 below),
  )

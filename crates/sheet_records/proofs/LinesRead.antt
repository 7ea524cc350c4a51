-- The lines of a sheet that are read, and their records: each is held by the network as a site or a link of its own, each link stands below its two sites.
use Rattle.std.specs.Prelude.{Ok, Err, Bool, cond, ◌≢◌, ◌≡◌, get_or, drop}
use Rattle.std.proofs.Math.Bool.{true, false}
use mathlib.Core.List.{List, [], ◌∷◌, ◌++◌, append_assoc, append-nil, reverse, reverse_aux-append}
use Rattle.std.proofs.Math.Logic.{inl, inr}
use Rattle.std.proofs.Math.Path.{refl, sym, ap, subst}
use Rattle.std.proofs.Common.{◌∙◌, ne_eqb}
use Prim.Native.Nat.{ℕ, suc, ◌+◌, ◌-◌, ◌≤◌, ◌<◌}
use native.Mathlib.Omega.{arith}
use Rattle.std.proofs.Math.Decide.{dec_lt}
use Rattle.std.proofs.Math.ListN.{length, length-append}
use Rattle.lists.specs.Sums.{cases, contradiction}
use Rattle.lists.specs.Tallies.{tally, tally-append}
use Rattle.model.specs.Flows.{Joined, link, back, one, two, label}
use Rattle.model.specs.declared.Edition.{Edition}
use Rattle.model.specs.declared.Sizing.TheVariants.{Reserved}
use Rattle.theory_trees.specs.Labels.{joined-label}
use Rattle.theory_trees.proofs.Fresh.{joined_reversed}
use Rattle.theory_shuffled.specs.ShuffledLaws.{apart_more}
use Rattle.text_lines.specs.Lines.{line_at, after_line}
use Rattle.text_lines.specs.LineLaws.{line_holds_no_ten, ended_lines_cover_the_sheet}
use Rattle.text_fields.specs.Fields.{push, capitals}
use Rattle.text_records.specs.Records.{lines_of, Record, records}
use Rattle.sheet_kinds.specs.LineKinds.{field, is_heading, mark, IsSite, IsLink}
use Rattle.sheet.specs.Sheet.{Stepped, refusal, Network, empty, refused, accepted, with_site, with_link, heading_step, step_of, added, read_line, read_as}
use Rattle.sheet.specs.Causes.{Named, Ended, fields_at, Reached, start, next}
use Rattle.sheet.specs.CauseLaws.{first_name}
use Rattle.sheet.specs.StepCases.{unended_step, first_step}
use Rattle.sheet.specs.Sound.{Sound, Accepts, none_is_sound, a_line_keeps_sound, after-within}
use Rattle.sheet.specs.OwnLines.{IsLinkLine, Adds, step_adds}
use Rattle.sheet.specs.RefusalLaws.{an_accepted_sheet_is_read_to_its_end}
use Rattle.sheet.specs.declared.stepping.Step.TheVariants as step
use Rattle.sheet_records.specs.SameRecords.{records_of, SameRecord, same-site, same-link, GivenAmong, LinksBelow}
use Rattle.sheet_records.specs.RecordLaws.{a_site_is_no_link}
use Rattle.sheet_records.proofs.RecordLaws.{names_turned, names_chained}
use Rattle.sheet_records.specs.Held.{Holds}
use Rattle.sheet_records.proofs.Held.{site_stays, new_site, more_site, more_link}
use Rattle.sheet_records.specs.LinesRead.{Meet, at-a-link, at-a-site}
use Rattle.sheet_records.specs.LinesRead.{as_site, a_site_counts, a_link_does_not_count, one_site_of_a_name, no_records, Kept, ReadTo, ReadSoFar}

-- ---- links below their sites

-- one more record, which has its sites among all above if it is a link
links_below_more : (above rs : List Record) (r : Record) → LinksBelow above rs
    → (IsLink Reserved r → GivenAmong (above ++ rs) (field r 1) × GivenAmong (above ++ rs) (field r 2)) → LinksBelow above (rs ++ (r ∷ []))
links_below_more above [] r h k = (rw (append-nil above) at k, tt)
links_below_more above (q ∷ rs) r h k = (
  h.0,
  links_below_more (above ++ (q ∷ [])) rs r h.1 (rw (append_assoc above (q ∷ []) rs) k),
)

-- ---- the lines

lines_of_line : (l rest : List ℕ) → ((i : ℕ) → i < length l → get_or l i 0 ≢ 10) → lines_of (l ++ 10 ∷ rest) ≡ l ∷ lines_of rest
unfolding lines_of push
lines_of_line [] rest h = refl
lines_of_line (b ∷ l) rest h = rw (ne_eqb b 10 (h 0 (omega arith)), lines_of_line l rest (λ i k. h (suc i) (omega arith)))

-- the records from an offset on are that of the line there and those below
pub records_step : (s : List ℕ) (at : ℕ) → Ended s at → records (drop at s) ≡ fields_at s at ∷ records (drop (after_line s at) s)
unfolding records
records_step s at e = rw (ended_lines_cover_the_sheet s at e, lines_of_line (line_at s at) (drop (after_line s at) s) (line_holds_no_ten s at))

module _ (ed : Edition) (s : List ℕ) where
  -- a line that is read without fault is ended
  an_accepted_line_is_ended : (net : Network) (k at : ℕ) (after : Network) → read_line ed s net k at ≡ accepted after → Ended s at
  unfolding read_line
  an_accepted_line_is_ended net k at after e = cases (dec_lt (at + length (line_at s at)) (length s))
      (λ l. l)
      (λ l. let no : refused 2 k ≡ accepted after = sym (ap (added net) (unended_step ed s net k at (omega arith))) ∙ e in contradiction cc)

  module _ (above : List Record) (net : Network) (K : Kept ed s above net) (at : ℕ) where
    abbrev here : Record
    here = fields_at s at

    -- a site line
    site-kept : IsSite here → Sound ed s (with_site net (first_name s at) (mark here)) → Kept ed s (above ++ (here ∷ [])) (with_site net (first_name s at) (mark here))
    unfolding tally
    site-kept is sound =
        let H = K.holds in
        let q = first_name s at in
        let m = mark here in
        let after = with_site net q m in
        let n = length net.names in
        let new = new_site ed s net above H at is in
        let long = length-append net.names (q ∷ []) in
        record {
          holds = more_site ed s net above H at is;
          below = links_below_more [] above here K.below (λ l. absurd (a_site_is_no_link here is l));
          apart = apart_more Meet above here K.apart (λ r z meet. elim meet [
            | at-a-site a b name ↦ elim (H.held r z) [
              | inl k ↦
                  let old = site_stays ed s net H.marks q m k.0 r k.1 in
                  let place : suc n - 1 ≡ n = omega arith in
                  sound.different n (omega arith) (k.0 - 1) (omega (arith, k.1.site))
                  (ap capitals old.name ∙ name ∙ sym (ap capitals (rw place at new.name)))
              | inr k ↦ a_site_is_no_link r a k.1.is-link
            ]
            | at-a-link a b names ↦ a_site_is_no_link here is b
          ]);
          counted = omega (arith, long, K.counted, tally-append as_site above (here ∷ []), a_site_counts here is);
        }

    -- a link line of a network sheet
    link-kept : ed.sizing ≡ Reserved → (a b c : ℕ) → IsLinkLine ed s net.names at a b c → Sound ed s net → Sound ed s (with_link net (a, b) c)
        → Kept ed s (above ++ (here ∷ [])) (with_link net (a, b) c)
    unfolding tally
    link-kept network a b c is sound after =
        let H = K.holds in
        let is-link : IsLink Reserved here = subst (λ z. IsLink z here) network is.is-link.link in
        let given : (f : List ℕ) (v : ℕ) → Named s net.names f v → GivenAmong above f = λ f v h.
        let k = H.sites v h.site in (k.0, k.1, k.2.is-site, ap capitals (sym k.2.name) ∙ h.name) in
        let fresh : label (reverse net.links) a ≢ label (reverse net.links) b
        = (rw (reverse_aux-append net.links ((a, b) ∷ []) []) at after.fresh).0 in
        let apart : ¬ (Joined net.links a b) = λ j. fresh ((joined_reversed net.links a b).1 (joined-label net.links j)) in
        record {
          holds = more_link ed s net above H at network a b c is;
          below = links_below_more [] above here K.below (λ l. (given (field here 1) a is.first, given (field here 2) b is.second));
          apart = apart_more Meet above here K.apart (λ r z meet. elim meet [
            | at-a-site x y name ↦ a_site_is_no_link here y is-link
            | at-a-link x y names ↦ elim (H.held r z) [
              | inl k ↦ a_site_is_no_link r k.1.is-site x
              | inr k ↦
                  let h = k.1 in
                  let j : Joined net.links (one net.links k.0) (two net.links k.0) = link k.0 h.link in
                  elim names [
                    | inl e ↦
                        let p = one_site_of_a_name s net.names sound.different _ _ _ a h.first is.first e.0 in
                        let q = one_site_of_a_name s net.names sound.different _ _ _ b h.second is.second e.1 in
                        apart (subst (λ v. Joined net.links v b) p (subst (Joined net.links (one net.links k.0)) q j))
                    | inr e ↦
                        let p = one_site_of_a_name s net.names sound.different _ _ _ b h.first is.second e.0 in
                        let q = one_site_of_a_name s net.names sound.different _ _ _ a h.second is.first e.1 in
                        apart (back (subst (λ v. Joined net.links v a) p (subst (Joined net.links (one net.links k.0)) q j)))
                  ]
            ]
          ]);
          counted = omega (arith, K.counted, tally-append as_site above (here ∷ []), a_link_does_not_count here is-link);
        }

  -- a line below the heading that is read is kept
  line_read : ed.sizing ≡ Reserved → (above : List Record) (net : Network) (k at : ℕ) (after : Network) → k ≢ 1 → Sound ed s net → Sound ed s after
      → ReadTo ed s at net above → read_line ed s net k at ≡ accepted after → ReadTo ed s (after_line s at) after (above ++ (fields_at s at ∷ []))
  unfolding read_line
  line_read network above net k at after d sound sound' R e = record { rest = on; kept = by (step_of ed s net k at) (step_adds ed s net k at) e }
    where
      on : records_of s ≡ (above ++ (fields_at s at ∷ [])) ++ records (drop (after_line s at) s)
      on = R.rest ∙ ap (λ y. above ++ y) (records_step s at (an_accepted_line_is_ended net k at after e))
          ∙ sym (append_assoc above (fields_at s at ∷ []) (records (drop (after_line s at) s)))

      by : (w : Stepped) → Adds ed s net k at w → added net w ≡ accepted after → Kept ed s (above ++ (fields_at s at ∷ [])) after
      by (Ok step.Nothing) h e = absurd (d h)
      by (Ok (step.Site a b m)) h e =
          let same : with_site net (first_name s at) (mark (fields_at s at)) ≡ after = rw (← h.1, ← h.2) cc in
          subst (Kept ed s (above ++ (fields_at s at ∷ []))) same (site-kept above net R.kept at h.0 (subst (Sound ed s) (sym same) sound'))
      by (Ok (step.Link a b c)) h e =
          let same : with_link net (a, b) c ≡ after = cc in
          subst (Kept ed s (above ++ (fields_at s at ∷ []))) same (link-kept above net R.kept at network a b c h sound (subst (Sound ed s) (sym same) sound'))
      by (Err r) h e = contradiction cc

  nothing-is-kept : Kept ed s [] empty
  unfolding tally
  nothing-is-kept = record {
    holds = record {
      sites = λ v p. absurd (omega arith);
      links = λ j l. absurd (omega arith);
      held = λ r z. absurd z;
      marks = refl;
      capacities = refl;
    };
    below = tt;
    apart = tt;
    counted = refl;
  }

  -- line 1 is read: it is the heading, and adds nothing
  heading_read : (net after : Network) → read_line ed s net 1 0 ≡ accepted after → (after ≡ net) × (is_heading ed (fields_at s 0) ≡ true)
  unfolding read_line heading_step
  heading_read net after e = by (is_heading ed (fields_at s 0))
      (sym (ap (added net) (first_step ed s net 1 0 (an_accepted_line_is_ended net 1 0 after e) refl)) ∙ e)
    where
      by : (t : Bool) → added net (cond t (Ok step.Nothing) (Err (refusal 2 1))) ≡ accepted after → (after ≡ net) × (t ≡ true)
      by true q = (cc, refl)
      by false q = contradiction cc

  pub what_is_reached_is_read : ed.sizing ≡ Reserved → {k at : ℕ} {net : Network} → Reached ed s k at net
      → (1 ≤ k) × (at ≤ length s) × Sound ed s net × ReadSoFar ed s k at net
  unfolding records_of
  what_is_reached_is_read network start = (omega arith, omega arith, none_is_sound ed s, inl (refl, refl, refl))
  what_is_reached_is_read network (next {k = k} {at = at} {net = net} {after = after} r l e) =
      let h = what_is_reached_is_read network r in
      let sound : Sound ed s after = subst (Accepts (Sound ed s)) e (a_line_keeps_sound ed s net k h.2 at h.1) in
      let o = by h.2 sound h.3 in
      (omega (arith, h.0), after-within ed s at, sound, inr (λ z. omega (arith, h.0), o.0, o.1))
    where
      by : Sound ed s net → Sound ed s after → ReadSoFar ed s k at net
          → (is_heading ed (fields_at s 0) ≡ true) × ((above : List Record) × ReadTo ed s (after_line s at) after above)
      by sound sound' (inl z) =
          let read : read_line ed s net 1 0 ≡ accepted after = rw (← z.0, ← z.1) e in
          let head = heading_read net after read in
          let same : empty ≡ after = sym (head.0 ∙ z.2) in
          let step = records_step s 0 (an_accepted_line_is_ended net 1 0 after read) in
          (head.1, ([], rw z.1 (record { rest = ap (drop 1) step; kept = subst (Kept ed s []) same nothing-is-kept })))
      by sound sound' (inr (d, head, (above, R))) = (head, (above ++ (fields_at s at ∷ []), line_read network above net k at after d sound sound' R e))

  -- where all lines are read, the records are those of the sheet
  pub read_to_the_end : {k at : ℕ} {net : Network} → length s ≤ at → ReadSoFar ed s k at net → Kept ed s (records_of s) net
  unfolding records_of
  read_to_the_end l (inl z) =
      let none : records_of s ≡ [] = ap (drop 1) (no_records s 0 (omega (arith, z.1))) in
      rw (none, z.2) nothing-is-kept
  read_to_the_end {at = at} {net} l (inr (d, head, (above, R))) =
      let all : above ≡ records_of s = sym (append-nil above) ∙ ap (λ y. above ++ y) (sym (no_records s at l)) ∙ sym R.rest in
      subst (λ rs. Kept ed s rs net) all R.kept

  module _ (network : ed.sizing ≡ Reserved) (net : Network) (e : read_as ed s ≡ accepted net) where
    pub an_accepted_sheet_keeps_its_records : Kept ed s (records_of s) net
    an_accepted_sheet_keeps_its_records =
        let z = an_accepted_sheet_is_read_to_its_end ed s net e in read_to_the_end z.3 (what_is_reached_is_read network z.2).3

    -- an accepted sheet gives a site for each site record and a link for each link record, and no other
    pub an_accepted_sheet_holds_its_records : Holds ed s (records_of s) net
    an_accepted_sheet_holds_its_records = an_accepted_sheet_keeps_its_records.holds

    -- and each link of it stands below its two sites
    pub an_accepted_sheet_has_each_link_below_its_sites : LinksBelow [] (records_of s)
    an_accepted_sheet_has_each_link_below_its_sites = an_accepted_sheet_keeps_its_records.below

pub meet_turned : (r q : Record) → Meet r q → Meet q r
meet_turned r q (at-a-site a b name) = at-a-site b a (sym name)
meet_turned r q (at-a-link a b names) = at-a-link b a (names_turned _ _ _ _ names)

-- records whose likes meet, meet
pub meet_carried : (a b c d : Record) → SameRecord a b → SameRecord c d → Meet b d → Meet a c
meet_carried a b c d (same-site p q l n) (same-site p' q' l' n') (at-a-site x y name) = at-a-site p p' (n ∙ name ∙ sym n')
meet_carried a b c d (same-site p q l n) h (at-a-link x y names) = absurd (a_site_is_no_link b q x)
meet_carried a b c d (same-link p q n s r) h (at-a-site x y name) = absurd (a_site_is_no_link b x q)
meet_carried a b c d (same-site p q l n) (same-link p' q' n' s' r') (at-a-site x y name) = absurd (a_site_is_no_link d y q')
meet_carried a b c d (same-link p q n s r) (same-site p' q' l' n') (at-a-link x y names) = absurd (a_site_is_no_link d q' y)
meet_carried a b c d (same-link p q n s r) (same-link p' q' n' s' r') (at-a-link x y names) =
    at-a-link p p' (names_chained _ _ _ _ _ _ n (names_chained _ _ _ _ _ _ names (names_turned _ _ _ _ n')))

-- What holds of the network after every line that is read without fault. By cases on the line: a site line adds a new name, a link line
-- joins two sites that were not joined.
use Rattle.std.specs.Prelude.{Option, Some, None, Ok, Err, Bool, cond, ◌≢◌, ◌≡◌, ltb, length, get_or, take, drop, Result}
use Rattle.std.proofs.Math.Bool.{true, false}
use mathlib.Core.List.{List, [], ◌∷◌, ◌++◌, reverse, reverse_aux-append}
use Rattle.std.proofs.Math.Path.{refl}
use Rattle.std.proofs.Common.{sym, ap, ◌∙◌, length-append, length-drop, drop-drop}
use Prim.Native.Nat.{ℕ, zero, suc, ◌+◌, ◌-◌, ◌≤◌, ◌<◌}
use native.Mathlib.Omega.{arith}
use Rattle.std.proofs.Math.Dec.{eqb, leb}
use Rattle.std.proofs.lemmas.List.{length-reverse, drop-append-le, take-append-le}
use Rattle.std.proofs.Math.ListN.{get_or-append}
use borrow.Author.Tests.{eqb-false, leb-false}
use Rattle.lists.specs.Numbers.{is, look}
use Rattle.model.specs.Flows.{Links, Site, Ends, label, joined}
use Rattle.model.specs.declared.Edition.{Edition}
use Rattle.lists.specs.Sums.{is_same, sum_ge}
use Rattle.theory_trees.specs.Labels.{Fresh, reps}
use Rattle.theory_trees.proofs.Labels.{reps-eq, label-label, label-site}
use Rattle.theory_trees.proofs.Fresh.{joined_reversed}
use Rattle.text_lines.specs.Lines.{line_length, line_at, after_line, has_line}
use Rattle.text_lines.specs.LineLaws.{line_and_what_follows, line_stays_on_sheet}
use Rattle.text_fields.specs.Fields.{SameName}
use Rattle.sheet_kinds.specs.LineKinds.{fields, is_name, is_heading, kind}
use Rattle.sheet_kinds.specs.FormedLines.{Formed, kinds_are_formed}
use Rattle.sheet_kinds.specs.declared.Line.{Line}
use Rattle.sheet_kinds.specs.declared.Line.TheVariants as line
use Rattle.sheet_names.specs.Names.{name_at, Different, Distinct}
use Rattle.sheet_names.specs.Lists.{one_more}
use Rattle.sheet_names.specs.LookupLaws.{Says, lookup_says}
use Rattle.sheet.specs.Sheet.{refusal, Network, empty, Read, refused, accepted, part, lookup, site_by, site_step, link_step, heading_step, record_step, step_of, added}
use Rattle.sheet.specs.Sheet.{with_site, with_link, read_line, and_then, read_lines}
use Rattle.sheet.specs.declared.stepping.Step.TheVariants.{Nothing, Link}

-- a range of the sheet that holds a name
pub record IsNameRange (s : List ℕ) (r : ℕ × ℕ) : Type 0 where
  pub start : r.0 ≤ r.1
  pub end : r.1 ≤ length s
  pub name : is_name (part s r) ≡ true

-- different names, each in its range, are distinct
pub distinct_names : {s : List ℕ} {names : List (ℕ × ℕ)} → ((i : ℕ) → i < length names → IsNameRange s (get_or names i (0, 0))) → Different s names
    → Distinct s names
distinct_names named different = record { different = different; on_sheet = λ i l. ((named i l).start, (named i l).end) }

-- the network read so far: sites within the limit, with different names and a mark of 0 or 1 each, capacities within the limit, and links between sites
-- that those above did not join
pub record Sound (ed : Edition) (s : List ℕ) (net : Network) : Type 0 where
  pub few : length net.names ≤ ed.sites
  pub names : (i : ℕ) → i < length net.names → IsNameRange s (get_or net.names i (0, 0))
  pub different : (j : ℕ) → j < length net.names → (i : ℕ) → i < j → ¬ (SameName (name_at s net.names i) (name_at s net.names j))
  pub marks : length net.marks ≡ length net.names
  pub marked : (i : ℕ) → i < length net.marks → look net.marks i ≤ 1
  pub ends : Ends (reverse net.links) (length net.names)
  pub fresh : Fresh (reverse net.links)
  pub capacities : length net.capacities ≡ length net.links
  pub sizes : (j : ℕ) → j < length net.capacities → look net.capacities j ≤ ed.size

-- what holds of the network where reading goes on
abbrev pub Accepts : (Network → Type 0) → Read → Type 0
Accepts P (refused n k) = Unit {0}
Accepts P (accepted net) = P net

-- ---- a part of a line is a part of the sheet

pub part_of_line : (s : List ℕ) (at a e : ℕ) → a ≤ e → e ≤ length (line_at s at) → part s (at + a, at + e) ≡ take (e - a) (drop a (line_at s at))
part_of_line s at a e p q =
    let l = line_at s at in
    let rest = drop (at + length l) s in
    let from : drop (at + a) s ≡ drop a l ++ rest
    = sym (drop-drop a at s) ∙ ap (drop a) (line_and_what_follows s at) ∙ drop-append-le a l rest (omega arith) in
    let many : at + e - (at + a) ≡ e - a = omega arith in
    rw (from, many) (take-append-le (e - a) (drop a l) rest (omega (arith, length-drop a l)))

line-name : (s : List ℕ) (at a e : ℕ) → at ≤ length s → a ≤ e → e ≤ length (line_at s at) → is_name (take (e - a) (drop a (line_at s at))) ≡ true
    → IsNameRange s (at + a, at + e)
line-name s at a e b p q h = record {
  start = omega arith;
  end = omega (arith, line_stays_on_sheet s at b);
  name = rw (part_of_line s at a e p q) h;
}

-- ---- a line

module _ (ed : Edition) (s : List ℕ) (net : Network) (k : ℕ) (sound : Sound ed s net) where
  -- the line is a site of a new name
  new_site : (r : ℕ × ℕ) → IsNameRange s r → (mark : ℕ) → mark ≤ 1 → length net.names < ed.sites → Says s net.names 1 (part s r) None
      → Sound ed s (with_site net r mark)
  new_site r named mark small few new = record {
    few = omega (arith, length-append net.names (r ∷ []));
    names = one_more (λ i q. IsNameRange s q) net.names r (0, 0) sound.names named;
    different = one_more (λ j q. (i : ℕ) → i < j → ¬ (SameName (name_at s (net.names ++ (r ∷ [])) i) (part s q))) net.names r (0, 0)
        (λ j l i b. rw (get_or-append net.names (r ∷ []) (0, 0) i (omega arith)) (sound.different j l i b))
        (λ i b. rw (get_or-append net.names (r ∷ []) (0, 0) i b) (new i b));
    marks = omega (arith, sound.marks, length-append net.names (r ∷ []), length-append net.marks (mark ∷ []));
    marked = one_more (λ i m. m ≤ 1) net.marks mark 0 sound.marked small;
    ends = λ j l. omega (arith, sound.ends j l, length-append net.names (r ∷ []));
    fresh = sound.fresh;
    capacities = sound.capacities;
    sizes = sound.sizes;
  }

  ends_more : {a b : ℕ} → Site (length net.names) a → Site (length net.names) b → (ls : Links) → Ends ls (length net.names)
      → Ends ((a, b) ∷ ls) (length net.names)
  ends_more p q ls h zero l = (p, q)
  ends_more p q ls h (suc j) l = h j (omega arith)

  -- the line is a link between sites that were not joined
  new_link : (a b size : ℕ) → Site (length net.names) a → Site (length net.names) b → label (reverse net.links) a ≢ label (reverse net.links) b
      → size ≤ ed.size
      → Sound ed s (with_link net (a, b) size)
  new_link a b size p q d h = record {
    few = sound.few;
    names = sound.names;
    different = sound.different;
    marks = sound.marks;
    marked = sound.marked;
    ends = rw (reverse_aux-append net.links ((a, b) ∷ []) []) (ends_more p q (reverse net.links) sound.ends);
    fresh = rw (reverse_aux-append net.links ((a, b) ∷ []) []) (d, sound.fresh);
    capacities = omega (arith, sound.capacities, length-append net.links ((a, b) ∷ []), length-append net.capacities (size ∷ []));
    sizes = one_more (λ i c. c ≤ ed.size) net.capacities size 0 sound.sizes h;
  }

  site-line : (r : ℕ × ℕ) → IsNameRange s r → (mark : ℕ) → mark ≤ 1
      → Accepts (Sound ed s) (added net (site_step ed k (length net.names) r mark (lookup s net.names (part s r))))
  unfolding site_step
  site-line r named mark small = by (leb ed.sites (length net.names)) refl (lookup s net.names (part s r)) (lookup_says s (part s r) net.names 1)
    where
      by : (t : Bool) → leb ed.sites (length net.names) ≡ t → (w : Option ℕ) → Says s net.names 1 (part s r) w
          → Accepts (Sound ed s) (added net (cond t (Err (refusal 4 k)) (site_by k r mark w)))
      by true e w h = tt
      by false e (Some v) h = tt
      by false e None h = new_site r named mark small (leb-false _ _ e) h

  link-line : (r q : ℕ × ℕ) (size : ℕ) → size ≤ ed.size
      → Accepts (Sound ed s) (added net (link_step k net.links size (lookup s net.names (part s r)) (lookup s net.names (part s q))))
  unfolding link_step joined
  link-line r q size h =
      by (lookup s net.names (part s r)) (lookup s net.names (part s q)) (lookup_says s (part s r) net.names 1)
      (lookup_says s (part s q) net.names 1)
    where
      either : (a b : ℕ) → Site (length net.names) a → Site (length net.names) b → (t : Bool) → eqb (joined net.links a b) 1 ≡ t
          → Accepts (Sound ed s) (added net (cond t (Err (refusal 7 k)) (Ok (Link a b size))))
      either a b p q true e = tt
      either a b p q false e = new_link a b size p q (λ z. eqb-false _ _ e (is_same ((joined_reversed net.links a b).0 z))) h

      by : (u w : Option ℕ) → Says s net.names 1 (part s r) u → Says s net.names 1 (part s q) w
          → Accepts (Sound ed s) (added net (link_step k net.links size u w))
      by None w p j = tt
      by (Some a) None p j = tt
      by (Some a) (Some b) p j = either a b (omega arith) (omega arith) (eqb (joined net.links a b) 1) refl

  -- a line that is read without fault keeps what holds
  pub a_line_keeps_sound : (at : ℕ) → at ≤ length s → Accepts (Sound ed s) (read_line ed s net k at)
  unfolding read_line step_of heading_step record_step
  a_line_keeps_sound at b =
      by (ltb (at + line_length (drop at s)) (length s)) (eqb k 1) (kind ed (line_at s at)) (kinds_are_formed ed (line_at s at))
    where
      heading : (t : Bool) → Accepts (Sound ed s) (added net (cond t (Ok Nothing) (Err (refusal 2 1))))
      heading true = sound
      heading false = tt

      later : (w : Result Line ℕ) → Formed ed.size (line_at s at) w → Accepts (Sound ed s) (added net (record_step ed s net k at w))
      later (Ok (line.Site a e m)) h = site-line (at + a, at + e) (line-name s at a e b h.0 h.1 h.2) m h.3
      later (Ok (line.Link a e c f size)) h = link-line (at + a, at + e) (at + c, at + f) size h.4
      later (Err n) h = tt

      by : (t u : Bool) (w : Result Line ℕ) → Formed ed.size (line_at s at) w
          → Accepts (Sound ed s) (added net (cond t (cond u (heading_step ed (line_at s at)) (record_step ed s net k at w)) (Err (refusal 2 k))))
      by false u w h = tt
      by true true w h = heading (is_heading ed (fields (line_at s at)))
      by true false w h = later w h

-- ---- the lines

pub none_is_sound : (ed : Edition) (s : List ℕ) → Sound ed s empty
none_is_sound ed s = record {
  few = omega arith;
  names = λ i l. absurd (omega arith);
  different = λ j l. absurd (omega arith);
  marks = refl;
  marked = λ i l. absurd (omega arith);
  ends = λ j l. absurd (omega arith);
  fresh = tt;
  capacities = refl;
  sizes = λ j l. absurd (omega arith);
}

-- what holds where reading stops, from what holds where it goes on
pub goes_on : (P Q : Network → Type 0) (r : Read) (f : Network → Read) → Accepts P r → ((net : Network) → P net → Accepts Q (f net)) → Accepts Q (and_then r f)
unfolding and_then
goes_on P Q (refused n k) f h g = tt
goes_on P Q (accepted net) f h g = g net h

module _ (ed : Edition) (s : List ℕ) where
  pub after-within : (at : ℕ) → after_line s at ≤ length s
  unfolding after_line
  after-within at = omega arith

  pub lines_keep_sound : (fuel k at : ℕ) (net : Network) → at ≤ length s → Sound ed s net → Accepts (Sound ed s) (read_lines ed s fuel k at net)
  unfolding read_lines
  lines_keep_sound zero k at net b h = h
  lines_keep_sound (suc fuel) k at net b h = by (has_line s at) (and_then (read_line ed s net k at) (λ next. read_lines ed s fuel (suc k) (after_line s at) next))
      (goes_on (Sound ed s) (Sound ed s) (read_line ed s net k at) (λ next. read_lines ed s fuel (suc k) (after_line s at) next)
      (a_line_keeps_sound ed s net k h at b)
      (λ next. lines_keep_sound fuel (suc k) (after_line s at) next (after-within at)))
    where
      by : (t : Bool) (r : Read) → Accepts (Sound ed s) r → Accepts (Sound ed s) (cond t r (accepted net))
      by true r p = p
      by false r p = h

-- ---- fresh links are fewer than sites

fresh_links_are_few : (ls : Links) (n : ℕ) → Ends ls n → Fresh ls → 1 ≤ n → length ls < n
unfolding reps
fresh_links_are_few ls n ends fresh h = own (label ls 1) (label-label ls 1) (label-site ls n ends 1 (omega arith, h))
  where
    own : (u : ℕ) → label ls u ≡ u → Site n u → length ls < n
    own zero e b = omega arith
    own (suc u) e b = omega (arith, reps-eq ls n ends fresh, is_same e, sum_ge n u (λ i. is (label ls (suc i)) (suc i)) b.1)

pub links_are_few : {ed : Edition} {s : List ℕ} {net : Network} → Sound ed s net → 1 ≤ length net.names → length net.links < length net.names
links_are_few {net = net} sound h =
    omega (arith, fresh_links_are_few (reverse net.links) (length net.names) sound.ends sound.fresh h, length-reverse net.links)

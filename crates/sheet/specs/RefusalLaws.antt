-- A sheet is refused for its cause and for no other. Reading reaches the line that decides, or the end of the sheet; the cause at hand then is
-- that of the refusal, and a cause that is there refuses.
use Rattle.std.specs.Prelude.{Bool, ◌&&◌, List, ◌⊎◌, ◌≡◌}
use Rattle.std.proofs.Math.Bool.{true, false, cond, and-false}
use Rattle.std.proofs.Common.{true≢false, inl, inr, ◌∙◌}
use Rattle.std.proofs.Math.Path.{refl, subst}
use Prim.Native.Nat.{ℕ, zero, suc, ◌+◌, ◌-◌, ◌≤◌, ◌<◌}
use Rattle.std.proofs.Math.Nat.{sub-zero}
use native.Mathlib.Omega.{arith}
use Rattle.std.proofs.Math.Dec.{eqb, leb, ltb}
use Rattle.std.proofs.Math.ListN.{length}
use borrow.Author.Tests.{eqb-true, eqb-false, leb-true, leb-false, le-leb, lt-leb, ltb-true, ltb-false, lt-ltb}
use Rattle.lists.specs.Numbers.{upfrom}
use Rattle.model.specs.Flows.{Links, Site, sites, joined, Joined}
use Rattle.model.specs.declared.Edition.{Edition}
use Rattle.lists.specs.Sums.{same?}
use Rattle.theory_trees.proofs.Labels.{joined_iff}
use Rattle.text_lines.specs.Lines.{after_line, has_line}
use Rattle.text_lines.specs.LineLaws.{after-line-is-later}
use Rattle.sheet_kinds.specs.LineKindLaws.{both}
use Rattle.sheet.specs.Sheet.{Network, empty, Read, refused, accepted, read_line, and_then, read_lines, all_joined, finish, read_as}
use Rattle.sheet.specs.Sound.{Sound, Accepts, none_is_sound, a_line_keeps_sound, after-within}
use Rattle.sheet.specs.ReadLaws.{lines_end, lines_step}
use Rattle.sheet.specs.Causes.{Cause, Reached, start, next, Refusal, by_length, by_line, by_whole}
use Rattle.sheet.specs.CauseLaws.{a_refused_line_has_its_cause, a_cause_refuses_its_line}

-- ---- all sites joined

module _ (ls : Links) where
  each-joined : (b m : ℕ) → all_joined ls (upfrom b m) ≡ true → (x : ℕ) → b ≤ x → x < b + m → Joined ls 1 x
  unfolding all_joined upfrom
  each-joined b zero e x l h = absurd (omega arith)
  each-joined b (suc m) e x l h =
      let k = both (eqb (joined ls 1 b) 1) (all_joined ls (upfrom (suc b) m)) e in
      same? b x
      (λ z. rw (← z) ((joined_iff ls 1 b).0 (eqb-true _ _ k.0)))
      (λ d. each-joined (suc b) m k.1 x (omega arith) (omega arith))

  one_apart : (b m : ℕ) → all_joined ls (upfrom b m) ≡ false → (x : ℕ) × (b ≤ x) × (x < b + m) × (¬ (Joined ls 1 x))
  unfolding all_joined upfrom
  one_apart b zero e = absurd (true≢false e)
  one_apart b (suc m) e = by (eqb (joined ls 1 b) 1) refl e (one_apart (suc b) m)
    where
      by : (t : Bool) → eqb (joined ls 1 b) 1 ≡ t → (t && all_joined ls (upfrom (suc b) m)) ≡ false
          → (all_joined ls (upfrom (suc b) m) ≡ false → (x : ℕ) × (suc b ≤ x) × (x < suc b + m) × (¬ (Joined ls 1 x)))
          → (x : ℕ) × (b ≤ x) × (x < b + suc m) × (¬ (Joined ls 1 x))
      by true q f more = let h = more f in (h.0, omega arith, omega arith, h.3)
      by false q f more = (b, omega arith, omega arith, λ j. eqb-false _ _ q ((joined_iff ls 1 b).1 j))

  -- all sites are joined to site 1, or one is not
  pub all-joined : (n : ℕ) → all_joined ls (sites n) ≡ true → (x : ℕ) → Site n x → Joined ls 1 x
  all-joined n e x h = each-joined 1 n e x h.0 (omega arith)

  not-all-joined : (n : ℕ) → all_joined ls (sites n) ≡ false → (x : ℕ) × Site n x × (¬ (Joined ls 1 x))
  not-all-joined n e = let h = one_apart 1 n e in (h.0, (h.1, omega arith), h.3)

-- ---- the line that decides

module _ (ed : Edition) (s : List ℕ) where
  -- where reading has come to
  reached : {k at : ℕ} {net : Network} → Reached ed s k at net
      → (at ≤ length s) × Sound ed s net × (read_lines ed s (length s) 1 0 empty ≡ read_lines ed s (length s - at) k at net)
  unfolding and_then
  reached start = (omega arith, none_is_sound ed s, rw sub-zero)
  reached (next {k = k} {at = at} {net = net} r h e) =
      let p = reached r in
      (after-within ed s at, subst (Accepts (Sound ed s)) e (a_line_keeps_sound ed s net k p.1 at p.0), p.2 ∙ lines_step ed s k at net h ∙ rw e)

  -- reading stops at a line with a cause, or at the end of the sheet
  abbrev Stops : Read → Type 0
  Stops (refused n k) = (at : ℕ) × (net : Network) × Reached ed s k at net × (at < length s) × Cause ed s net k at n
  Stops (accepted net) = (k : ℕ) × (at : ℕ) × Reached ed s k at net × (length s ≤ at)

  line-stops : {k at : ℕ} {net : Network} → Reached ed s k at net → at < length s → (r : Read) → read_line ed s net k at ≡ r
      → (f : Network → Read) → ((after : Network) → read_line ed s net k at ≡ accepted after → Stops (f after)) → Stops (and_then r f)
  unfolding and_then
  line-stops {k} {at} {net} q h (refused n m) e f more =
      let c = a_refused_line_has_its_cause ed s net k at n m e in
      rw c.0 (at, net, q, h, c.1)
  line-stops q h (accepted after) e f more = more after e

  lines_stop : (fuel k at : ℕ) (net : Network) → Reached ed s k at net → length s ≤ at + fuel → Stops (read_lines ed s fuel k at net)
  unfolding read_lines has_line
  lines_stop zero k at net q l = (k, at, q, omega arith)
  lines_stop (suc fuel) k at net q l = by (ltb at (length s)) refl (and_then (read_line ed s net k at) (read_lines ed s fuel (suc k) (after_line s at)))
      (λ h. line-stops q h (read_line ed s net k at) refl (read_lines ed s fuel (suc k) (after_line s at))
      (λ after e. lines_stop fuel (suc k) (after_line s at) after (next q h e) (omega (arith, after-line-is-later s at (lt-ltb at (length s) h)))))
    where
      by : (t : Bool) → ltb at (length s) ≡ t → (r : Read) → (at < length s → Stops r) → Stops (cond t r (accepted net))
      by true e r more = more (ltb-true _ _ e)
      by false e r more = (k, at, q, ltb-false _ _ e)

  -- ---- the sheet

  -- a refused sheet has its cause, and an accepted one is read to its end
  abbrev Right : Read → Type 0
  Right (refused n k) = Refusal ed s n k
  Right (accepted net) = (k : ℕ) × (at : ℕ) × Reached ed s k at net × (length s ≤ at)

  module _ (some : 1 ≤ length s) (few : length s ≤ ed.bytes) where
    finish-right : (k at : ℕ) (net : Network) → Reached ed s k at net → length s ≤ at → Right (finish net)
    unfolding finish
    finish-right k at net q h = by (leb 2 (length net.names)) refl (all_joined net.links (sites (length net.names))) refl
      where
        by : (t : Bool) → leb 2 (length net.names) ≡ t → (u : Bool) → all_joined net.links (sites (length net.names)) ≡ u
            → Right (cond (t && u) (accepted net) (refused 8 0))
        by true e true f = (k, at, q, h)
        by true e false f = by_whole some few q h (inr (not-all-joined net.links (length net.names) f))
        by false e u f = by_whole some few q h (inl (leb-false _ _ e))

    lines-right : (r : Read) → Stops r → Right (and_then r finish)
    unfolding and_then
    lines-right (refused n k) h = by_line some few h.2 h.3 h.4
    lines-right (accepted net) h = finish-right h.0 h.1 net h.2 h.3

  sheet_right : Right (read_as ed s)
  unfolding read_as
  sheet_right = by (leb 1 (length s)) refl (leb (length s) ed.bytes) refl
    where
      by : (t : Bool) → leb 1 (length s) ≡ t → (u : Bool) → leb (length s) ed.bytes ≡ u
          → Right (cond (t && u) (and_then (read_lines ed s (length s) 1 0 empty) finish) (refused 1 0))
      by true e true f =
          lines-right (leb-true _ _ e) (leb-true _ _ f) (read_lines ed s (length s) 1 0 empty) (lines_stop (length s) 1 0 empty start (omega arith))
      by true e false f = by_length (inr (leb-false _ _ f))
      by false e u f = by_length (inl (omega (arith, leb-false 1 (length s) e)))

  pub a_refused_sheet_has_its_cause : (n k : ℕ) → read_as ed s ≡ refused n k → Refusal ed s n k
  a_refused_sheet_has_its_cause n k e = subst Right e sheet_right

  pub an_accepted_sheet_is_read_to_its_end : (net : Network) → read_as ed s ≡ accepted net
      → (k : ℕ) × (at : ℕ) × Reached ed s k at net × (length s ≤ at)
  an_accepted_sheet_is_read_to_its_end net e = subst Right e sheet_right

  lines-decide : 1 ≤ length s → length s ≤ ed.bytes → read_as ed s ≡ and_then (read_lines ed s (length s) 1 0 empty) finish
  unfolding read_as
  lines-decide some few = rw (le-leb 1 (length s) some, le-leb (length s) ed.bytes few)

  not-whole : (net : Network) → (length net.names < 2) ⊎ ((x : ℕ) × Site (length net.names) x × (¬ (Joined net.links 1 x))) → finish net ≡ refused 8 0
  unfolding finish
  not-whole net (inl l) = rw (lt-leb 2 (length net.names) l)
  not-whole net (inr w) = by (all_joined net.links (sites (length net.names))) refl
    where
      by : (t : Bool) → all_joined net.links (sites (length net.names)) ≡ t
          → cond (leb 2 (length net.names) && t) (accepted net) (refused 8 0) ≡ refused 8 0
      by true e = absurd (w.2 (all-joined net.links (length net.names) e w.0 w.1))
      by false e = rw and-false

  pub a_cause_refuses_its_sheet : (n k : ℕ) → Refusal ed s n k → read_as ed s ≡ refused n k
  unfolding read_as and_then
  a_cause_refuses_its_sheet n k (by_length (inl e)) = rw (lt-leb 1 (length s) (omega arith))
  a_cause_refuses_its_sheet n k (by_length (inr h)) = rw (le-leb 1 (length s) (omega arith), lt-leb (length s) ed.bytes h)
  a_cause_refuses_its_sheet n k (by_line {at = at} {net = net} some few q h c) =
      lines-decide some few ∙ rw ((reached q).2, lines_step ed s k at net h, a_cause_refuses_its_line ed s net k at (reached q).1 n c)
  a_cause_refuses_its_sheet n k (by_whole {k = m} {at = at} {net = net} some few q h w) =
      lines-decide some few ∙ rw ((reached q).2, lines_end ed s (length s - at) m at net h) (not-whole net w)

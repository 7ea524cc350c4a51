-- The owners: a terminal put at the places of its cut that have none yet.
use mathlib.Core.Path.{◌≡◌, refl, sym, ap, ◌∙◌}
use mathlib.Core.Logic.{◌≢◌}
use mathlib.Core.List.{List, [], ◌∷◌, map}
use Prim.Native.Nat.{ℕ, zero, suc, ◌+◌, ◌-◌, ◌*◌, ◌≤◌, ◌<◌, max}
use native.Mathlib.Nat.{add-zero, add-suc, suc-add, one-mul, zero-mul}
use native.Mathlib.Numerals.{one-add}
use native.Mathlib.Omega.{arith}
use native.Mathlib.Decide.{dec_lt}
use lib.ListN.{length, set, length-set, length-map}
use lib.Seq.{ext_get_or, get_or-set_same, get_or-set_other}
use Rattle.model.specs.Limits.{SITES}
use Rattle.lists.specs.Numbers.{pick, is, look, upfrom}
use Rattle.model.specs.Flows.{Links, sites}
use Rattle.model.specs.Cuts.{in_cut, owner_among}
use Rattle.lists.specs.Sums.{pick_same, pick_other, is_same, is-other, cases, same?}
use Rattle.lists.specs.Places.{length-upfrom, look_values}
use Rattle.tree_sets.specs.Laws.{First, Coming, coming_first, coming_below, coming_others, coming_end}
use Rattle.tree.specs.Places.{same_values}
use Rattle.cuts_groups.specs.Steps.{claim}

-- a cut is told by its places
pub claims_same : (old : List ℕ) (cut cut' : ℕ → ℕ) (a : ℕ) → ((i : ℕ) → cut i ≡ cut' i)
    → map (claim old cut a) (upfrom 0 SITES) ≡ map (claim old cut' a) (upfrom 0 SITES)
unfolding claim
claims_same old cut cut' a e = same_values (claim old cut a) (claim old cut' a) SITES (λ i h. rw (e i) refl)

-- the owners are as they will be below p, and as they were from p up
pub record Claiming (old : List ℕ) (cut : ℕ → ℕ) (a p : ℕ) (owners : List ℕ) : Type 0 where
  pub long : length owners ≡ SITES
  pub done : (i : ℕ) → i < p → look owners i ≡ claim old cut a i
  pub left : (i : ℕ) → p ≤ i → look owners i ≡ look old i

module _ (old : List ℕ) (cut : ℕ → ℕ) (a : ℕ) where
  -- a place that the cut does not hold keeps its owner, and so does a place with one
  claim_out : (i : ℕ) → cut i ≢ 1 → look old i ≡ claim old cut a i
  unfolding claim
  claim_out i d = rw (pick_other d) (same? (look old i) 0 (λ e. rw (pick_same e) e) (λ n. sym (pick_other n _ _)))

  claim-kept : (i : ℕ) → look old i ≢ 0 → look old i ≡ claim old cut a i
  unfolding claim
  claim-kept i d = sym (pick_other d _ _)

  claim_new : (i : ℕ) → look old i ≡ 0 → cut i ≡ 1 → a ≡ claim old cut a i
  unfolding claim
  claim_new i z e = sym (pick_same z _ _ ∙ pick_same e _ _)

  pub claiming_start : length old ≡ SITES → Claiming old cut a 0 old
  claiming_start l = record { long = l; done = λ i h. absurd (omega arith); left = λ i h. refl }

  module _ (p m : ℕ) (owners : List ℕ) (s : Claiming old cut a p owners) (f : First cut p (SITES - p) m) where
    -- the places before m stay
    passed : (i : ℕ) → i < m → look owners i ≡ claim old cut a i
    passed i h = cases (dec_lt i p) (λ l. s.done i l) (λ l. s.left i (omega arith) ∙ claim_out i (f.miss i (omega arith) h))

    pub claiming_kept : look owners m ≢ 0 → Claiming old cut a (m + 1) owners
    claiming_kept d = record {
      long = s.long;
      done = λ i h. same? i m
          (λ e. let o = s.left m f.from in rw e (o ∙ claim-kept m (λ z. d (o ∙ z))))
          (λ n. passed i (omega arith));
      left = λ i h. s.left i (omega (arith, f.from));
    }

    pub claiming_new : look owners m ≡ 0 → Claiming old cut a (m + 1) (set owners m a)
    claiming_new z = record {
      long = length-set owners m a ∙ s.long;
      done = λ i h. same? i m
          (λ e. rw e (get_or-set_same owners m a 0 (omega (arith, s.long, f.to)) ∙ claim_new m (sym (s.left m f.from) ∙ z) f.hit))
          (λ n. get_or-set_other owners m i a 0 n ∙ passed i (omega arith));
      left = λ i h. get_or-set_other owners m i a 0 (λ e. omega arith) ∙ s.left i (omega (arith, f.from));
    }

  pub claiming_end : (p : ℕ) (owners : List ℕ) → Claiming old cut a p owners → ((i : ℕ) → p ≤ i → i < SITES → cut i ≢ 1)
      → owners ≡ map (claim old cut a) (upfrom 0 SITES)
  claiming_end p owners s none = ext_get_or 0 owners (map (claim old cut a) (upfrom 0 SITES))
      (s.long ∙ sym (length-map (upfrom 0 SITES) (claim old cut a) ∙ length-upfrom 0 SITES))
      (λ i h. cases (dec_lt i p) (λ l. s.done i l) (λ l. s.left i (omega arith) ∙ claim_out i (none i (omega arith) (omega (arith, s.long))))
      ∙ sym (look_values (claim old cut a) SITES i (omega (arith, s.long))))

-- ---- a put at places one after another

-- a put at each of these places that has no owner
unfoldable pub put_at_each : ℕ → List ℕ → List ℕ → List ℕ
put_at_each a owners [] = owners
put_at_each a owners (m ∷ ms) = put_at_each a (pick (look owners m) 0 (set owners m a) owners) ms

pub put_at_none : (a : ℕ) (owners : List ℕ) → put_at_each a owners [] ≡ owners
unfolding put_at_each
put_at_none a owners = refl

module _ (a : ℕ) (owners : List ℕ) (m : ℕ) (ms : List ℕ) where
  pub put_at_free : look owners m ≡ 0 → put_at_each a (set owners m a) ms ≡ put_at_each a owners (m ∷ ms)
  unfolding put_at_each
  put_at_free e = ap (λ o. put_at_each a o ms) (sym (pick_same e _ _))

  pub put_at_owned : look owners m ≢ 0 → put_at_each a owners (m ∷ ms) ≡ put_at_each a owners ms
  unfolding put_at_each
  put_at_owned d = ap (λ o. put_at_each a o ms) (pick_other d _ _)

-- at each of the members of a cut it is put where the cut has a place without an owner
module _ (old : List ℕ) (cut : ℕ → ℕ) (a : ℕ) where
  put_from : (ms : List ℕ) (p : ℕ) (owners : List ℕ) → Coming cut p ms → Claiming old cut a p owners → put_at_each a owners ms ≡ map (claim old cut a) (upfrom 0 SITES)
  put_from [] p owners come s = put_at_none a owners ∙ claiming_end old cut a p owners s (coming_end cut come refl)
  put_from (m ∷ ms) p owners come s =
      let first = coming_first cut come refl in
      let others = coming_others cut come refl in
      same? (look owners m) 0
      (λ e. sym (put_at_free a owners m ms e) ∙ put_from ms (m + 1) (set owners m a) others (claiming_new old cut a p m owners s first e))
      (λ d. put_at_owned a owners m ms d ∙ put_from ms (m + 1) owners others (claiming_kept old cut a p m owners s first d))

  pub put_at_members : (ms : List ℕ) → length old ≡ SITES → Coming cut 0 ms → put_at_each a old ms ≡ map (claim old cut a) (upfrom 0 SITES)
  put_at_members ms long come = put_from ms 0 old come (claiming_start old cut a long)

-- the least number above all of these
unfoldable pub above : List ℕ → ℕ
above [] = 0
above (m ∷ ms) = max (m + 1) (above ms)

pub above_each : (m : ℕ) (ms : List ℕ) → (m < above (m ∷ ms)) × (above ms ≤ above (m ∷ ms))
unfolding above
above_each m ms = (omega arith, omega arith)

-- the members of a cut are places of the owners
pub members_in_place : (cut : ℕ → ℕ) (ms : List ℕ) (p : ℕ) → Coming cut p ms → above ms ≤ SITES
unfolding above
members_in_place cut [] p come = omega arith
members_in_place cut (m ∷ ms) p come = omega (arith, coming_below cut come refl, members_in_place cut ms (m + 1) (coming_others cut come refl))

-- ---- the search through the sites, one site more

module _ (ls : Links) (c t terminal : ℕ → ℕ) (x : ℕ) where
  abbrev among : List ℕ → ℕ
  among us = owner_among ls c t terminal us x

  among_first : (a : ℕ) (us : List ℕ) → is (terminal a) 1 * in_cut ls c t a x ≡ 1 → among (a ∷ us) ≡ a
  unfolding owner_among
  among_first a us e = pick_same e _ _

  among-rest : (a : ℕ) (us : List ℕ) → is (terminal a) 1 * in_cut ls c t a x ≢ 1 → among (a ∷ us) ≡ among us
  unfolding owner_among
  among-rest a us d = pick_other d _ _

  upfrom-suc : (b k : ℕ) → upfrom b (suc k) ≡ b ∷ upfrom (suc b) k
  unfolding upfrom
  upfrom-suc b k = refl

  owner_only : (b : ℕ) → among (upfrom b 1) ≡ pick (among (upfrom b 0)) 0 (pick (is (terminal b) 1 * in_cut ls c t b x) 1 b 0) (among (upfrom b 0))
  unfolding owner_among upfrom
  owner_only b = sym (pick_same refl _ _)

  -- the site that comes last decides only where no owner was found
  owner_last : (b k : ℕ) → 1 ≤ b
      → among (upfrom b (suc k)) ≡ pick (among (upfrom b k)) 0 (pick (is (terminal (b + k)) 1 * in_cut ls c t (b + k) x) 1 (b + k) 0) (among (upfrom b k))
  owner_last b zero h = rw (add-zero b) (owner_only b)
  owner_last b (suc k) h = rw (upfrom-suc b (suc k), upfrom-suc b k) (same? (is (terminal b) 1 * in_cut ls c t b x) 1
      (λ e. rw (among_first b (upfrom (suc b) (suc k)) e, among_first b (upfrom (suc b) k) e) (sym (pick_other {u = b} {v = 0} (λ z. omega arith) _ _)))
      (λ d. rw (among-rest b (upfrom (suc b) (suc k)) d, among-rest b (upfrom (suc b) k) d, add-suc, ← (suc-add b k)) (owner_last (suc b) k (omega arith))))

  pub owner-terminal : (k : ℕ) → terminal (suc k) ≡ 1
      → among (sites (suc k)) ≡ pick (among (sites k)) 0 (pick (in_cut ls c t (suc k) x) 1 (suc k) 0) (among (sites k))
  owner-terminal k e = owner_last 1 k (omega arith) ∙ rw (one-add k, is_same e, one-mul) refl

  pub owner_inner : (k : ℕ) → terminal (suc k) ≢ 1 → among (sites k) ≡ among (sites (suc k))
  owner_inner k d = sym (owner_last 1 k (omega arith) ∙ rw (one-add k, is-other d, zero-mul, pick_other {u = 0} {v = 1} (λ z. omega arith))
      (same? (among (sites k)) 0 (λ e. rw (pick_same e) (sym e)) (λ n. pick_other n _ _)))

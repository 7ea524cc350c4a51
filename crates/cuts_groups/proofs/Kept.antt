-- The groups of sites: labels by the links that are kept, taken in one at a time, the last first; then settled.
use mathlib.Core.Path.{◌≡◌, refl, sym, ap, ap₂, subst, ◌∙◌}
use mathlib.Core.List.{List, [], ◌∷◌}
use Prim.Native.Nat.{ℕ, suc, ◌+◌, ◌≤◌, ◌<◌}
use native.Mathlib.Nat.{add-zero, zero-add}
use native.Mathlib.Numerals.{add-one}
use native.Mathlib.Decide.{dec_lt}
use native.Mathlib.Omega.{arith}
use lib.ListN.{length, drop, get_or, drop_of_length-le, get_or-eq_default}
use lib.Seq.{drop-cons}
use Rattle.model.specs.Limits.{PLACES, SITES}
use Rattle.lists.specs.Numbers.{pick, is, less, look, upfrom}
use Rattle.model.specs.Flows.{Links, label}
use Rattle.model.specs.Cuts.{kept, group, in_cut}
use Rattle.lists.specs.Sums.{pick_same, pick_other, cases, less_one, less_none}
use Rattle.tree_parents.specs.Parents.{Tells, linked, Settled}
use Rattle.tree_parents.specs.Roots.{own-tells, labels_same, labels_low}
use Rattle.tree.specs.Offer.{links}
use Rattle.tree.specs.Links.{length-links, links-one, links-two}

-- ---- the kept links from position j on

kept_same : (u v : ℕ → ℕ) (ls : Links) → ((i : ℕ) → u i ≡ v i) → kept u ls ≡ kept v ls
unfolding kept
kept_same u v [] h = refl
kept_same u v (l ∷ ls) h = rw (h 0, kept_same (λ i. u (suc i)) (λ i. v (suc i)) ls (λ i. h (suc i))) refl

abbrev kept_from : (ℕ → ℕ) → Links → ℕ → Links
kept_from u ls j = kept (λ i. u (j + i)) (drop j ls)

kept_next : (u : ℕ → ℕ) (ls : Links) (j : ℕ) → j < length ls
    → kept_from u ls j ≡ pick (u j) 1 (get_or ls j (0, 0) ∷ kept_from u ls (j + 1)) (kept_from u ls (j + 1))
unfolding kept
kept_next u ls j h =
    let rest : kept (λ i. u (j + suc i)) (drop (suc j) ls) ≡ kept_from u ls (j + 1) =
    rw add-one (kept_same (λ i. u (j + suc i)) (λ i. u (suc j + i)) (drop (suc j) ls) (λ i. ap u (omega arith))) in
    rw (drop-cons ls j (0, 0) h, rest, add-zero) refl

-- ---- the labels by them, held by parents

-- the labels by the kept links from position j on
abbrev pub group_from : List ℕ → List ℕ → List ℕ → List ℕ → ℕ → ℕ → ℕ
group_from a b c t j = label (kept_from (λ i. less (look t i) (look c i)) (links a b) j)

module _ (a b c t : List ℕ) (same : length b ≡ length a) where
  pub groups_none : Tells (upfrom 0 PLACES) (group_from a b c t (length a))
  unfolding label kept
  groups_none =
      let past : drop (length a) (links a b) ≡ [] = drop_of_length-le (links a b) {i = length a} (omega (arith, length-links a b (sym same))) in
      rw past (own-tells PLACES (λ x. x) (λ x. refl))

  module _ {parents : List ℕ} (j : ℕ) (h : j < length a) where
    pub groups_in : look t j < look c j → Tells parents (linked (group_from a b c t (j + 1)) (look a j) (look b j)) → Tells parents (group_from a b c t j)
    unfolding linked label
    groups_in l w =
        let u : ℕ → ℕ = λ i. less (look t i) (look c i) in
        let from : kept_from u (links a b) j ≡ (look a j, look b j) ∷ kept_from u (links a b) (j + 1) =
        kept_next u (links a b) j (omega (arith, length-links a b (sym same)))
        ∙ rw (less_one l, pick_same {u = 1} refl)
        (ap₂ (λ x y. (x, y) ∷ kept_from u (links a b) (j + 1)) (links-one a b j h (omega arith)) (links-two a b j h (omega arith))) in
        rw from w

    pub groups_out : look c j ≤ look t j → Tells parents (group_from a b c t (j + 1)) → Tells parents (group_from a b c t j)
    groups_out l w =
        let u : ℕ → ℕ = λ i. less (look t i) (look c i) in
        let from : kept_from u (links a b) j ≡ kept_from u (links a b) (j + 1) =
        kept_next u (links a b) j (omega (arith, length-links a b (sym same)))
        ∙ rw (less_none {a = look t j} {b = look c j} (λ k. omega arith), pick_other {u = 0} {v = 1} (λ k. omega arith)) refl in
        rw from w

  pub groups-all : {parents : List ℕ} → Tells parents (group_from a b c t 0) → Tells parents (group (links a b) (look c) (look t))
  unfolding group
  groups-all {parents} = subst (λ ks. Tells parents (label ks))
      (kept_same (λ i. less (look t (0 + i)) (look c (0 + i))) (λ i. less (look t i) (look c i)) (links a b) (λ i. rw zero-add refl))

-- ---- and settled

-- the labels have places, and are the same just for the sites of one cut
module _ {parents labels : List ℕ} (s : Settled parents labels) (long : length parents ≡ PLACES) where
  pub settled_small : (x : ℕ) → look labels x ≤ SITES
  settled_small x = cases (dec_lt x PLACES)
      (λ l. omega (arith, labels_low s x))
      (λ l. omega (arith, get_or-eq_default labels 0 {n = x} (omega (arith, s.long))))

  pub settled_cuts : (ls : Links) (c t : ℕ → ℕ) → Tells parents (group ls c t) → (a x : ℕ) → a ≤ SITES → x ≤ SITES
      → is (look labels x) (look labels a) ≡ in_cut ls c t a x
  unfolding in_cut
  settled_cuts ls c t w a x h k = labels_same s (group ls c t) w x a (omega arith) (omega arith)

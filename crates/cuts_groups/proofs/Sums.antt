-- Sums over links kept at the labels of their sites: one link more, and what the sums come to.
use mathlib.Core.Path.{◌≡◌, refl, sym, ap, ◌∙◌}
use mathlib.Core.Logic.{◌≢◌}
use mathlib.Core.List.{List}
use Prim.Native.Nat.{ℕ, ◌+◌, ◌*◌, ◌≤◌, ◌<◌}
use native.Mathlib.Omega.{arith}
use lib.ListN.{length, set, length-set}
use lib.Seq.{get_or-set_same, get_or-set_other}
use Rattle.model.specs.Limits.{SITES}
use Rattle.lists.specs.Numbers.{is, differ, look}
use Rattle.model.specs.Flows.{one, two}
use Rattle.model.specs.Cuts.{in_cut, cut_size}
use Rattle.lists.specs.Sums.{is_same, is-other, differ_same, differ-other, same?, sum-eq}
use Rattle.tree.specs.Offer.{links}
use Rattle.tree.specs.Links.{length-links, links-one, links-two}
use Rattle.tree_links.specs.Chains.{Placed}
use Rattle.cuts_groups.specs.Groups.{leaves, leaving}

-- ---- one link more: d at the labels of its sites

module _ (labels : List ℕ) (a b d : ℕ) where
  pub leaves-le : (l : ℕ) → leaves labels a b l * d ≤ d
  unfolding leaves
  leaves-le l = same? (is (look labels a) l) (is (look labels b) l) (λ e. rw (differ_same e) (omega arith)) (λ n. rw (differ-other n) (omega arith))

  pub raised-none : (s : List ℕ) → look labels a ≡ look labels b → (l : ℕ) → look s l ≡ look s l + leaves labels a b l * d
  unfolding leaves
  raised-none s e l = rw (differ_same (ap (λ p. is p l) e)) (omega arith)

  pub raised : (s : List ℕ) → look labels a < length s → look labels b < length s → look labels a ≢ look labels b → (l : ℕ)
      → let r = set s (look labels a) (look s (look labels a) + d) in
      look (set r (look labels b) (look r (look labels b) + d)) l ≡ look s l + leaves labels a b l * d
  unfolding leaves
  raised s hp hq apart l =
      let p = look labels a in
      let q = look labels b in
      let r = set s p (look s p + d) in
      let v = look r q + d in
      same? p l
      (λ e. rw (is_same e, is-other {u = q} {v = l} (λ z. apart (e ∙ sym z)), differ-other {u = 1} {v = 0} (λ z. omega arith), ← e)
      (get_or-set_other r q p v 0 apart ∙ get_or-set_same s p (look s p + d) 0 hp ∙ omega arith))
      (λ f. same? q l
      (λ e. rw (is-other f, is_same e, differ-other {u = 0} {v = 1} (λ z. omega arith), ← e)
      (get_or-set_same r q v 0 (omega (arith, length-set s p (look s p + d))) ∙ rw (get_or-set_other s p q (look s p + d) 0 (λ z. apart (sym z))) (omega arith)))
      (λ e. rw (is-other f, is-other e, differ_same {u = 0} refl)
      (get_or-set_other r q l v 0 (λ z. e (sym z)) ∙ get_or-set_other s p l (look s p + d) 0 (λ z. f (sym z)) ∙ omega arith)))

-- ---- the labels of cuts: their sizes

-- the sum at the label of a site is the size of the cut with that label
pub leaving-is-size : (labels : List ℕ) {a b : List ℕ} → Placed a b → (c t : List ℕ)
    → ((y x : ℕ) → y ≤ SITES → x ≤ SITES → is (look labels x) (look labels y) ≡ in_cut (links a b) (look c) (look t) y x)
    → (x : ℕ) → x ≤ SITES → leaving labels a b c (look labels x) ≡ cut_size (links a b) (look c) (look t) x
unfolding leaving leaves cut_size
leaving-is-size labels {a} {b} k c t grouped x h =
    let cut = in_cut (links a b) (look c) (look t) x in
    rw (length-links a b (sym k.seconds)) (sum-eq (length a)
    (λ j. differ (is (look labels (look a j)) (look labels x)) (is (look labels (look b j)) (look labels x)) * look c j)
    (λ j. differ (cut (one (links a b) j)) (cut (two (links a b) j)) * look c j)
    (λ j p. rw (
      links-one a b j p (omega (arith, k.seconds)),
      links-two a b j p (omega (arith, k.seconds)),
      grouped x (look a j) h (omega (arith, k.sites j p)),
      grouped x (look b j) h (omega (arith, k.sites j p)),
    ) refl))

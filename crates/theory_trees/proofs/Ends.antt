-- The ends of a tree as terminals: the list of the ends holds 1 just where a site has one link or is marked.
use Rattle.std.specs.Prelude.{◌≡◌, ◌↔◌, ◌⊎◌, ◌≢◌, ℕ, suc, ◌≤◌, length}
use Rattle.std.proofs.Math.Path.{sym, ap, fun_ext}
use Rattle.std.proofs.Common.{◌∙◌, arith}
use Rattle.std.proofs.Math.Logic.{inl, inr, ⊎_elim}
use mathlib.Core.List.{List, map}
use Rattle.std.proofs.Math.ListN.{length-map}
use Rattle.lists.specs.Numbers.{look, upfrom}
use Rattle.model.specs.Flows.{Links, sum_at, leaf, mark, end_at, ends}
use Rattle.lists.specs.Sums.{same?, pick_same, pick_other, is_same, is_one}
use Rattle.theory_trees.specs.Leaves.{Outer}
use Rattle.lists.specs.Places.{length-upfrom, look_values}

module _ (ls : Links) (n : ℕ) (marks : List ℕ) where
  pub length-ends : length (ends ls n marks) ≡ suc n
  unfolding ends
  length-ends = length-map (upfrom 0 (suc n)) (end_at ls marks) ∙ length-upfrom 0 (suc n)

  pub ends_are_told : (v : ℕ) → v ≤ n → look (ends ls n marks) v ≡ end_at ls marks v
  unfolding ends
  ends_are_told v l = look_values (end_at ls marks) (suc n) v (omega arith)

  -- a site is an end just if it has one link or is marked (02, Card 7)
  pub an_end_has_one_link_or_a_mark : (v : ℕ) → v ≤ n → (look (ends ls n marks) v ≡ 1) ↔ ((sum_at ls v (λ i. 1) ≡ 1) ⊎ (mark marks v ≡ 1))
  unfolding end_at leaf
  an_end_has_one_link_or_a_mark v l = (
    λ e. same? (mark marks v) 1 (λ m. inr m) (λ d. inl (is_one (sym (pick_other d 1 (leaf ls v)) ∙ sym (ends_are_told v l) ∙ e))),
    λ h. ends_are_told v l ∙ same? (mark marks v) 1
        (λ m. pick_same m 1 (leaf ls v))
        (λ d. pick_other d 1 (leaf ls v) ∙ ⊎_elim (λ o. is_same o) (λ m. absurd (d m)) h),
  )

  -- a site with one link is an end, marked or not
  pub a_leaf_is_an_end : (v : ℕ) → v ≤ n → leaf ls v ≡ 1 → look (ends ls n marks) v ≡ 1
  unfolding leaf
  a_leaf_is_an_end v l e = (an_end_has_one_link_or_a_mark v l).1 (inl (is_one e))

  -- ---- without marks

  module _ (none : (v : ℕ) → mark marks v ≢ 1) where
    -- the ends are the sites with one link
    pub unmarked_ends_are_leaves : ends ls n marks ≡ map (leaf ls) (upfrom 0 (suc n))
    unfolding ends end_at
    unmarked_ends_are_leaves = ap (λ f. map f (upfrom 0 (suc n))) (fun_ext (λ v. pick_other (none v) 1 (leaf ls v)))

    pub unmarked_ends_are_outer : Outer ls n (look (ends ls n marks))
    unfolding end_at
    unmarked_ends_are_outer v p e = sym (pick_other (none v) 1 (leaf ls v)) ∙ sym (ends_are_told v p.1) ∙ e

-- Separation in a tree, for callers: a number that is no link's separates nothing, and seen from any site r a link separates a and b just where it
-- separates one of them from r. The path of two sites by a table has links only.
use Rattle.std.specs.Prelude.{◌≡◌, List, ℕ, ◌+◌, ◌≤◌, ◌<◌, length}
use Rattle.std.proofs.Math.Path.{sym}
use Rattle.std.proofs.Common.{◌∙◌, arith}
use Rattle.std.proofs.Math.Decide.{dec_lt}
use Rattle.lists.specs.Numbers.{differ}
use Rattle.lists.specs.Sums.{same?, cases, differ_same, differ-other, differ_triangle}
use Rattle.model.specs.Flows.{Links, Site, Tree, side, separates}
use Rattle.theory_trees.specs.Trees.{separates-le, separates_comm, separates_triple, separates-same}
use Rattle.theory_trees.proofs.Trees.{without-none}
use Rattle.tree_sets.specs.Members.{member}
use Rattle.tree_sets.specs.declared.Set.{Set}
use Rattle.log_paths.specs.Tables.{Table, PathBy}

two_of_three : (x y z : ℕ) → x ≤ 1 → y ≤ 1 → z ≤ 1 → x + y + z ≤ 2 → z ≤ x + y → x ≤ y + z → y ≤ x + z → differ x y ≡ z
two_of_three x y z a b c t p q r = same? x y
    (λ e. differ_same e ∙ omega arith)
    (λ d. differ-other d ∙ omega arith)

module _ {ls : Links} {n : ℕ} (T : Tree ls n) where
  triangle : (j x y z : ℕ) → separates ls j x z ≤ separates ls j x y + separates ls j y z
  unfolding separates
  triangle j x y z = differ_triangle (side ls j x) (side ls j y) (side ls j z)

  pub what_is_no_link_separates_nothing : (j a b : ℕ) → length ls ≤ j → Site n a → Site n b → separates ls j a b ≡ 0
  what_is_no_link_separates_nothing j a b h p q = separates-same ls j a b (unfold side in rw (without-none ls j h) (T.whole a p ∙ sym (T.whole b q)))

  pub separates-from : (j r a b : ℕ) → Site n r → Site n a → Site n b → differ (separates ls j r a) (separates ls j r b) ≡ separates ls j a b
  separates-from j r a b p q s = cases (dec_lt j (length ls))
      (λ l. two_of_three (separates ls j r a) (separates ls j r b) (separates ls j a b)
      (separates-le ls j r a) (separates-le ls j r b) (separates-le ls j a b)
      (omega (arith, separates_triple T j r a b l p q s))
      (omega (arith, triangle j a r b, separates_comm ls j a r))
      (omega (arith, triangle j r b a, separates_comm ls j b a))
      (triangle j r a b))
      (λ l. let none : (x y : ℕ) → Site n x → Site n y → separates ls j x y ≡ 0 = λ x y. what_is_no_link_separates_nothing j x y (omega arith) in
      differ_same (none r a p q ∙ sym (none r b p s)) ∙ sym (none a b q s))

  pub a_path_has_links_only : {rows : List ℕ} {a b : ℕ} (path : Set) → Table ls n rows → Site n a → Site n b → PathBy rows a b path
      → (j : ℕ) → member path j ≡ 1 → j < length ls
  a_path_has_links_only {a = a} {b = b} path table p q by j o = cases (dec_lt j (length ls))
      (λ l. l)
      (λ l. absurd (omega (arith, by ls n T table p q j, what_is_no_link_separates_nothing j a b (omega arith) p q)))

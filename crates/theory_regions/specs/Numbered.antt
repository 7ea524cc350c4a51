-- The joined tree as it is numbered through is a joined tree: the first region keeps its numbers, the second's own sites and links follow in their order.
use Rattle.std.specs.Prelude.{◌≡◌, ◌≢◌}
use Rattle.std.proofs.Math.Path.{refl}
use Rattle.std.proofs.Common.{sym, ◌∙◌}
use Prim.Native.Nat.{ℕ, ◌+◌, ◌-◌}
use Rattle.std.proofs.Math.ListN.{length}
use Rattle.lists.specs.Sums.{pick_same, pick_other}
use Rattle.theory_regions.specs.Regions.{Region}
use Rattle.theory_regions.specs.JoinedTree.{Border, Bordered, down, place, position}
use Rattle.theory_regions.specs.Meeting.{near-is-not-far}

-- ---- the numbers of the second region's sites and links
module _ {a : Region} {p : Border} {b : Region} {q : Border} (A : Bordered a p) (B : Bordered b q) where
  abbrev pub to : ℕ → ℕ
  to = place a p b q

  abbrev pub link-to : ℕ → ℕ
  link-to = position a p b q

  pub place-near : to q.near ≡ p.far
  unfolding place
  place-near = pick_same refl _ _

  pub place-far : to q.far ≡ p.near
  unfolding place
  place-far = pick_other (λ e. near-is-not-far B (sym e)) _ _ ∙ pick_same refl _ _

  pub position_shared : link-to q.shared ≡ p.shared
  unfolding position
  position_shared = pick_same refl _ _

  pub position-own : (k : ℕ) → k ≢ q.shared → link-to k ≡ length a.links + down q.shared k
  unfolding position
  position-own k d = pick_other d _ _

-- Pieces are classes: sites of one piece are what connecting links join, and the site that tells a piece is one of its sites. For any sets.
use Rattle.std.specs.Prelude.{◌≡◌, ◌≢◌, ◌↔◌, ℕ, ◌*◌, ◌<◌, length}
use Rattle.std.proofs.Common.{sym, ◌∙◌, arith}
use Rattle.lists.specs.Numbers.{is, differ}
use Rattle.lists.specs.Sums.{is_same, is_one, is_le, product_one, differ_same, differ-other}
use Rattle.model.specs.Flows.{Links, Joined, one, two}
use Rattle.model.specs.Cuts.{kept}
use Rattle.model.specs.Whole.{connects, piece}
use Rattle.theory_trees.specs.Labels.{joined-label, label-joined}
use Rattle.theory_trees.proofs.Labels.{label-label}
use Rattle.theory_trees.specs.TerminalCuts.{kept-linked, kept_agree}

module _ (ls : Links) (c owner : ℕ → ℕ) where
  pub connects-one : (j : ℕ) → owner (one ls j) ≡ 0 → owner (two ls j) ≡ 0 → c j ≢ 0 → connects ls c owner j ≡ 1
  unfolding connects
  connects-one j a b d = rw (is_same a, is_same b, differ-other d) (omega arith)

  pub connects_yes : (j : ℕ) → connects ls c owner j ≡ 1 → (owner (one ls j) ≡ 0) × (owner (two ls j) ≡ 0) × (c j ≢ 0)
  unfolding connects
  connects_yes j e =
      let p = product_one (is (owner (one ls j)) 0) (is (owner (two ls j)) 0 * differ (c j) 0) (is_le (owner (one ls j)) 0) e in
      let q = product_one (is (owner (two ls j)) 0) (differ (c j) 0) (is_le (owner (two ls j)) 0) p.1 in
      (is_one p.0, is_one q.0, λ z. omega (arith, q.1, differ_same z))

  -- sites have one piece exactly if connecting links join them
  pub piece-joined : (x y : ℕ) → (piece ls c owner x ≡ piece ls c owner y) ↔ Joined (kept (connects ls c owner) ls) x y
  unfolding piece
  piece-joined x y = (label-joined (kept (connects ls c owner) ls) x y, joined-label (kept (connects ls c owner) ls))

  -- what every connecting link has the same at its two sites is the same throughout a piece
  pub piece_agree : (f : ℕ → ℕ) → ((j : ℕ) → j < length ls → connects ls c owner j ≡ 1 → f (one ls j) ≡ f (two ls j))
      → (x y : ℕ) → piece ls c owner x ≡ piece ls c owner y → f x ≡ f y
  unfolding piece
  piece_agree f h x y e = kept_agree (connects ls c owner) ls f h x y e

  -- a connecting link has its two sites in one piece
  pub piece-linked : (j : ℕ) → j < length ls → connects ls c owner j ≡ 1 → piece ls c owner (one ls j) ≡ piece ls c owner (two ls j)
  unfolding piece
  piece-linked j l e = kept-linked (connects ls c owner) ls j l e

  pub piece-piece : (x : ℕ) → piece ls c owner (piece ls c owner x) ≡ piece ls c owner x
  unfolding piece
  piece-piece x = label-label (kept (connects ls c owner) ls) x

  -- the site that tells a piece is in no set, if the others are in none
  pub piece-owner : (x : ℕ) → owner (piece ls c owner x) ≡ owner x
  piece-owner x = piece_agree owner (λ j l e. let y = connects_yes j e in y.0 ∙ sym y.1) (piece ls c owner x) x (piece-piece x)

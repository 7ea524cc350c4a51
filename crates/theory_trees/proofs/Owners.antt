-- The owner of a site: the one terminal whose cut holds it, or 0 where no terminal's does.
use Rattle.std.specs.Prelude.{◌≡◌, ◌↔◌, ℕ}
use Rattle.std.proofs.Math.Logic.{inl, inr}
use mathlib.Core.List.{[]}
use Rattle.std.proofs.Common.{arith}
use Rattle.model.specs.Flows.{Links, Site, Tree}
use Rattle.model.specs.Trimming.{Greatest}
use Rattle.model.specs.Cuts.{in_cut, owner}
use Rattle.theory_trees.specs.TerminalCuts.{a_cut_holds_its_terminal}
use Rattle.theory_trees.proofs.TerminalCuts.{cuts_are_disjoint}
use Rattle.theory_trees.specs.Owners.{owner-or-none}

module _ {ls : Links} {n : ℕ} (T : Tree ls n) (terminal : ℕ → ℕ) {c t : ℕ → ℕ} (g : Greatest ls terminal c t)
    (a : ℕ) (p : Site n a) (m : terminal a ≡ 1) where
  -- terminal a owns just the sites of its cut
  pub owner_iff_in_cut : (x : ℕ) → (owner ls c t terminal n x ≡ a) ↔ (in_cut ls c t a x ≡ 1)
  owner_iff_in_cut x = elim (owner-or-none ls c t terminal x n) [
    | inl r ↦ (λ e. absurd (omega arith), λ i. absurd (omega (arith, r.1 a p m)))
    | inr r ↦ (λ e. rw e at r.2, λ i. cuts_are_disjoint T terminal g (owner ls c t terminal n x) a x r.0 p r.1 m r.2 i)
  ]

  -- a terminal owns itself
  pub a_terminal_owns_itself : owner ls c t terminal n a ≡ a
  a_terminal_owns_itself = (owner_iff_in_cut a).1 (a_cut_holds_its_terminal ls c t a)

-- "Separates" is what "every path uses the link" means: link j separates a and b just if every chain of links from a to b contains j.
-- A chain without j stays on one side of j; and sites on one side of j are joined by the other links, which make a chain.
use Rattle.std.specs.Prelude.{◌≡◌, ◌≢◌, ◌↔◌, ℕ, zero, suc, ◌≤◌, ◌<◌}
use Rattle.std.proofs.Math.Path.{refl, sym, ap}
use Rattle.std.proofs.Common.{◌∙◌, arith}
use Rattle.std.proofs.Math.Logic.{inl, inr}
use mathlib.Core.List.{List, [], ◌∷◌}
use Rattle.std.proofs.Math.ListN.{length}
use Rattle.lists.specs.Numbers.{is, count}
use Rattle.model.specs.Flows.{Links, Site, one, two, label, Tree, without, side, separates}
use Rattle.lists.specs.Sums.{is_same, is-other, same?, differ-other}
use Rattle.theory_trees.specs.Labels.{induct, linked}
use Rattle.theory_trees.specs.Trees.{side-link, separates-le, separates-same}
use Rattle.theory_trees.proofs.Trees.{without-none}
use Rattle.theory_trees.specs.Chains.{Chain}

module _ (ls : Links) where
  -- what the two sites of each link of a chain share, its two ends share
  along-chain : (f : ℕ → ℕ) (a : ℕ) (js : List ℕ) (b : ℕ) → ((j : ℕ) → j < length ls → 1 ≤ count js j → f (one ls j) ≡ f (two ls j))
      → Chain ls a js b → f a ≡ f b
  unfolding count
  along-chain f a [] b h c = ap f c
  along-chain f a (j ∷ js) b h c =
      let first = h j c.0 (omega (arith, is_same {u = j} refl)) in
      let rest : (i : ℕ) → i < length ls → 1 ≤ count js i → f (one ls i) ≡ f (two ls i) = λ i l p. h i l (omega arith) in
      elim c.1 [
        | inl e ↦ ap f (sym e.0) ∙ first ∙ along-chain f (two ls j) js b rest e.1
        | inr e ↦ ap f (sym e.0) ∙ sym first ∙ along-chain f (one ls j) js b rest e.1
      ]

  -- every chain from a to b uses a link that separates them
  pub every_chain_uses : (j a : ℕ) (js : List ℕ) (b : ℕ) → separates ls j a b ≡ 1 → Chain ls a js b → 1 ≤ count js j
  every_chain_uses j a js b s c = same? (count js j) 0
      (λ z. absurd (omega (
        arith,
        separates-same ls j a b (along-chain (side ls j) a js b (λ i l p. side-link ls i j l (λ e. omega (arith, rw e at p))) c),
      )))
      (λ d. omega arith)

-- a link other than link j, by its position among them all
without-link : (ls : Links) (j i : ℕ) → i < length (without j ls)
    → (k : ℕ) × (k < length ls) × (k ≢ j) × (one (without j ls) i ≡ one ls k) × (two (without j ls) i ≡ two ls k)
unfolding without
without-link [] j i l = absurd (omega arith)
without-link (a ∷ ls) zero i l = (suc i, omega arith, (λ e. omega arith), refl, refl)
without-link (a ∷ ls) (suc j) zero l = (zero, omega arith, (λ e. omega arith), refl, refl)
without-link (a ∷ ls) (suc j) (suc i) l =
    let r = without-link ls j i (omega arith) in
    (suc r.0, omega (arith, r.1), (λ e. r.2 (omega arith)), r.3, r.4)

module _ (ls : Links) where
  -- where link j does not separate a and b, a chain leads from a to b without it
  pub a-chain-without : (j a b : ℕ) → separates ls j a b ≡ 0 → (js : List ℕ) × Chain ls a js b × (count js j ≡ 0)
  unfolding count side separates
  a-chain-without j a b s = induct (without j ls) reached step b a same ([], refl, refl)
    where
      same : label (without j ls) b ≡ label (without j ls) a
      same = same? (label (without j ls) a) (label (without j ls) b) sym (λ d. absurd (omega (arith, differ-other d)))

      reached : ℕ → Type 0
      reached x = (js : List ℕ) × Chain ls x js b × (count js j ≡ 0)

      step : (i : ℕ) → i < length (without j ls) → reached (one (without j ls) i) ↔ reached (two (without j ls) i)
      step i l =
          let r = without-link ls j i l in
          let k = r.0 in
          let new : is k j ≡ 0 = is-other r.2 in
          rw (r.3, r.4) (
            λ c. (k ∷ c.0, (r.1, inr (refl, c.1)), omega (arith, c.2)),
            λ c. (k ∷ c.0, (r.1, inl (refl, c.1)), omega (arith, c.2)),
          )

  -- link j separates a and b just if every chain of links from a to b uses it
  pub separates_iff_every_chain_uses : (j a b : ℕ) → (separates ls j a b ≡ 1) ↔ ((js : List ℕ) → Chain ls a js b → 1 ≤ count js j)
  separates_iff_every_chain_uses j a b = (
    λ s js. every_chain_uses ls j a js b s,
    λ h. same? (separates ls j a b) 0
        (λ z. let r = a-chain-without j a b z in absurd (omega (arith, h r.0 r.1, r.2)))
        (λ d. omega (arith, separates-le ls j a b)),
  )

  -- sites are joined just if a chain of links leads from one to the other
  pub joined_iff_a_chain : (a b : ℕ) → (label ls a ≡ label ls b) ↔ ((js : List ℕ) × Chain ls a js b)
  unfolding side
  joined_iff_a_chain a b = (
    λ e. let r = a-chain-without (length ls) a b (separates-same ls (length ls) a b (rw (without-none ls (length ls) (omega arith)) e)) in (r.0, r.1),
    λ c. along-chain ls (label ls) a c.0 b (λ j l p. linked ls j l) c.1,
  )

-- in a tree a chain leads from each site to each other, and it uses the links that separate them
pub a_tree_has_chains : {ls : Links} {n : ℕ} → Tree ls n → (a b : ℕ) → Site n a → Site n b → (js : List ℕ) × Chain ls a js b
a_tree_has_chains {ls} T a b p q = (joined_iff_a_chain ls a b).0 (T.whole a p ∙ sym (T.whole b q))

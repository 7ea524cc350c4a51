-- Where every link between two sites of a tree is kept, the kept links join them: by going from one site to the other, link by link.
use Rattle.std.specs.Prelude.{◌≡◌, ◌≢◌, ℕ, zero, suc, ◌≤◌, ◌<◌, length}
use Rattle.std.proofs.Common.{sym, ap, ◌∙◌, arith}
use Rattle.std.proofs.Math.Logic.{inl, inr}
use Rattle.lists.specs.Numbers.{sum, differ}
use Rattle.lists.specs.Sums.{same?, sum_ge, sum_le_but}
use Rattle.model.specs.Flows.{Links, Site, Tree, one, two, at, label, side, separates}
use Rattle.model.specs.Cuts.{kept}
use Rattle.theory_trees.specs.Trees.{side-link, far-one, at-end, local_one}
use Rattle.theory_trees.specs.TerminalCuts.{kept-linked}

module _ {ls : Links} {n : ℕ} (T : Tree ls n) (u : ℕ → ℕ) where
  -- how many links are between y and x
  abbrev apart : ℕ → ℕ → ℕ
  apart y x = sum (length ls) (λ j. separates ls j y x)

  -- the other site w of y's link j toward x: link j is no longer between, every other link is as before
  record Next (x y j w : ℕ) : Type 0 where
    site : Site n w
    reached : separates ls j w x ≡ 0
    others : (m : ℕ) → m ≢ j → separates ls m w x ≡ separates ls m y x
    linked : u j ≡ 1 → label (kept u ls) y ≡ label (kept u ls) w

  next : (x y j : ℕ) → Site n x → j < length ls → at ls y j ≡ 1 → separates ls j y x ≡ 1 → (w : ℕ) × Next x y j w
  unfolding separates
  next x y j p l a s = elim (at-end ls j a) [
    | inl e ↦ (
      two ls j,
      record {
        site = (T.ends j l).1;
        reached = omega (arith, far-one T j x l p, rw (← e) at s);
        others = λ m d. rw (← e) (ap (λ z. differ z (side ls m x)) (sym (side-link ls j m l (λ q. d (sym q)))));
        linked = λ k. rw (← e) (kept-linked u ls j l k);
      },
    )
    | inr e ↦ (
      one ls j,
      record {
        site = (T.ends j l).0;
        reached = omega (arith, far-one T j x l p, rw (← e) at s);
        others = λ m d. rw (← e) (ap (λ z. differ z (side ls m x)) (side-link ls j m l (λ q. d (sym q))));
        linked = λ k. rw (← e) (sym (kept-linked u ls j l k));
      },
    )
  ]

  along : (k x y : ℕ) → Site n x → Site n y → apart y x ≤ k → ((j : ℕ) → j < length ls → separates ls j y x ≡ 1 → u j ≡ 1)
      → label (kept u ls) y ≡ label (kept u ls) x
  along zero x y p q b h = same? x y (λ e. rw e)
      (λ d. let r = local_one T y x q p d in absurd (omega (arith, r.3, sum_ge (length ls) r.0 (λ j. separates ls j y x) r.1)))
  along (suc k) x y p q b h = same? x y (λ e. rw e) (λ d.
      let r = local_one T y x q p d in
      let j = r.0 in
      let s = next x y j p r.1 r.2 r.3 in
      let w = s.0 in
      let N = s.1 in
      let less : apart w x ≤ k = omega (
        arith,
        r.3,
        N.reached,
        sum_le_but (length ls) j (λ m. separates ls m w x) (λ m. separates ls m y x) r.1 (λ m l d. omega (arith, N.others m d)),
      ) in
      N.linked (h j r.1 r.3)
      ∙ along k x w p N.site less (λ m l c. h m l (sym (N.others m (λ e. omega (arith, rw e at c, N.reached))) ∙ c)))

  -- where every link between x and y is kept, the kept links join them
  pub kept-between : (x y : ℕ) → Site n x → Site n y → ((j : ℕ) → j < length ls → separates ls j x y ≡ 1 → u j ≡ 1)
      → label (kept u ls) x ≡ label (kept u ls) y
  kept-between x y p q h = along (apart x y) y x q p (omega arith) h

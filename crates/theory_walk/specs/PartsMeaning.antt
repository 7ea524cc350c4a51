-- That the parts are what document 02 says: their links share inner sites, chained, and no others (`one-part-iff-one-region`); the root is the lowest inner
-- site (`root-iff-lowest`); and two terminals are free to be joined just if they stand at one part (`free-iff-at-one-part`).
use Rattle.std.specs.Prelude.{◌≡◌, ◌≢◌, ◌↔◌, ◌⊎◌}
use Rattle.std.proofs.Math.Path.{refl, sym}
use Rattle.std.proofs.Common.{◌∙◌, inl, inr}
use Prim.Native.Nat.{ℕ, ◌<◌}
use Rattle.std.proofs.Math.ListN.{length}
use Rattle.model.specs.Flows.{Links, one, two, at}
use Rattle.model.specs.Parts.{OnePart, itself, shared, chained, within, region, home, in_part}
use Rattle.theory_trees.specs.Trees.{at_first, at_second}
use Rattle.theory_trees.specs.TerminalCuts.{kept_induct}
use Rattle.theory_walk.specs.Regions.{member_inner, home_at, home-region, not_within}

-- ---- the root

-- ---- the links of a part

module _ (ls : Links) (terminal : ℕ → ℕ) where
  -- links of one part are one link, or have inner sites of one region
  abbrev pub OneRegion : ℕ → ℕ → Type 0
  OneRegion i j = (i ≡ j) ⊎ ((g : ℕ) × (in_part ls terminal g i ≡ 1) × (in_part ls terminal g j ≡ 1))

  one-region : (i j : ℕ) → OnePart ls terminal i j → OneRegion i j
  one-region i j itself = inl refl
  one-region i j (shared {v = v} d l k a b) = inr (region ls terminal v, home-region ls terminal i v l a d, home-region ls terminal j v k b d)
  one-region i k (chained {j = j} p q) = both (one-region i j p) (one-region j k q)
    where
      both : OneRegion i j → OneRegion j k → OneRegion i k
      both (inl e) r = rw e r
      both (inr r) (inl e) = inr (r.0, r.1, rw e at r.2)
      both (inr r) (inr s) =
          let same : r.0 ≡ s.0 = sym (member_inner ls terminal r.0 (home ls terminal j) r.2).1
          ∙ (member_inner ls terminal s.0 (home ls terminal j) s.1).1 in
          inr (s.0, rw same at r.1, s.2)

  region-part : (i j g : ℕ) → i < length ls → j < length ls → in_part ls terminal g i ≡ 1 → in_part ls terminal g j ≡ 1 → OnePart ls terminal i j
  unfolding region
  region-part i j g li lj ei ej =
      let a = member_inner ls terminal g (home ls terminal i) ei in
      let b = member_inner ls terminal g (home ls terminal j) ej in
      kept_induct (within ls terminal) ls reached step (home ls terminal i) (home ls terminal j) (a.1 ∙ sym b.1)
      (λ k l p. shared a.0 li l (home_at ls terminal i) p) j lj (home_at ls terminal j)
    where
      reached : ℕ → Type 0
      reached x = (k : ℕ) → k < length ls → at ls x k ≡ 1 → OnePart ls terminal i k

      inner : (m x : ℕ) → within ls terminal m ≡ 1 → at ls x m ≡ 1 → terminal x ≢ 1
      inner m x w a t = not_within ls terminal m x a t w

      step : (m : ℕ) → m < length ls → within ls terminal m ≡ 1 → reached (one ls m) ↔ reached (two ls m)
      step m l w = (
        λ p k lk ak. chained (p m l (at_first ls m refl)) (shared (inner m (two ls m) w (at_second ls m refl)) l lk (at_second ls m refl) ak),
        λ p k lk ak. chained (p m l (at_second ls m refl)) (shared (inner m (one ls m) w (at_first ls m refl)) l lk (at_first ls m refl) ak),
      )

  pub one_part_iff_one_region : (i j : ℕ) → i < length ls → j < length ls → OnePart ls terminal i j ↔ OneRegion i j
  one_part_iff_one_region i j li lj = (one-region i j, λ r. elim r [ inl e ↦ rw e itself | inr s ↦ region-part i j s.0 li lj s.1 s.2 ])

-- ---- free pairs

-- a and b stand at one part: a link at a and a link at b are in one part
pub record AtOnePart (ls : Links) (terminal : ℕ → ℕ) (a b : ℕ) : Type 0 where
  pub first : ℕ
  pub second : ℕ
  pub first_bound : first < length ls
  pub second_bound : second < length ls
  pub first-at : at ls a first ≡ 1
  pub second_at : at ls b second ≡ 1
  pub part : OnePart ls terminal first second

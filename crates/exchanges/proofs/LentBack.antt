-- What the regions of an accepted pair are told and lent back: the trimmed sizes of the joined tree, and sums that added are its total in halves; and that of
-- the other sheet it depends on one number alone. Document 02, Card 10.
use Rattle.std.specs.Prelude.{List, ◌≡◌, refl, ℕ, ◌<◌, length, drop}
use Rattle.std.proofs.Common.{◌∙◌, arith}
use Rattle.std.proofs.Math.ListN.{get_or-append}
use Rattle.lists.specs.Numbers.{look}
use Rattle.model.specs.declared.Edition.{Edition}
use Rattle.sheet.specs.Sheet.{Network}
use Rattle.theory_regions.specs.Regions.{Region, Given}
use Rattle.theory_regions.specs.JoinedTree.{Border, Joins, position, joined_tree}
use Rattle.theory_regions.specs.TwoRegions.{OfTheJoinedTree}
use Rattle.exchanges.specs.Shared.{region_of, shown}
use Rattle.exchanges.specs.Outcome.{first_of, second_of, filled, exchanged}
use Rattle.exchanges.specs.Causes.{AcceptedPair}
use Rattle.exchanges.specs.SharedLaws.{a_size_for_each_link, first_given, second_given, the_regions_have_what_the_joined_tree_has}
use Rattle.exchanges.specs.SharedLaws.{and_what_every_joined_tree_has}
use Rattle.exchanges.specs.Told.{Room}
use Rattle.exchanges.proofs.Told.{both_are_answered}
use Rattle.exchanges.specs.LentBack.{OfTheWhole}

-- a list that starts with the sizes has them at their places
in_front : (u : Given) (l : List ℕ) (n i : ℕ) → length u.sizes ≡ n → i < n → look (filled u l) i ≡ look u.sizes i
in_front u l n i e h = get_or-append u.sizes (drop (length u.sizes) l) 0 i (omega arith)

module _ {known : List Edition} {s : List ℕ} {net : Network} {t : List ℕ} {other : Network} {p q : Border} (X : AcceptedPair known s net t other p q)
    {l m : List ℕ} (r : Room net other l m) where
  lent_back : {w : Region} {link₁ link₂ : ℕ → ℕ} → OfTheJoinedTree (region_of net) (region_of other) w link₁ link₂ (first_given X) (second_given X)
      → OfTheWhole net other w link₁ link₂ (exchanged known s t l m)
  lent_back W = rw (both_are_answered known s t l m X r) (record {
    tree = W.tree;
    first-sizes = λ i h. in_front (first_given X) l (length net.links) i (a_size_for_each_link X).0 h ∙ W.first i h;
    second-sizes = λ k h. in_front (second_given X) m (length other.links) k (a_size_for_each_link X).1 h ∙ W.second k h;
    total-told = W.sums;
    largest = W.largest;
  })

  -- the joined tree, numbered through,
  pub the_joined_tree_is_lent_back : let a = region_of net in let b = region_of other in
      OfTheWhole net other (joined_tree a p b q) (λ i. i) (position a p b q) (exchanged known s t l m)
  the_joined_tree_is_lent_back = lent_back (the_regions_have_what_the_joined_tree_has X)

  -- and however it is numbered
  pub every_joined_tree_is_lent_back : {w : Region} {site₁ link₁ site₂ link₂ : ℕ → ℕ} → Joins (region_of net) p (region_of other) q w site₁ link₁ site₂ link₂
      → OfTheWhole net other w link₁ link₂ (exchanged known s t l m)
  every_joined_tree_is_lent_back J = lent_back (and_what_every_joined_tree_has X J)

-- two neighbours that have one shared link with a region, and one first trimmed size of it, have the region given the same
pub one_number_decides_for_the_first : {known : List Edition} {s : List ℕ} {net : Network} {t t' : List ℕ} {other other' : Network} {p q p' q' : Border}
    {l m m' : List ℕ} → AcceptedPair known s net t other p q → AcceptedPair known s net t' other' p' q' → Room net other l m → Room net other' l m'
    → p.shared ≡ p'.shared → shown other q.shared ≡ shown other' q'.shared
    → let o = exchanged known s t l m in let o' = exchanged known s t' l m' in (first_of o.outcome ≡ first_of o'.outcome) × (o.first ≡ o'.first)
one_number_decides_for_the_first {known} {s} {net} {t} {t'} {l = l} {m} {m'} X Y r r' e f =
    rw (both_are_answered known s t l m X r, both_are_answered known s t' l m' Y r', e, f) (refl, refl)

pub one_number_decides_for_the_second : {known : List Edition} {t : List ℕ} {other : Network} {s s' : List ℕ} {net net' : Network} {p q p' q' : Border}
    {l l' m : List ℕ} → AcceptedPair known s net t other p q → AcceptedPair known s' net' t other p' q' → Room net other l m → Room net' other l' m
    → q.shared ≡ q'.shared → shown net p.shared ≡ shown net' p'.shared
    → let o = exchanged known s t l m in let o' = exchanged known s' t l' m in (second_of o.outcome ≡ second_of o'.outcome) × (o.second ≡ o'.second)
one_number_decides_for_the_second {known} {t} {other} {s} {s'} {l = l} {l'} {m} X Y r r' e f =
    rw (both_are_answered known s t l m X r, both_are_answered known s' t l' m Y r', e, f) (refl, refl)

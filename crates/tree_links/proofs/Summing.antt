-- The sums at all sites, link by link.
use mathlib.Core.Path.{◌≡◌, refl, sym, ap₂, ◌∙◌}
use mathlib.Core.Logic.{◌≢◌}
use mathlib.Core.List.{List}
use Prim.Native.Nat.{ℕ, ◌+◌, ◌*◌, ◌≤◌, ◌<◌}
use native.Mathlib.Omega.{arith}
use native.Mathlib.Numerals.{add-one}
use lib.Seq.{get_or-set_same, get_or-set_other}
use lib.ListN.{length, set, replicate, length-set, length-replicate}
use Rattle.model.specs.Limits.{LINKS, PLACES, SITES, SIZE}
use Rattle.lists.specs.Numbers.{pick, is, look, sum}
use Rattle.lists.specs.Places.{look-zeros}
use Rattle.lists.specs.Sums.{pick_same, pick_other, same?, is_same, is-other}
use Rattle.model.specs.Flows.{at}
use Rattle.tree.specs.Offer.{links}
use Rattle.tree.specs.Links.{links-at-site}
use Rattle.tree_links.specs.Chains.{sum_limit}

-- x added at two places
raised : (l : List ℕ) (a b x v : ℕ) → a ≢ b → a < length l → b < length l
    → look (set (set l a (look l a + x)) b (look (set l a (look l a + x)) b + x)) v ≡ look l v + pick a v 1 (is b v) * x
raised l a b x v d p q = same? b v
    (λ e. rw (← e) (get_or-set_same (set l a (look l a + x)) b (look (set l a (look l a + x)) b + x) 0 (omega (arith, length-set l a (look l a + x)))
    ∙ rw (get_or-set_other l a b (look l a + x) 0 (λ z. d (sym z)), pick_other d, is_same {u = b} refl) (omega arith)))
    (λ e. get_or-set_other (set l a (look l a + x)) b v (look (set l a (look l a + x)) b + x) 0 (λ z. e (sym z)) ∙ same? a v
    (λ f. rw (← f) (get_or-set_same l a (look l a + x) 0 p ∙ rw (pick_same {u = a} refl) (omega arith)))
    (λ f. get_or-set_other l a v (look l a + x) 0 (λ z. f (sym z)) ∙ rw (pick_other f, is-other e) (omega arith)))

module _ (a b c : List ℕ) where
  -- the sums of the first j links
  pub record SummedTo (j : ℕ) (l : List ℕ) : Type 0 where
    pub places : length l ≡ PLACES
    pub sums : (v : ℕ) → v ≤ SITES → look l v ≡ sum j (λ i. at (links a b) v i * look c i)

  pub sums_start : SummedTo 0 (replicate PLACES 0)
  unfolding sum
  sums_start = record { places = length-replicate {A = ℕ} PLACES 0; sums = λ v h. look-zeros PLACES v }

module _ {a b c : List ℕ} {j : ℕ} {l : List ℕ} (S : SummedTo a b c j l) where
  -- every sum has room for one link more
  pub room : j < LINKS → ((i : ℕ) → i ≤ j → look c i ≤ SIZE) → (v : ℕ) → v ≤ SITES → look l v + look c j ≤ LINKS * SIZE
  room few small v h = omega (
    arith,
    S.sums v h,
    sum_limit (links a b) v (look c) SIZE j (λ i k. small i (omega arith)),
    small j (omega arith),
  )

  -- with another place changed too
  pub room_beside : j < LINKS → ((i : ℕ) → i ≤ j → look c i ≤ SIZE) → (v w y : ℕ) → v ≤ SITES → w ≢ v → look (set l w y) v + look c j ≤ LINKS * SIZE
  room_beside few small v w y h d = rw (get_or-set_other l w v y 0 (λ z. d (sym z))) (room few small v h)

  pub sums_next : j < length a → j < length b → look a j ≢ look b j → look a j ≤ SITES → look b j ≤ SITES
      → SummedTo a b c (j + 1) (set (set l (look a j) (look l (look a j) + look c j)) (look b j)
      (look (set l (look a j) (look l (look a j) + look c j)) (look b j) + look c j))
  unfolding sum
  sums_next p q d s t = record {
    places = simp length-set S.places;
    sums = λ v h. rw add-one (raised l (look a j) (look b j) (look c j) v d (omega (arith, S.places)) (omega (arith, S.places))
        ∙ ap₂ (λ x y. x + y * look c j) (S.sums v h) (sym (links-at-site a b v j p q)));
  }

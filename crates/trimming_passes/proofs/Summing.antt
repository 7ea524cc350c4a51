-- The sums at all sites beside the capacities: a link that is lowered lowers the sums at its two sites.
use mathlib.Core.Path.{◌≡◌, refl, sym, ap₂, ◌∙◌}
use mathlib.Core.Logic.{◌≢◌}
use mathlib.Core.List.{List, ◌++◌}
use Prim.Native.Nat.{ℕ, ◌+◌, ◌-◌, ◌*◌, ◌≤◌, ◌<◌}
use native.Mathlib.Omega.{arith}
use lib.Seq.{get_or-set_same, get_or-set_other}
use lib.ListN.{length, set, drop, length-set, length-append, get_or-append}
use Rattle.model.specs.Limits.{PLACES, SITES}
use Rattle.model.specs.Edition.{largest}
use Rattle.lists.specs.Numbers.{pick, is, look}
use Rattle.lists.specs.Sums.{pick_same, pick_other, same?, is_same, is-other, sum_eq_but}
use Rattle.model.specs.Flows.{Links, at, sum_at}
use Rattle.theory_trees.specs.Trees.{at-le, others-add, loopless}
use Rattle.theory_trees.specs.Sites.{sum_at-same}
use Rattle.tree.specs.Offer.{links}
use Rattle.tree.specs.Links.{length-links, links-one, links-two, links-at-site}
use Rattle.tree.specs.Accepted.{TreeWithin}
use Rattle.tree_links.specs.Chains.{Summed, offer-placed}
use Rattle.trimming_passes.specs.Steps.{SumsKept}

-- d less at two places
lowered : (l : List ℕ) (a b d v : ℕ) → a ≢ b → a < length l → b < length l
    → look (set (set l a (look l a - d)) b (look (set l a (look l a - d)) b - d)) v ≡ look l v - pick a v 1 (is b v) * d
lowered l a b d v apart p q = same? b v
    (λ e. rw (← e) (get_or-set_same (set l a (look l a - d)) b (look (set l a (look l a - d)) b - d) 0 (omega (arith, length-set l a (look l a - d)))
    ∙ rw (get_or-set_other l a b (look l a - d) 0 (λ z. apart (sym z)), pick_other apart, is_same {u = b} refl) (omega arith)))
    (λ e. get_or-set_other (set l a (look l a - d)) b v (look (set l a (look l a - d)) b - d) 0 (λ z. e (sym z)) ∙ same? a v
    (λ f. rw (← f) (get_or-set_same l a (look l a - d) 0 p ∙ rw (pick_same {u = a} refl) (omega arith)))
    (λ f. get_or-set_other l a v (look l a - d) 0 (λ z. f (sym z)) ∙ rw (pick_other f, is-other e) (omega arith)))

-- a sum with one link lowered
sum-lowered : (ls : Links) (v : ℕ) (c : List ℕ) (j d : ℕ) → j < length ls → j < length c → d ≤ look c j
    → sum_at ls v (look (set c j (look c j - d))) ≡ sum_at ls v (look c) - at ls v j * d
unfolding sum_at
sum-lowered ls v c j d l k h =
    let new = set c j (look c j - d) in
    let less : sum_at ls v (look new) + at ls v j * look c j ≡ sum_at ls v (look c) + at ls v j * look new j =
    sum_eq_but (length ls) j (λ i. at ls v i * look new i) (λ i. at ls v i * look c i) l (λ i _ z. rw (get_or-set_other c j i (look c j - d) 0 z) refl) in
    let here : look new j ≡ look c j - d = get_or-set_same c j (look c j - d) 0 k in
    same? (at ls v j) 1
    (λ e. rw e (omega (arith, rw (e, here) at less)))
    (λ e. let z : at ls v j ≡ 0 = omega (arith, at-le ls v j) in rw z (omega (arith, rw z at less)))

module _ {one two capacity sums : List ℕ} (k : SumsKept one two capacity sums) (j : ℕ) (h : j < length one) where
  second : j < length two
  second = omega (arith, k.placed.seconds)

  link : j < length (links one two)
  link = omega (arith, length-links one two (sym k.placed.seconds))

  -- the sum at a site of a link has what the link has
  room : (v : ℕ) → v ≤ SITES → at (links one two) v j ≡ 1 → look capacity j ≤ look sums v
  room v s e = omega (arith, k.summed v s, others-add (links one two) v j (look capacity) link e)

  pub room_first : look capacity j ≤ look sums (look one j)
  room_first = room (look one j) (k.placed.sites j h).0 (links-at-site one two (look one j) j h second ∙ pick_same refl _ _)

  -- with the sum at its first site changed too
  pub room_second : (x : ℕ) → look capacity j ≤ look (set sums (look one j) x) (look two j)
  room_second x = rw (get_or-set_other sums (look one j) (look two j) x 0 (λ z. k.apart j h (sym z))) (room (look two j) (k.placed.sites j h).1
      (links-at-site one two (look two j) j h second ∙ pick_other (k.apart j h) _ _ ∙ is_same refl))

  -- with the link lowered, and the sums at its two sites, the sums are kept
  pub lowered-kept : (d : ℕ) → d ≤ look capacity j
      → SumsKept one two (set capacity j (look capacity j - d))
      (set (set sums (look one j) (look sums (look one j) - d)) (look two j) (look (set sums (look one j) (look sums (look one j) - d)) (look two j) - d))
  lowered-kept d r = record {
    placed = k.placed;
    apart = k.apart;
    each = omega (arith, length-set capacity j (look capacity j - d), k.each);
    places = simp length-set k.places;
    summed = λ v s. lowered sums (look one j) (look two j) d v (k.apart j h) (omega (arith, k.places, k.placed.sites j h))
        (omega (arith, k.places, k.placed.sites j h))
        ∙ ap₂ (λ x y. x - y * d) (k.summed v s) (sym (links-at-site one two v j h second))
        ∙ sym (sum-lowered (links one two) v capacity j d link (omega (arith, k.each)) r);
  }

-- of the capacities at the front of a longer list the sums are the same
pub copied_kept : {n : ℕ} {one two capacity sums : List ℕ} → TreeWithin largest n one two capacity → (lent : List ℕ) → length one ≤ length lent
    → length sums ≡ PLACES → Summed (links one two) (look capacity) sums → SumsKept one two (capacity ++ drop (length capacity) lent) sums
copied_kept {n} {one} {two} {capacity} {sums} w lent enough places summed =
    let p = offer-placed w in
    let all : length (links one two) ≡ length one = length-links one two (sym p.seconds) in
    record {
      placed = p;
      apart = λ j h e. let k : j < length two = omega (arith, p.seconds) in
          loopless w.tree j (omega arith) (links-one one two j h k ∙ e ∙ sym (links-two one two j h k));
      each = omega (arith, length-append capacity (drop (length capacity) lent));
      places = places;
      summed = λ v s. summed v s ∙ sum_at-same (links one two) v (look capacity) (look (capacity ++ drop (length capacity) lent))
          (λ i l _. sym (get_or-append capacity (drop (length capacity) lent) 0 i (omega arith)));
    }

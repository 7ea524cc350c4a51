-- The pairs of the single links, after those of the other parts: the pair of one link, and never more pairs than links in all. All together are the pairs of the
-- parts.
use mathlib.Core.Path.{◌≡◌, refl, ◌∙◌}
use mathlib.Core.Logic.{◌≢◌}
use mathlib.Core.List.{List, [], ◌∷◌, ◌++◌}
use Prim.Native.Nat.{ℕ, suc, ◌+◌, ◌*◌, ◌≤◌, ◌<◌}
use native.Mathlib.Omega.{arith}
use native.Mathlib.Numerals.{add-one}
use lib.ListN.{length, take, length-append}
use Rattle.model.specs.Limits.{SITES}
use Rattle.lists.specs.Numbers.{look}
use Rattle.lists.specs.Sums.{pick_same, pick_other, pick_cases, is_same, is-other}
use Rattle.model.specs.Flows.{one, two}
use Rattle.model.specs.declared.Pair.{Pair}
use Rattle.model.specs.Pairing.{put, give}
use Rattle.model.specs.Parts.{single, pair_of_link, pairs_of_parts}
use Rattle.tree.specs.Offer.{links}
use Rattle.tree.specs.Links.{length-links, links-one, links-two}
use Rattle.tree_links.specs.Chains.{offer-placed}
use Rattle.theory_walk.specs.PartsLoops.{flat-next}
use Rattle.theory_walk.proofs.PartsLoops.{few_after_links}
use Rattle.theory_walk.specs.PartsTheorem.{pairs_of_parts_are_sound}
use Rattle.pairing_halves.specs.Arrays.{Added}
use Rattle.pairing_halves.specs.Adding.{added_more}
use Rattle.pairing_halves.specs.Splits.{put_some}
use Rattle.pairing_walk.specs.Visits.{Fit, Linkable, Singles, parts_to, singles_to, pair_of, pairs_of}

-- ---- one link

module _ {j : ℕ} {a b c : List ℕ} (L : Linkable j a b c) (ends : List ℕ) where
  first : one (links a b) j ≡ look a j
  first = links-one a b j L.link (omega (arith, L.link, L.tree.seconds))

  second : two (links a b) j ≡ look b j
  second = links-two a b j L.link (omega (arith, L.link, L.tree.seconds))

  pub link-places : (look a j ≤ SITES) × (look b j ≤ SITES)
  link-places = (offer-placed L.tree).sites j L.link

  -- a link with an inner site is not single
  pub inner_first : look ends (look a j) ≢ 1 → pair_of ends a b c j ≡ []
  unfolding pair_of_link single
  inner_first d = rw (first, is-other d) (pick_other (λ e. omega arith) _ _)

  pub inner_second : look ends (look b j) ≢ 1 → pair_of ends a b c j ≡ []
  unfolding pair_of_link single
  inner_second d = rw (second, is-other d) (pick_other (λ e. omega arith) _ _)

  -- a single link has its pair, but for capacity 0
  pub no_amount : look c j ≡ 0 → pair_of ends a b c j ≡ []
  unfolding pair_of_link give put
  no_amount e = pick_cases (λ l. l ≡ []) (single (links a b) (look ends) j) 1 (give (one (links a b) j) (put (two (links a b) j) (2 * look c j) [])) []
      (λ _. rw e) (λ _. refl)

  pub its_pair : look ends (look a j) ≡ 1 → look ends (look b j) ≡ 1 → 1 ≤ look c j
      → pair_of ends a b c j ≡ record { first = look a j; second = look b j; amount = 2 * look c j } ∷ []
  unfolding pair_of_link single give
  its_pair e f h =
      let both : single (links a b) (look ends) j ≡ 1 = rw (first, second, is_same e, is_same f) (omega arith) in
      pick_same both (give (one (links a b) j) (put (two (links a b) j) (2 * look c j) [])) []
      ∙ rw (first, second, put_some (look b j) (2 * look c j) [] (omega arith))

-- ---- one after the other

module _ {ends a b c : List ℕ} {e : ℕ} (S : Singles ends a b c e) where
  number : length (links a b) ≡ length a
  number = length-links a b (omega (arith, S.tree.firsts, S.tree.seconds))

  -- room for one more
  pub singles_room : {p z : List Pair} {o : ℕ} (j : ℕ) → Added p e z o (singles_to j ends a b c) → j ≤ length a → 2 * SITES ≤ length p
      → o < length z
  singles_room j q l h = omega (
    arith,
    S.walked,
    S.tree.few,
    q.below.ends,
    q.below.as_long,
    number,
    length-append (parts_to (suc (length a)) ends a b c) (singles_to j ends a b c),
    few_after_links S.tree.tree (look ends) (look c) S.balanced j (omega (arith, number)),
  )

  pub singles_next : {p z y : List Pair} {o s : ℕ} (j : ℕ) → Added p e z o (singles_to j ends a b c) → Added z o y s (pair_of ends a b c j)
      → Added p e y s (singles_to (j + 1) ends a b c)
  singles_next j q r =
      let here : 0 + j ≡ j = omega arith in
      let more : singles_to (suc j) ends a b c ≡ singles_to j ends a b c ++ pair_of ends a b c j = rw here at (flat-next (pair_of ends a b c) 0 j) in
      rw (add-one j, more) (added_more q r)

-- ---- all pairs

module _ {n : ℕ} {ends a b c : List ℕ} (w : Fit n ends a b c) where
  pub all_fit : Fit (suc (length a)) ends a b c
  all_fit = rw w.tree.firsts at w

  module _ {p z : List Pair} {e : ℕ} (q : Added p 0 z e (parts_to (suc (length a)) ends a b c)) where
    pub singles_start : Singles ends a b c e
    singles_start = record {
      tree = all_fit.tree;
      balanced = w.balanced;
      walked = omega (arith, q.below.ends);
    }

    pub all-added : {y : List Pair} {o : ℕ} → Added z e y o (singles_to (length a) ends a b c) → Added p 0 y o (pairs_of n ends a b c)
    unfolding pairs_of_parts
    all-added r =
        rw (
          w.tree.firsts,
          length-links a b (omega (arith, w.tree.firsts, w.tree.seconds)),
        ) (added_more q r)

  -- the pairs are few, and are the first in the list
  module _ {p z : List Pair} {e : ℕ} (h : SITES ≤ length p) (q : Added p 0 z e (pairs_of n ends a b c)) where
    pub pairs_inside : (e ≤ SITES) × (e ≤ length z)
    pairs_inside =
        let few = (pairs_of_parts_are_sound w.tree.tree (look ends) (look c) w.balanced).few in
        let number = length-links a b (omega (arith, w.tree.firsts, w.tree.seconds)) in
        let inside : e ≤ SITES = omega (arith, q.below.ends, few, number, w.tree.firsts, w.tree.few) in
        (inside, omega (arith, q.below.as_long))

    pub pairs-first : take e z ≡ pairs_of n ends a b c
    pairs-first = q.below.held

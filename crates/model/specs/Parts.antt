-- The parts of a tree whose terminals may have any number of links: it falls apart at its terminals, and pairing is done on each part.
-- Document 02, Card 7 (free to be joined, part, root, single link); the walk on a part is that of document 01, "Pairing". t: balanced capacities.
use Rattle.std.specs.Prelude.{◌≡◌, ◌≢◌, ℕ, ◌+◌, ◌*◌, ◌<◌, length}
use mathlib.Core.List.{List, [], ◌++◌, flat_map}
use Rattle.lists.specs.Numbers.{pick, is, differ, sum, upfrom}
use Rattle.model.specs.Flows.{Links, sites, one, two, at, label, separates}
use Rattle.model.specs.Cuts.{kept}
use Rattle.model.specs.Pairing.{put, give, pairs_from, lowest_inner, ordered}
use Rattle.model.specs.declared.Pair.{Pair}

-- ---- free pairs

-- 1 if w is a terminal other than a and b, 0 if not (02: another end)
unfoldable pub another : (ℕ → ℕ) → ℕ → ℕ → ℕ → ℕ
another terminal a b w = is (terminal w) 1 * (differ w a * differ w b)

module _ (ls : Links) (terminal : ℕ → ℕ) where
  -- how often the links between a and b have another terminal at one of their sites
  unfoldable pub crossed : ℕ → ℕ → ℕ
  crossed a b = sum (length ls) (λ j. separates ls j a b * (another terminal a b (one ls j) + another terminal a b (two ls j)))

  -- 1 if a and b are two different terminals with no other on their path, 0 if not (02: two ends free to be joined)
  unfoldable pub free_pair : ℕ → ℕ → ℕ
  free_pair a b = differ a b * (is (terminal a) 1 * (is (terminal b) 1 * is (crossed a b) 0))

-- ---- the parts

-- links i and j are in one part: they are one link, or share an inner site, or a chain of such links leads from one to the other
-- (02: a marked site is no joint, the tree falls apart there)
pub data OnePart (ls : Links) (terminal : ℕ → ℕ) : ℕ → ℕ → Type 0 where
  itself : {i : ℕ} → OnePart ls terminal i i
  shared : {v i j : ℕ} → terminal v ≢ 1 → i < length ls → j < length ls → at ls v i ≡ 1 → at ls v j ≡ 1 → OnePart ls terminal i j
  chained : {i j k : ℕ} → OnePart ls terminal i j → OnePart ls terminal j k → OnePart ls terminal i k

module _ (ls : Links) (terminal : ℕ → ℕ) where
  -- 1 if link j joins two inner sites, 0 if not
  unfoldable pub within : ℕ → ℕ
  within j = differ (terminal (one ls j)) 1 * differ (terminal (two ls j)) 1

  -- 1 if link j joins two terminals, 0 if not (02: a part without a joint is a single link)
  unfoldable pub single : ℕ → ℕ
  single j = is (terminal (one ls j)) 1 * is (terminal (two ls j)) 1

  -- the region of an inner site: its label by the links that join two inner sites. The inner sites of one part have one region
  unfoldable pub region : ℕ → ℕ
  region x = label (kept within ls) x

  -- 1 if x is an inner site of region g, 0 if not
  unfoldable pub member : ℕ → ℕ → ℕ
  member g x = differ (terminal x) 1 * is (region x) g

  -- an inner site of link j, its first where both are inner; a terminal where the link is single
  unfoldable pub home : ℕ → ℕ
  home j = pick (terminal (one ls j)) 1 (two ls j) (one ls j)

  -- 1 if link j is of the part whose inner sites are those of region g, 0 if not
  abbrev pub in_part : ℕ → ℕ → ℕ
  in_part g j = member g (home j)

  -- the lowest inner site of region g, among n sites; 0 where there is none
  unfoldable pub lowest : ℕ → ℕ → ℕ
  lowest n g = lowest_inner (λ x. differ (member g x) 1) 1 n

  -- 1 if v is the root of its part, 0 if not (02: its lowest-numbered joint)
  unfoldable pub root : ℕ → ℕ → ℕ
  root n v = differ (terminal v) 1 * is (lowest n (region v)) v

-- ---- the pairs

module _ (ls : Links) (n : ℕ) (t terminal : ℕ → ℕ) where
  -- the pairs of the part that is rooted at v, by the walk; none where v is no root
  unfoldable pub pairs_of_part : ℕ → List Pair
  pairs_of_part v = pick (root ls terminal n v) 1 (pairs_from ls n t terminal v) []

  -- the pair of a single link, of twice its capacity; none for capacity 0, and none for a link that is not single
  unfoldable pub pair_of_link : ℕ → List Pair
  pair_of_link j = pick (single ls terminal j) 1 (give (one ls j) (put (two ls j) (2 * t j) [])) []

  -- the pairs of all parts: of those with a root, by their roots, then of the single links
  unfoldable pub pairs_of_parts : List Pair
  pairs_of_parts = flat_map pairs_of_part (sites n) ++ flat_map pair_of_link (upfrom 0 (length ls))

  -- the pair list over all parts, in document 01's order
  unfoldable pub pair_list_of_parts : List Pair
  pair_list_of_parts = ordered pairs_of_parts

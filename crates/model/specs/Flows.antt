-- The network and the flows on it: sites and links, what is joined, trees, separation, multiflows and their loads.
-- Document 01, "The network sheet" (site, link, joined) and "Plans, trimmed sizes, end sets" (end, joint, plan, load, fits, total); 02, Card 7 (marks).
use Rattle.std.specs.Prelude.{◌≡◌, ◌≢◌, List, [], ◌∷◌, map, ℕ, zero, suc, ◌+◌, ◌*◌, ◌≤◌, ◌<◌, length, get_or}
use Rattle.lists.specs.Numbers.{pick, is, differ, sum, over, upfrom, look, Each}
use Rattle.model.specs.declared.Pair.{Pair}

-- ---- sites and links

-- the links by position from 0, each with its two sites (01: link)
abbrev pub Links : Type 0
Links = List (ℕ × ℕ)

-- sites are numbered from 1 to n (01: site)
abbrev pub Site : ℕ → ℕ → Type 0
Site n x = (1 ≤ x) × (x ≤ n)

-- the sites 1 .. n
abbrev pub sites : ℕ → List ℕ
sites n = upfrom 1 n

-- the two sites of link j
abbrev pub one : Links → ℕ → ℕ
one ls j = (get_or ls j (0, 0)).0

abbrev pub two : Links → ℕ → ℕ
two ls j = (get_or ls j (0, 0)).1

-- both sites of every link are sites of the network
abbrev pub Ends : Links → ℕ → Type 0
Ends ls n = (j : ℕ) → j < length ls → Site n (one ls j) × Site n (two ls j)

-- 1 if v is a site of link j, 0 if not
unfoldable pub at : Links → ℕ → ℕ → ℕ
at ls v j = pick (one ls j) v 1 (is (two ls j) v)

-- the sum of f over the links at v
unfoldable pub sum_at : Links → ℕ → (ℕ → ℕ) → ℕ
sum_at ls v f = sum (length ls) (λ i. at ls v i * f i)

-- the sum of f over the links at v other than link j
unfoldable pub others : Links → ℕ → ℕ → (ℕ → ℕ) → ℕ
others ls v j f = sum (length ls) (λ i. pick i j 0 (at ls v i * f i))

-- 1 at a site with just one link, 0 elsewhere (01: end; every other site is a joint).
-- Terminals enter what follows as any such predicate: 1 at a terminal, another number at an inner site.
unfoldable pub leaf : Links → ℕ → ℕ
leaf ls v = is (sum_at ls v (λ i. 1)) 1

-- the mark of site v, by the marks of the sites 1, 2, ..: 1 where the site is marked (02, Card 7: letter `T` in place of `N`)
abbrev pub mark : List ℕ → ℕ → ℕ
mark marks v = look (0 ∷ marks) v

-- 1 if site v has just one link or is marked, 0 if not (01: end; 02, Card 7: an end however many links it has)
unfoldable pub end_at : Links → List ℕ → ℕ → ℕ
end_at ls marks v = pick (mark marks v) 1 1 (leaf ls v)

-- the ends of a tree of n sites with its marks: place v holds 1 where site v is an end, 0 where it is none. Place 0 is unused.
-- This is the one rule of what an end is; the definitions below it take any terminals.
unfoldable pub ends : Links → ℕ → List ℕ → List ℕ
ends ls n marks = map (end_at ls marks) (upfrom 0 (suc n))

-- ---- joined

-- p in the place of q
unfoldable pub relabel : ℕ → ℕ → ℕ → ℕ
relabel p q u = pick u q p u

-- the label of a site: its own number at first; with each link more, the sites that have the label of its second site get that of its first
unfoldable pub label : Links → ℕ → ℕ
label [] x = x
label (l ∷ ls) x = relabel (label ls l.0) (label ls l.1) (label ls x)

-- 1 if the links join a and b, 0 if not (01: joined by a path of links)
unfoldable pub joined : Links → ℕ → ℕ → ℕ
joined ls a b = is (label ls a) (label ls b)

-- the same without labels: the least relation that holds of the sites of each link, of a site and itself, turned round and chained
pub data Joined (ls : Links) : ℕ → ℕ → Type 0 where
  same : {a : ℕ} → Joined ls a a
  link : (j : ℕ) → j < length ls → Joined ls (one ls j) (two ls j)
  back : {a b : ℕ} → Joined ls a b → Joined ls b a
  chain : {a b c : ℕ} → Joined ls a b → Joined ls b c → Joined ls a c

-- a tree of two or more sites: one link less than sites, and all sites joined
pub record Tree (ls : Links) (n : ℕ) : Type 0 where
  pub big : 2 ≤ n
  pub ends : Ends ls n
  pub links : n ≡ suc (length ls)
  pub whole : (x : ℕ) → Site n x → label ls x ≡ label ls 1

-- ---- separation

-- the links without link j
unfoldable pub without : ℕ → Links → Links
without j [] = []
without zero (l ∷ ls) = ls
without (suc j) (l ∷ ls) = l ∷ without j ls

-- the side of link j on which x stands: its label by the other links
unfoldable pub side : Links → ℕ → ℕ → ℕ
side ls j x = label (without j ls) x

-- 1 if link j separates a and b, 0 if not (01: their tree path uses it)
unfoldable pub separates : Links → ℕ → ℕ → ℕ → ℕ
separates ls j a b = differ (side ls j a) (side ls j b)

-- ---- multiflows

-- an entry joins two different terminals, with no other terminal between them
-- (with ends as terminals the last follows from the others)
pub record Route (ls : Links) (n : ℕ) (terminal : ℕ → ℕ) (e : Pair) : Type 0 where
  pub first-site : Site n e.first
  pub second-site : Site n e.second
  pub first-terminal : terminal e.first ≡ 1
  pub second-terminal : terminal e.second ≡ 1
  pub different : e.first ≢ e.second
  pub free : (w j : ℕ) → Site n w → terminal w ≡ 1 → w ≢ e.first → w ≢ e.second → j < length ls → at ls w j ≡ 1
      → separates ls j e.first e.second ≡ 0

-- a multiflow: entries with their amounts, in parts of a circuit (01: plan)
abbrev pub Multiflow : Links → ℕ → (ℕ → ℕ) → List Pair → Type 0
Multiflow ls n terminal es = Each (Route ls n terminal) es

-- the amounts of the entries that link j separates, summed (01: load)
unfoldable pub load : Links → List Pair → ℕ → ℕ
load ls [] j = 0
load ls (e ∷ es) j = e.amount * separates ls j e.first e.second + load ls es j

-- the sum of the amounts (01: total)
unfoldable pub total : List Pair → ℕ
total [] = 0
total (e ∷ es) = e.amount + total es

-- s is at most t on every link
abbrev pub Below : Links → (ℕ → ℕ) → (ℕ → ℕ) → Type 0
Below ls s t = (j : ℕ) → j < length ls → s j ≤ t j

-- a multiflow in parts of 1 / parts fits the capacities c (01: fits)
abbrev pub Fits : Links → ℕ → (ℕ → ℕ) → List Pair → Type 0
Fits ls parts c es = Below ls (load ls es) (λ j. parts * c j)

-- the sum of t over the links at the terminals
unfoldable pub at_terminals : Links → ℕ → (ℕ → ℕ) → (ℕ → ℕ) → ℕ
at_terminals ls n terminal t = over (sites n) (λ w. is (terminal w) 1 * sum_at ls w t)

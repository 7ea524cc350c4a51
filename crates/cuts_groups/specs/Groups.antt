-- Sites grouped by labels: what leaves the sites of a label, and what a tally holds.
use Rattle.std.specs.Prelude.{◌≡◌, List, ℕ, ◌+◌, ◌-◌, ◌*◌, ◌/◌, ◌%◌, ◌≤◌, length}
use Rattle.model.specs.Limits.{LINKS, PLACES, SITES, SIZE, WORDS}
use Rattle.lists.specs.Numbers.{is, differ, less, sum, look}
use Rattle.model.specs.Flows.{Links}
use Rattle.model.specs.Cuts.{in_cut, cut_size}
use Rattle.tree_sets.specs.Members.{bit}

-- d can be added at the labels of two sites
pub record Addable (sums labels : List ℕ) (one two d : ℕ) : Type 0 where
  pub places : length sums ≡ PLACES
  pub ends : (one ≤ SITES) × (two ≤ SITES)
  pub labelled : (x : ℕ) → look labels x ≤ SITES
  pub small : d ≤ SIZE
  pub room : (l : ℕ) → look sums l ≤ (LINKS - 1) * SIZE

-- 1 if just one of two sites has the label l, else 0
unfoldable pub leaves : List ℕ → ℕ → ℕ → ℕ → ℕ
leaves labels a b l = differ (is (look labels a) l) (is (look labels b) l)

-- the capacities of the links with just one site of label l, summed
unfoldable pub leaving : List ℕ → List ℕ → List ℕ → List ℕ → ℕ → ℕ
leaving labels one two c l = sum (length one) (λ j. leaves labels (look one j) (look two j) l * look c j)

-- what is counted of a network: labels of its sites, the same just for those in one cut, and for each label the size of the cut of a site with it
pub record Tallied (ls : Links) (c t : ℕ → ℕ) (labels sums : List ℕ) : Type 0 where
  pub grouped : (a x : ℕ) → a ≤ SITES → x ≤ SITES → is (look labels x) (look labels a) ≡ in_cut ls c t a x
  pub small : (x : ℕ) → look labels x ≤ SITES
  pub sizes : (a : ℕ) → a ≤ SITES → look sums (look labels a) ≡ cut_size ls c t a

-- 1 if place i is that of one of n sites with the label l, else 0
unfoldable pub labelled : ℕ → List ℕ → ℕ → ℕ → ℕ
labelled n labels l i = less i n * is (look labels (i + 1)) l

-- 1 if i is in the set of the WORDS words from word WORDS l on, else 0
unfoldable pub in_words : List ℕ → ℕ → ℕ → ℕ
in_words words l i = less i SITES * bit (look words (l * WORDS + i / 64)) (i % 64)

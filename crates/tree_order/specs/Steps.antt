-- What the functions of the elimination are given and give.
use Rattle.std.specs.Prelude.{◌≡◌, ◌≢◌, Bool, true, false, List, ℕ, suc, ◌+◌, ◌-◌, ◌*◌, ◌≤◌, ◌<◌, max, length, set, Option, None, Some}
use Rattle.model.specs.Limits.{PLACES, SITES}
use Rattle.lists.specs.Numbers.{is, look}
use Rattle.model.specs.Flows.{Site, Tree, sum_at}
use Rattle.tree_order.specs.Links.{links}
use Rattle.tree_order.specs.Toward.{elimination_toward, order_in}
use Rattle.tree_order.specs.declared.Search.{Search}

-- a and b are two different sites from 1 to n
abbrev pub Link : ℕ → ℕ → ℕ → Type 0
Link n a b = Site n a × Site n b × (a ≢ b)

-- 2 to SITES sites, and one link less, each between two different sites
pub record Proper (n : ℕ) (one two : List ℕ) : Type 0 where
  pub big : 2 ≤ n
  pub few : n ≤ SITES
  pub firsts : n ≡ suc (length one)
  pub seconds : n ≡ suc (length two)
  pub links : (j : ℕ) → j < length one → Link n (look one j) (look two j)

-- the share of link i in the keys of its two sites
abbrev pub share : ℕ → ℕ
share i = 65536 + i

-- the sum of the shares of the links at each site, 131072 more at the root
pub record Counted (one two : List ℕ) (root : ℕ) (keys : List ℕ) : Type 0 where
  pub places : length keys ≡ PLACES
  pub key : (x : ℕ) → look keys x ≡ sum_at (links one two) x share + is root x * 131072

-- r is the lowest site from `from` on with a key below 131072, or 0 if there is none
pub record Lowest (from n : ℕ) (keys : List ℕ) (r : ℕ) : Type 0 where
  pub none : r ≡ 0 → (x : ℕ) → Site n x → from ≤ x → 131072 ≤ look keys x
  pub some : r ≢ 0 → Site n r × (look keys r < 131072)
  pub below : r ≢ 0 → (x : ℕ) → Site n x → from ≤ x → x < r → 131072 ≤ look keys x

-- no site below `from` has a key below 131072, but for `back` where it is not 0
pub record Behind (n : ℕ) (keys : List ℕ) (s : Search) : Type 0 where
  pub site : Site n s.from
  pub others : (x : ℕ) → Site n x → x < s.from → x ≢ s.back → 131072 ≤ look keys x
  pub known : s.back ≢ 0 → Site n s.back × (s.back < s.from) × (look keys s.back < 131072)

-- r is w if it stands below `from` with a key below 131072, else 0
pub record Back (w key from r : ℕ) : Type 0 where
  pub none : r ≡ 0 → 1 ≤ w → w < from → 131072 ≤ key
  pub some : r ≢ 0 → (r ≡ w) × (w < from) × (key < 131072)

-- r goes on from s once v is taken: from the highest site so far on, and back at w, with this key
pub record Onward (s : Search) (v w key : ℕ) (r : Search) : Type 0 where
  pub from : r.from ≡ max s.from v
  pub back : Back w key r.from r.back

-- the site of the link with this share that is not v
abbrev pub far_end : List ℕ → List ℕ → ℕ → ℕ → ℕ
far_end a b s v = look a (s - 65536) + look b (s - 65536) - v

-- v is taken over a link with its key as share: where the link stands, and what is kept of the site at its other end
pub record Over (n : ℕ) (a b keys : List ℕ) (v : ℕ) : Type 0 where
  pub share : 65536 ≤ look keys v
  pub position : (look keys v - 65536 < length a) × (look keys v - 65536 < length b)
  pub ends : Site n (look a (look keys v - 65536)) × Site n (look b (look keys v - 65536))
  pub enough : v ≤ look a (look keys v - 65536) + look b (look keys v - 65536)
  pub end : Site n (far_end a b (look keys v) v)
  pub other : far_end a b (look keys v) v ≢ v
  pub less : look keys v ≤ look keys (far_end a b (look keys v) v)

-- site v, of n, can be taken: alone, or over a link
pub record Ready (a b keys : List ℕ) (v : ℕ) : Type 0 where
  pub n : ℕ
  pub few : n ≤ SITES
  pub site : Site n v
  pub places : length keys ≡ PLACES
  pub over : look keys v ≢ 0 → Over n a b keys v

-- v is taken: w is the site at the other end of its link, or 0, and these are the keys after it
pub record Took (a b keys : List ℕ) (v w : ℕ) (after : List ℕ) : Type 0 where
  pub alone : look keys v ≡ 0 → (w ≡ 0) × (after ≡ set keys v 131072)
  pub over : look keys v ≢ 0 → let l = set keys v 131072 in (w ≡ far_end a b (look keys v) v) × (after ≡ set l w (look l w - look keys v))

-- all sites are taken just if the links make a tree, and then in the order toward the root
pub record Eliminated (n : ℕ) (one two : List ℕ) (root : ℕ) (taken : List ℕ) (all : Bool) : Type 0 where
  pub tree : all ≡ true → Tree (links one two) n
  pub order : all ≡ true → taken ≡ order_in n (elimination_toward (links one two) n root)
  pub none : all ≡ false → Tree (links one two) n → ⊥

-- the order toward the root where the links make a tree, and none where they do not
abbrev pub OrderToward : ℕ → List ℕ → List ℕ → ℕ → Option (List ℕ) → Type 0
OrderToward n one two root None = Tree (links one two) n → ⊥
OrderToward n one two root (Some order) = Tree (links one two) n × (order ≡ order_in n (elimination_toward (links one two) n root))

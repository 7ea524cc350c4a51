-- The decomposition of balanced capacities into pairs, by a walk from the root.
-- Document 01, "Pairing", steps 1 to 4, and the order of the pair list. Amounts are in halves; t: balanced capacities.
use Rattle.std.specs.Prelude.{List, [], ◌∷◌, ◌++◌, ℕ, zero, suc, ◌+◌, ◌-◌, ◌*◌, min, length}
use Rattle.lists.specs.Numbers.{pick, is, less}
use Rattle.model.specs.Flows.{Links, sum_at}
use Rattle.model.specs.declared.Pair.{Pair}

-- ---- lists of halves

-- entries (site, amount) in the order in which they are handed on
abbrev pub Halves : Type 0
Halves = List (ℕ × ℕ)

-- an entry put in front; an amount of 0 makes none
unfoldable pub put : ℕ → ℕ → Halves → Halves
put x zero l = l
put x (suc a) l = (x, suc a) ∷ l

-- the first k halves, and those after them; a list cut inside an entry cuts that entry
unfoldable pub take_halves : ℕ → Halves → Halves
take_halves k [] = []
take_halves k (h ∷ l) = put h.0 (min k h.1) (take_halves (k - h.1) l)

unfoldable pub drop_halves : ℕ → Halves → Halves
drop_halves k [] = []
drop_halves k (h ∷ l) = put h.0 (h.1 - k) (drop_halves (k - h.1) l)

-- the sum of the amounts
unfoldable pub halves : Halves → ℕ
halves [] = 0
halves (h ∷ l) = h.1 + halves l

-- site x paired with each entry of a list
unfoldable pub give : ℕ → Halves → List Pair
give x [] = []
give x (h ∷ l) = record { first = x; second = h.0; amount = h.1 } ∷ give x l

-- two lists matched from the left: each entry of the first takes its amount from the front of the second,
-- so that always the lesser of the two front amounts makes a pair
unfoldable pub match : Halves → Halves → List Pair
match [] d = []
match (h ∷ u) d = give h.0 (take_halves h.1 d) ++ match u (drop_halves h.1 d)

-- ---- the children of a site

-- 1 if the link joins v and c, 0 if not
unfoldable pub joins : ℕ × ℕ → ℕ → ℕ → ℕ
joins l v c = pick l.0 v (is l.1 c) (is l.0 c * is l.1 v)

-- the position of the link between v and c; the number of links where there is none
unfoldable pub between : Links → ℕ → ℕ → ℕ
between [] v c = 0
between (l ∷ ls) v c = pick (joins l v c) 1 0 (suc (between ls v c))

-- the children of v in ascending number, among m sites from c up, each with the link to it;
-- j is the link to the parent, or the number of links at the root
unfoldable pub children : Links → ℕ → ℕ → ℕ → ℕ → List (ℕ × ℕ)
children ls v j c zero = []
children ls v j c (suc m) =
    let k = between ls v c in
    let rest = children ls v j (suc c) m in
    pick (is k j + is k (length ls)) 0 ((c, k) ∷ rest) rest

-- ---- the walk

-- what a site hands to its parent, and the pairs made below it
pub record Part : Type 0 where
  pub ups : Halves
  pub downs : Halves
  pub pairs : List Pair

abbrev pub nothing : Part
nothing = record { ups = []; downs = []; pairs = [] }

abbrev pub join : Part → Part → Part
join a b = record { ups = a.ups ++ b.ups; downs = a.downs ++ b.downs; pairs = a.pairs ++ b.pairs }

-- step 1: each child in turn sends up the lesser of its amount and of what remains of r, and the rest of its amount goes down;
-- what the children hand back is joined in order
unfoldable pub gather : (ℕ → ℕ → ℕ → ℕ → Part) → (ℕ → ℕ) → ℕ → List (ℕ × ℕ) → Part
gather visit t r [] = nothing
gather visit t r (e ∷ ks) =
    let s = min (2 * t e.1) r in
    join (visit e.0 e.1 s (2 * t e.1 - s)) (gather visit t (r - s) ks)

-- step 2: a terminal has an up list and a down list of itself
unfoldable pub alone : ℕ → ℕ → ℕ → Part
alone v up down = record { ups = put v up []; downs = put v down []; pairs = [] }

-- steps 3 and 4: the last `up` halves go on to the parent, the first `down` halves are fed from it, and what is left is matched
unfoldable pub settle : ℕ → ℕ → Part → Part
settle up down g =
    let own = halves g.ups - up in
    record {
      ups = drop_halves own g.ups;
      downs = take_halves down g.downs;
      pairs = g.pairs ++ match (take_halves own g.ups) (drop_halves down g.downs);
    }

module _ (ls : Links) (n : ℕ) (t terminal : ℕ → ℕ) where
  -- the walk below site v, entered over link j with `up` halves to send up and `down` halves coming down; fuel: at least the sites below
  unfoldable pub walk : ℕ → ℕ → ℕ → ℕ → ℕ → Part
  walk zero v j up down = nothing
  walk (suc fuel) v j up down =
      pick (terminal v) 1 (alone v up down)
      (settle up down (gather (λ c k s d. walk fuel c k s d) t (sum_at ls v t - down) (children ls v j 1 n)))

  -- the pairs of the walk from the root
  unfoldable pub pairs_from : ℕ → List Pair
  pairs_from root = (walk n root (length ls) 0 0).pairs

-- the lowest site from c up, among m, that is no terminal; 0 where there is none
unfoldable pub lowest_inner : (ℕ → ℕ) → ℕ → ℕ → ℕ
lowest_inner terminal c zero = 0
lowest_inner terminal c (suc m) = pick (terminal c) 1 (lowest_inner terminal (suc c) m) c

-- the pairs from the joint of lowest number; without one there are two sites, and one pair of twice the capacity, or none for capacity 0
unfoldable pub pairs : Links → ℕ → (ℕ → ℕ) → (ℕ → ℕ) → List Pair
pairs ls n t terminal =
    let root = lowest_inner terminal 1 n in
    pick root 0 (give 1 (put 2 (2 * t 0) [])) (pairs_from ls n t terminal root)

-- ---- the order of the pair list

-- the pair with its lower-numbered site first
unfoldable pub lower_first : Pair → Pair
lower_first e = pick (less e.second e.first) 1 (record { first = e.second; second = e.first; amount = e.amount }) e

-- 1 if pair e comes before pair f, by first, then second; 0 if not
unfoldable pub before : Pair → Pair → ℕ
before e f = pick e.first f.first (less e.second f.second) (less e.first f.first)

unfoldable pub insert : Pair → List Pair → List Pair
insert e [] = e ∷ []
insert e (f ∷ es) = pick (before f e) 1 (f ∷ insert e es) (e ∷ f ∷ es)

unfoldable pub ordered : List Pair → List Pair
ordered [] = []
ordered (e ∷ es) = insert (lower_first e) (ordered es)

-- the pair list (01: the pair list, put in order)
unfoldable pub pair_list : Links → ℕ → (ℕ → ℕ) → (ℕ → ℕ) → List Pair
pair_list ls n t terminal = ordered (pairs ls n t terminal)

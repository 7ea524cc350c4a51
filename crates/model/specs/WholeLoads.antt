-- The loads and the sets of the report in whole circuits, by two ways along the elimination order: intervals inward, loads and sets outward.
-- Document 02, Card 2, leaves open which of several largest loads and sets are taken: these are. What holds of them is in theory_whole/Circuits.
use Rattle.std.proofs.Math.Logic.{ite}
use Rattle.std.specs.Prelude.{List, [], ◌∷◌, map, ℕ, ◌+◌, ◌-◌, ◌*◌, ◌%◌, min, max, length}
use Rattle.std.proofs.Math.Decide.{ℕ_discrete, dec_le, dec_lt}
use Rattle.lists.specs.Numbers.{pick, is, over, upfrom}
use Rattle.model.specs.Flows.{Links, one, two, sum_at}
use Rattle.model.specs.Trimming.{unvisited, elimination}

-- ---- parents: the last site of an inward order is the root; every other site has one link to a later site, its parent

-- a list from the first x in it on
unfoldable pub from : List ℕ → ℕ → List ℕ
from [] x = []
from (u ∷ us) x = ite (ℕ_discrete u x) (u ∷ us) (from us x)

-- f of the link from v to its parent, 0 at the root
unfoldable pub upward : Links → List ℕ → ℕ → (ℕ → ℕ) → ℕ
upward ls us v f = sum_at ls v (λ j. unvisited ls (from us v) j * f j)

-- the other site of link j at v
unfoldable pub beyond : Links → ℕ → ℕ → ℕ
beyond ls v j = one ls j + two ls j - v

-- the parent of v, 0 at the root
unfoldable pub parent_of : Links → List ℕ → ℕ → ℕ
parent_of ls us v = upward ls us v (beyond ls v)

-- ---- at a site

-- f with y at x
unfoldable pub put : (ℕ → ℕ) → ℕ → ℕ → ℕ → ℕ
put f x y z = pick z x y (f z)

-- of the loads least, least + 2, .., most that the children of a site can bring together, the lowest and the highest that a link of capacity k lets through
unfoldable pub lowest : ℕ → ℕ → ℕ
lowest least k = min least k

unfoldable pub highest : ℕ → ℕ → ℕ → ℕ
highest least most k = ite (dec_lt k least) k (min most (k - (k + most) % 2))

-- 1 if a site is on the way of its set to the terminal: the set starts there, or comes along the way from the parent
unfoldable pub on_way : ℕ → ℕ → ℕ → ℕ
on_way least k coming = ite (dec_le 2 least) (ite (dec_lt k least) 1 coming) 0

-- the terminal whose set a site is in: where the way leads, or that of the parent where the link to it is no bottleneck, or 0
unfoldable pub owner_at : ℕ → ℕ → ℕ → ℕ → ℕ → ℕ
owner_at on goal most k up = pick on 1 goal (ite (dec_le most k) up 0)

-- ---- the way inward

-- of each site the loads that its children can bring together (from `least` to `most` in steps of 2), those that the link to the parent lets through
-- (from `low` to `high`), the child with the greatest `high`, and the terminal to which such children lead
pub record Intervals : Type 0 where
  pub least : ℕ → ℕ
  pub most : ℕ → ℕ
  pub low : ℕ → ℕ
  pub high : ℕ → ℕ
  pub top : ℕ → ℕ
  pub goal : ℕ → ℕ

abbrev pub no_intervals : Intervals
no_intervals = record { least = λ x. 0; most = λ x. 0; low = λ x. 0; high = λ x. 0; top = λ x. 0; goal = λ x. 0 }

-- of each site the load of the link to its parent, the terminal whose set it is in, or 0, and 1 if it is on the way of its set to the terminal
pub record Loading : Type 0 where
  pub load : ℕ → ℕ
  pub owner : ℕ → ℕ
  pub on : ℕ → ℕ

-- c: the capacity of the link from each site to its parent, 0 at the root
module _ (parent c terminal : ℕ → ℕ) where
  -- the child of p with the greatest `high` so far, once v with the value new is taken; a terminal has none
  unfoldable pub new_top : ℕ → ℕ → ℕ → ℕ → ℕ → ℕ
  new_top p old was v new = pick p 0 0 (pick (terminal p) 1 0 (pick old 0 v (ite (dec_lt was new) v old)))

  -- the least load that the children of v can bring together; a terminal is held to be above its capacity
  unfoldable pub least_at : Intervals → ℕ → ℕ
  least_at s v = let t = s.top v in pick (terminal v) 1 (c v + 2) (max (s.low t + s.high t - s.most v) (s.most v % 2))

  -- site v is taken
  unfoldable pub take : Intervals → ℕ → Intervals
  take s v =
      let p = parent v in
      let least = least_at s v in
      let high = highest least (s.most v) (c v) in
      record {
        least = put s.least v least;
        most = put s.most p (s.most p + high);
        low = put s.low v (lowest least (c v));
        high = put s.high v high;
        top = put s.top p (new_top p (s.top p) (s.high (s.top p)) v high);
        goal = put s.goal v (pick (terminal v) 1 v (s.goal (s.top v)));
      }

  unfoldable pub take_all : List ℕ → Intervals → Intervals
  take_all [] s = s
  take_all (v ∷ vs) s = take_all vs (take s v)

  -- ---- the way outward

  -- the load of the child `top` of v, with a load h of all children together and of the parent: all other children have their `high`
  unfoldable pub top_load : ℕ → ℕ → ℕ
  top_load high h = min (high - h % 2) (h - high)

  -- 1 if the way of the parent's set leads on to v
  unfoldable pub coming : Intervals → Loading → ℕ → ℕ
  coming s o v = pick (o.on (parent v)) 1 (is (s.top (parent v)) v) 0

  -- site v comes
  unfoldable pub give : Intervals → Loading → ℕ → Loading
  give s o v =
      let t = s.top v in
      let on = on_way (s.least v) (c v) (coming s o v) in
      record {
        load = λ x. pick (terminal v) 1 (o.load x) (put o.load t (top_load (s.high t) (o.load v + s.most v)) x);
        owner = put o.owner v (owner_at on (s.goal v) (s.most v) (c v) (o.owner (parent v)));
        on = put o.on v on;
      }

  -- the last site first
  unfoldable pub give_all : Intervals → List ℕ → Loading
  give_all s [] = record { load = s.high; owner = λ x. 0; on = λ x. 0 }
  give_all s (v ∷ vs) = give s (give_all s vs) v

-- ---- the loads and the sets

-- the load of link j: that of the site whose link to the parent it is
unfoldable pub link_load : Links → List ℕ → (ℕ → ℕ) → ℕ → ℕ
link_load ls us x j = over us (λ v. upward ls us v (λ i. is i j) * x v)

module _ (ls : Links) (n : ℕ) (terminal c : ℕ → ℕ) where
  -- the capacity of the link from v to its parent
  unfoldable pub above : ℕ → ℕ
  above v = upward ls (elimination ls n) v c

  unfoldable pub intervals : Intervals
  intervals = take_all (parent_of ls (elimination ls n)) above terminal (elimination ls n) no_intervals

  unfoldable pub loading : Loading
  loading = give_all (parent_of ls (elimination ls n)) above terminal intervals (elimination ls n)

  -- the load of link j in circuits (02: the load in place of the trimmed size)
  unfoldable pub whole_load : ℕ → ℕ
  whole_load j = link_load ls (elimination ls n) loading.load j

  -- the terminal whose set holds site x, or 0 (02: the end sets)
  unfoldable pub whole_owner : ℕ → ℕ
  whole_owner x = loading.owner x

  -- the loads as a list, in the order of the links
  unfoldable pub whole_loads : List ℕ
  whole_loads = map whole_load (upfrom 0 (length ls))

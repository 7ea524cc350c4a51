-- What code that keeps the lists in arrays relies on: no amount is 0, none is greater than what was sent,
-- and no list is longer than there are sites below.
use Rattle.std.specs.Prelude.{◌≡◌, ◌≢◌, List, [], ◌∷◌, ℕ, suc, ◌+◌, ◌-◌, ◌*◌, ◌≤◌, ◌<◌, min, length}
use Rattle.std.proofs.Common.{sym, inl, arith}
use Rattle.lists.specs.Numbers.{Each}
use Rattle.model.specs.Flows.{Links, Site, sum_at, separates, Tree, Route, load}
use Rattle.model.specs.Trimming.{Balanced}
use Rattle.model.specs.Pairing.{Halves, Part, halves, children, gather, walk}
use Rattle.model.specs.declared.Pair.{Pair}
use Rattle.theory_trees.specs.Trees.{local_one}
use Rattle.lists.specs.Tallies.{each_both}
use Rattle.theory_walk.specs.Children.{size, size-children}
use Rattle.theory_walk.specs.Handed.{All, Good, entries}
use Rattle.theory_walk.specs.Gather.{gather_few}
use Rattle.theory_walk.specs.Settle.{ups_are, downs_are}
use Rattle.theory_walk.specs.Walk.{Start, start-entered, node, inner, walk_good}

-- ---- no amount is 0

-- neither in the two lists of a part nor in its pairs
abbrev pub FilledPart : Part → Type 0
FilledPart p = All (λ h. 1 ≤ h.1) (λ e. 1 ≤ e.amount) p

-- ---- what a site hands back

-- each amount is at most the sum
pub amounts_le : (l : Halves) (m : ℕ) → halves l ≤ m → Each (λ h. h.1 ≤ m) l
unfolding halves
amounts_le [] m p = tt
amounts_le (h ∷ l) m p = (omega arith, amounts_le l m (omega arith))

-- bounds of what is handed back below site v
pub record Short (ls : Links) (n j v up down : ℕ) (p : Part) : Type 0 where
  pub up_amounts : Each (λ h. h.1 ≤ up) p.ups
  pub down_amounts : Each (λ h. h.1 ≤ down) p.downs
  pub pairs_short : length p.pairs + 1 ≤ size ls n j v
  pub ups_short : length p.ups ≤ size ls n j v
  pub downs_short : length p.downs ≤ size ls n j v

some_entry : (l : Halves) → min 1 (halves l) ≤ length l
some_entry [] = unfold halves in (omega arith)
some_entry (h ∷ l) = omega arith

short : (ls : Links) (n : ℕ) (t terminal : ℕ → ℕ) (j v up down : ℕ) (p : Part) → Good ls n t terminal j v up down p → Short ls n j v up down p
short ls n t terminal j v up down p g =
    let u = rw g.up-halves at (some_entry p.ups) in
    let d = rw g.down-halves at (some_entry p.downs) in
    let f = g.few in
    record {
      up_amounts = amounts_le p.ups up (omega (arith, g.up-halves));
      down_amounts = amounts_le p.downs down (omega (arith, g.down-halves));
      pairs_short = omega (arith, u, d, f);
      ups_short = omega (arith, d, f);
      downs_short = omega (arith, u, f);
    }

-- ---- what its children hand back together

-- bounds of the joined lists at an inner site v
pub record Gathered (ls : Links) (n : ℕ) (t : ℕ → ℕ) (j v up down : ℕ) (g : Part) : Type 0 where
  pub ups_sum : halves g.ups ≡ sum_at ls v t - down
  pub downs_sum : halves g.downs ≡ sum_at ls v t - up
  pub all_short : entries g ≤ size ls n j v

module _ {ls : Links} {n : ℕ} (T : Tree ls n) (t terminal : ℕ → ℕ) (B : Balanced ls terminal t) (fuel v j up down : ℕ)
    (pv : Site n v) (st : Start ls t terminal j v up down) where
  pub walk_short : size ls n j v ≤ fuel → Short ls n j v up down (walk ls n t terminal fuel v j up down)
  walk_short l = short ls n t terminal j v up down (walk ls n t terminal fuel v j up down) (walk_good T t terminal B fuel v j up down pv st l)

  pub gather_short : terminal v ≢ 1 → size ls n j v ≤ suc fuel
      → Gathered ls n t j v up down (gather (λ c k s d. walk ls n t terminal fuel c k s d) t (sum_at ls v t - down) (children ls v j 1 n))
  gather_short tv l =
      let en = start-entered ls t terminal j v up down st in
      let N = node T t terminal fuel v j pv en in
      let I = inner T t terminal B fuel v j up down pv tv st l (λ c k s d pc ak q m. walk_good T t terminal B fuel c k s d pc (inl (ak, q)) m) in
      record {
        ups_sum = ups_are N up down I;
        downs_sum = downs_are N up down I;
        all_short = omega (arith, gather_few N (sum_at ls v t - down) (children ls v j 1 n) I.ready, size-children T v j en pv);
      }

-- ---- the amounts of pairs

-- each entry is part of every load that it crosses
each-load : (ls : Links) (b : ℕ → ℕ) (es : List Pair) → ((j : ℕ) → j < length ls → load ls es j ≤ b j)
    → Each (λ e. (j : ℕ) → j < length ls → e.amount * separates ls j e.first e.second ≤ b j) es
unfolding load
each-load ls b [] h = tt
each-load ls b (e ∷ es) h = ((λ j l. omega (arith, h j l)), each-load ls b es (λ j l. omega (arith, h j l)))

pub loads_bound_amounts : {ls : Links} {n : ℕ} → Tree ls n → (terminal : ℕ → ℕ) (m : ℕ) (es : List Pair) → Each (Route ls n terminal) es
    → ((j : ℕ) → j < length ls → load ls es j ≤ m) → Each (λ e. e.amount ≤ m) es
loads_bound_amounts {ls} {n} T terminal m es p h =
    each_both (Route ls n terminal) (λ e. (j : ℕ) → j < length ls → e.amount * separates ls j e.first e.second ≤ m) (λ e. e.amount ≤ m)
    (λ e r c. let k = local_one T e.first e.second r.first-site r.second-site (λ z. r.different (sym z)) in
    omega (arith, rw k.3 at (c k.0 k.1))) es p (each-load ls (λ j. m) es h)

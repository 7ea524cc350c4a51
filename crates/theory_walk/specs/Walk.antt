-- Every site of the walk hands back a good part: by induction over fuel, from terminals to the root.
use Rattle.std.specs.Prelude.{◌≡◌, refl, ◌≢◌, ◌⊎◌, length}
use Rattle.std.proofs.Math.Path.{ap}
use Rattle.std.proofs.Common.{◌∙◌, inl, inr}
use mathlib.Core.List.{List, [], ◌∷◌}
use Prim.Native.Nat.{ℕ, zero, suc, ◌+◌, ◌-◌, ◌*◌, ◌≤◌, ◌<◌}
use native.Mathlib.Omega.{arith}
use Rattle.lists.specs.Numbers.{is, pick, Each}
use Rattle.model.specs.Flows.{Links, Site, sites, one, sum_at, others, separates, Tree, Multiflow, Route, load}
use Rattle.model.specs.Trimming.{Balanced}
use Rattle.model.specs.Pairing.{Part, put, halves, children, gather, alone, settle, walk, pairs_from}
use Rattle.model.specs.declared.Pair.{Pair}
use Rattle.lists.specs.Sums.{pick_cases, same?, is_le}
use Rattle.theory_trees.specs.Trees.{separates_comm, separates_self, others-add}
use Rattle.lists.specs.Tallies.{tally, each-le, each_map, each_both}
use Rattle.theory_walk.specs.Sound.{arises}
use Rattle.theory_walk.specs.Halves.{halves_at, at-put, at_none, halves-put, length-put}
use Rattle.theory_walk.specs.Match.{flow}
use Rattle.lists.specs.Places.{length-upfrom, over-one, over-le}
use Rattle.theory_walk.specs.Subtrees.{LinkAt, Entered, Child, Within, Outside, others-all, branch_site, branch_link, aside, outside, separates-nothing}
use Rattle.theory_walk.specs.Children.{children_are, inside, size, size-children}
use Rattle.theory_walk.specs.Handed.{Open, Reaching, Made, Good, sends}
use Rattle.theory_walk.specs.Gather.{Node, Ready}
use Rattle.theory_walk.specs.Settle.{Inner, settle_good}

-- how the walk comes to v: over link j, whose amount is split into `up` and `down`, or at the root, which is no terminal
abbrev pub Start : Links → (ℕ → ℕ) → (ℕ → ℕ) → ℕ → ℕ → ℕ → ℕ → Type 0
Start ls t terminal j v up down = (LinkAt ls v j × (up + down ≡ 2 * t j)) ⊎ ((j ≡ length ls) × (terminal v ≢ 1) × (up + down ≡ 0))

pub start-entered : (ls : Links) (t terminal : ℕ → ℕ) (j v up down : ℕ) → Start ls t terminal j v up down → Entered ls j v
start-entered ls t terminal j v up down (inl s) = inl s.0
start-entered ls t terminal j v up down (inr s) = inr s.0

pub put-each : (P : ℕ → Type 0) (x a : ℕ) → P x → Each (λ h. P h.0) (put x a [])
unfolding put
put-each P x zero p = tt
put-each P x (suc a) p = (p, tt)

put_once : (f : ℕ → ℕ) (x a : ℕ) → f x ≤ 1 → tally (λ h. f h.0) (put x a []) ≤ 1
unfolding tally put
put_once f x zero p = omega arith
put_once f x (suc a) p = omega arith

-- site v below link j, its children visited with the given fuel
abbrev pub node : {ls : Links} {n : ℕ} → Tree ls n → (t terminal : ℕ → ℕ) (fuel v j : ℕ) → Site n v → Entered ls j v → Node ls n
node {ls} {n} T t terminal fuel v j pv en = record {
  tree = T;
  t = t;
  terminal = terminal;
  v = v;
  j = j;
  site = pv;
  entered = en;
  visit = λ c k s d. walk ls n t terminal fuel c k s d;
}

module _ {ls : Links} {n : ℕ} (T : Tree ls n) (t terminal : ℕ → ℕ) where
  -- ---- a terminal
  module _ (v j up down : ℕ) (pv : Site n v) (tv : terminal v ≡ 1) (aj : LinkAt ls v j) (amount : up + down ≡ 2 * t j) where
    -- a link of the subtree that does not lie behind the terminal is the link to its parent
    only : (w i : ℕ) → Site n w → Outside ls j v w → i < length ls → Within ls j v i → Open ls n terminal w i → i ≡ j
    only w i pw b l wi op = same? i j (λ e. e) (λ d. let r = branch_link T v j i pv l d wi in
        absurd (op v r.0 pv tv r.1.link (outside T v j r.0 w (inl aj) pv pw b r.1) r.2))

    crossed : (w : ℕ) → Outside ls j v w → halves_at (separates ls j w) (put v up []) + halves_at (separates ls j w) (put v down []) ≡ up + down
    unfolding tally
    crossed w (inr b) = absurd (omega arith)
    crossed w (inl b) = let c : separates ls j w v ≡ 1 = separates_comm ls j w v ∙ b in
        omega (arith, rw c at (at-put (separates ls j w) v up []), rw c at (at-put (separates ls j w) v down []))

    itself : Reaching ls n terminal j v v
    itself = record {
      within = record { site = pv; ends = tv; inner = separates_self ls j v };
      free = λ y i w p d ai pw cw.
          let m = branch_site T v j y pv p.site d p.inner in
          aside T i m.0 v y v w ai.bound m.1.link.bound pv pv pw ai.here m.2
          (separates_self ls m.0 v) (outside T v j m.0 w (inl aj) pv pw (inl cw) m.1);
    }

    alone-good : Good ls n t terminal j v up down (alone v up down)
    unfolding alone tally halves
    alone-good = record {
      up-halves = omega (arith, halves-put v up []);
      down-halves = omega (arith, halves-put v down []);
      all = record {
        ups_all = put-each (Reaching ls n terminal j v) v up itself;
        downs_all = put-each (Reaching ls n terminal j v) v down itself;
        pairs-all = tt;
      };
      loads = λ w i pw b li wi op. rw (only w i pw b li wi op) (omega (arith, crossed w b));
      few = omega (arith, length-put v up [], length-put v down [], size-children T v j (inl aj) pv);
      ups_once = λ x. put_once (λ y. is y x) v up (is_le v x);
      downs_once = λ x. put_once (λ y. is y x) v down (is_le v x);
      pairs_once = λ x y. omega arith;
    }

  -- ---- every site
  module _ (B : Balanced ls terminal t) where
    amounts : (j v up down : ℕ) → Start ls t terminal j v up down → up + down + 2 * others ls v j t ≡ 2 * sum_at ls v t
    amounts j v up down (inl s) = omega (arith, others-add ls v j t s.0.bound s.0.here, s.1)
    amounts j v up down (inr s) = omega (arith, others-all ls v j t (omega (arith, s.0)), s.2)

    pub room : (j v up down : ℕ) → terminal v ≢ 1 → Start ls t terminal j v up down → up + down ≤ sum_at ls v t
    room j v up down tv (inl s) = omega (arith, B v tv j s.0.bound s.0.here, s.1)
    room j v up down tv (inr s) = omega (arith, s.2)

    -- what an inner site needs of its children, told by the visits below it
    pub inner : (fuel v j up down : ℕ) (pv : Site n v) → terminal v ≢ 1 → (st : Start ls t terminal j v up down) → size ls n j v ≤ suc fuel
        → ((c k s d : ℕ) → Site n c → LinkAt ls c k → s + d ≡ 2 * t k → size ls n k c ≤ fuel
        → Good ls n t terminal k c s d (walk ls n t terminal fuel c k s d))
        → Inner (node T t terminal fuel v j pv (start-entered ls t terminal j v up down st)) up down
    inner fuel v j up down pv tv st few visits =
        let en = start-entered ls t terminal j v up down st in
        let ks = children ls v j 1 n in
        record {
          not-terminal = tv;
          light = B v tv;
          room = room j v up down tv st;
          amount = amounts j v up down st;
          ready = each_both (λ e. Child ls n v j e.0 e.1) (λ e. size ls n e.1 e.0 ≤ fuel) (Ready (node T t terminal fuel v j pv en))
              (λ e c l. record { child = c; good = λ s d q. visits e.0 e.1 s d c.site c.up q l })
              ks (children_are T v j 1 n) (each-le (λ e. size ls n e.1 e.0) fuel ks (omega (arith, size-children T v j en pv)));
        }

    pub walk_good : (fuel v j up down : ℕ) → Site n v → Start ls t terminal j v up down → size ls n j v ≤ fuel
        → Good ls n t terminal j v up down (walk ls n t terminal fuel v j up down)
    unfolding walk
    walk_good zero v j up down pv st few = absurd (omega (arith, size-children T v j (start-entered ls t terminal j v up down st) pv))
    walk_good (suc fuel) v j up down pv st few =
        pick_cases (Good ls n t terminal j v up down) (terminal v) 1 (alone v up down)
        (settle up down (gather (λ c k s d. walk ls n t terminal fuel c k s d) t (sum_at ls v t - down) (children ls v j 1 n)))
        (λ tv. ended tv st)
        (λ tv. settle_good (node T t terminal fuel v j pv (start-entered ls t terminal j v up down st)) up down
        (inner fuel v j up down pv tv st few (λ c k s d pc ak q l. walk_good fuel c k s d pc (inl (ak, q)) l)))
      where
        ended : terminal v ≡ 1 → Start ls t terminal j v up down → Good ls n t terminal j v up down (alone v up down)
        ended tv (inl s) = alone-good v j up down pv tv s.0 s.1
        ended tv (inr s) = absurd (s.1 tv)

-- ---- the fuel

-- at most all the sites are below a site
pub size-le : (ls : Links) (n j v : ℕ) → size ls n j v ≤ n
unfolding size inside
size-le ls n j v = omega (
  arith,
  over-le (sites n) (λ x. 1 - separates ls j v x) (λ x. 1) (λ x m. omega arith),
  over-one (sites n),
  length-upfrom 1 n,
)

gather-same : (visit visit' : ℕ → ℕ → ℕ → ℕ → Part) (t : ℕ → ℕ) (r : ℕ) (ks : List (ℕ × ℕ))
    → Each (λ e. (s d : ℕ) → visit e.0 e.1 s d ≡ visit' e.0 e.1 s d) ks → gather visit t r ks ≡ gather visit' t r ks
unfolding gather
gather-same visit visit' t r [] h = refl
gather-same visit visit' t r (e ∷ ks) h =
    let s = sends t e r in
    rw (h.0 s (2 * t e.1 - s), gather-same visit visit' t (r - s) ks h.1)

module _ {ls : Links} {n : ℕ} (T : Tree ls n) (t terminal : ℕ → ℕ) where
  -- as much fuel as there are sites below is enough: more gives the same
  pub walk_fuel : (fuel more v j up down : ℕ) → Site n v → Entered ls j v → size ls n j v ≤ fuel → size ls n j v ≤ more
      → walk ls n t terminal fuel v j up down ≡ walk ls n t terminal more v j up down
  unfolding walk
  walk_fuel zero more v j up down pv en l m = absurd (omega (arith, size-children T v j en pv))
  walk_fuel (suc fuel) zero v j up down pv en l m = absurd (omega (arith, size-children T v j en pv))
  walk_fuel (suc fuel) (suc more) v j up down pv en l m =
      let ks = children ls v j 1 n in
      let small : (k : ℕ) → size ls n j v ≤ suc k → Each (λ e. size ls n e.1 e.0 ≤ k) ks = λ k q.
      each-le (λ e. size ls n e.1 e.0) k ks (omega (arith, size-children T v j en pv)) in
      ap (λ g. pick (terminal v) 1 (alone v up down) (settle up down g))
      (gather-same (λ c k s d. walk ls n t terminal fuel c k s d) (λ c k s d. walk ls n t terminal more c k s d) t (sum_at ls v t - down) ks
      (each_both (λ e. Child ls n v j e.0 e.1) (λ e. (size ls n e.1 e.0 ≤ fuel) × (size ls n e.1 e.0 ≤ more))
      (λ e. (s d : ℕ) → walk ls n t terminal fuel e.0 e.1 s d ≡ walk ls n t terminal more e.0 e.1 s d)
      (λ e c q s d. walk_fuel fuel more e.0 e.1 s d c.site (inl c.up) q.0 q.1) ks (children_are T v j 1 n)
      (each_both (λ e. size ls n e.1 e.0 ≤ fuel) (λ e. size ls n e.1 e.0 ≤ more)
      (λ e. (size ls n e.1 e.0 ≤ fuel) × (size ls n e.1 e.0 ≤ more)) (λ e p q. (p, q)) ks (small fuel l) (small more m))))

-- ---- the whole walk, from a root that is no terminal

-- a load is a sum over the pairs
pub load-flow : (ls : Links) (es : List Pair) (i : ℕ) → load ls es i ≡ flow (separates ls i) es
unfolding load tally
load-flow ls [] i = refl
load-flow ls (e ∷ es) i = ap (λ r. e.amount * separates ls i e.first e.second + r) (load-flow ls es i)

module _ {ls : Links} {n : ℕ} (T : Tree ls n) (t terminal : ℕ → ℕ) (B : Balanced ls terminal t) (root : ℕ) (pr : Site n root) (tr : terminal root ≢ 1) where
  abbrev W : Part
  W = walk ls n t terminal n root (length ls) 0 0

  root_good : Good ls n t terminal (length ls) root 0 0 W
  root_good = walk_good T t terminal B n root (length ls) 0 0 pr (inr (refl, tr, omega arith)) (size-le ls n (length ls) root)

  -- twice the capacity on every link that no terminal parts from the root
  pub root_loads : (i : ℕ) → i < length ls → Open ls n terminal root i → load ls (pairs_from ls n t terminal root) i ≡ 2 * t i
  unfolding pairs_from
  root_loads i l op = omega (
    arith,
    load-flow ls W.pairs i,
    root_good.loads root i pr (inr (refl, refl)) l (inr (separates-nothing T root (one ls i) pr (T.ends i l).0)) op,
    at_none (separates ls i root) W.ups root_good.up-halves,
    at_none (separates ls i root) W.downs root_good.down-halves,
  )

  -- between different terminals, with no other terminal on the way
  pub root_routes : Multiflow ls n terminal (pairs_from ls n t terminal root)
  unfolding pairs_from
  root_routes = each_map (Made ls n terminal (length ls) root) (Route ls n terminal) (λ e m. m.route) W.pairs root_good.all.pairs-all

  pub root_positive : Each (λ e. 1 ≤ e.amount) (pairs_from ls n t terminal root)
  unfolding pairs_from
  root_positive = each_map (Made ls n terminal (length ls) root) (λ e. 1 ≤ e.amount) (λ e m. m.positive) W.pairs root_good.all.pairs-all

  -- at most as many pairs as links
  pub root_few : length (pairs_from ls n t terminal root) ≤ length ls
  unfolding pairs_from
  root_few = omega (arith, root_good.few, size-le ls n (length ls) root, T.links)

  -- no pair twice, in either order
  pub root_once : (x y : ℕ) → arises (pairs_from ls n t terminal root) x y ≤ 1
  unfolding pairs_from
  root_once = root_good.pairs_once

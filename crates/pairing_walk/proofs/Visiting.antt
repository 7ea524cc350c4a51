-- The visit of a site: what its children hand back is gathered in the three arrays, and then settled.
use mathlib.Core.Path.{◌≡◌, sym, ap, ◌∙◌}
use mathlib.Core.Logic.{◌≢◌, inl, inr}
use mathlib.Core.List.{List, [], ◌∷◌, ◌++◌, append-nil}
use Prim.Native.Nat.{ℕ, suc, ◌+◌, ◌-◌, ◌*◌, ◌≤◌, ◌<◌, min}
use native.Mathlib.Omega.{arith}
use lib.ListN.{length, length-append}
use Rattle.lists.specs.Numbers.{look}
use Rattle.model.specs.Flows.{Links, sum_at}
use lib.Seq.{slice}
use Rattle.model.specs.declared.Pair.{Pair}
use Rattle.model.specs.Pairing.{Halves, Part, nothing, join, put, drop_halves, halves, match, between, children, gather, alone, settle}
use Rattle.tree.specs.Offer.{links}
use Rattle.lists.specs.Tallies.{tally}
use Rattle.theory_walk.specs.Halves.{Filled, halves-drop, drop_thins, thinned_filled}
use Rattle.theory_walk.specs.Subtrees.{Child, child}
use Rattle.theory_walk.specs.Children.{size, sizes, size-children, between-joins, child-taken}
use Rattle.theory_walk.specs.Walk.{Start, start-entered}
use Rattle.theory_walk.specs.Bounds.{walk_short, gather_short}
use Rattle.theory_walk.proofs.Bounds.{gather-filled, walk-filled}
use Rattle.theory_walk.proofs.Steps.{walk-terminal, walk_inner, gather-push}
use Rattle.pairing_halves.specs.declared.Tops.{Tops}
use Rattle.pairing_halves.specs.Arrays.{Added, Settling, Settled}
use Rattle.pairing_walk.specs.Visits.{walk_of, Visit, Visited}
use Rattle.pairing_halves.specs.Adding.{held-nothing, held_more, held-again, held-slice, held_stands}
use Rattle.pairing_halves.specs.Adding.{added-nothing, added_more}
use Rattle.pairing_halves.specs.Splits.{match-enough}

-- ---- the arrays

pub visited-nothing : (u d : Halves) (p : List Pair) (b : Tops) → Visited nothing u d p b u d p b
visited-nothing u d p b = record { ups = held-nothing u b.ups; downs = held-nothing d b.downs; pairs = added-nothing p b.pairs }

visited_more : {w w' : Part} {u d x y x' y' : Halves} {p z z' : List Pair} {b r r' : Tops} → Visited w u d p b x y z r → Visited w' x y z r x' y' z' r'
    → Visited (join w w') u d p b x' y' z' r'
visited_more v v' = record {
  ups = held_more v.ups v'.ups;
  downs = held_more v.downs v'.downs;
  pairs = added_more v.pairs v'.pairs;
}

join-nothing : (w : Part) → join w nothing ≡ w
join-nothing w i = record { ups = append-nil w.ups i; downs = append-nil w.downs i; pairs = append-nil w.pairs i }

-- ---- the children of a site

-- the subtrees of the children of v from site x on
abbrev pub ahead : ℕ → Links → ℕ → ℕ → ℕ → ℕ
ahead n ls v j x = sizes ls n (children ls v j x (suc n - x))

-- what the children of v, which are sent `down` halves and are visited with the given fuel, hand back together
abbrev pub whole : ℕ → List ℕ → List ℕ → List ℕ → List ℕ → ℕ → ℕ → ℕ → ℕ → Part
whole n ends a b c fuel v j down =
    gather (λ x k s o. walk_of n ends a b c fuel x k s o) (look c) (sum_at (links a b) v (look c) - down) (children (links a b) v j 1 n)

-- the children of v below site x are gathered in the arrays, with `rest` halves still to be sent up by the others
pub record Gathering (n : ℕ) (ends a b c : List ℕ) (fuel v j down : ℕ) (u d : Halves) (p : List Pair) (base : Tops) (u' d' : Halves) (p' : List Pair) (top : Tops)
    (rest x : ℕ) : Type 0 where
  pub part : Part
  pub held : Visited part u d p base u' d' p' top
  pub to-come : join part (gather (λ y k s o. walk_of n ends a b c fuel y k s o) (look c) rest (children (links a b) v j x (suc n - x)))
      ≡ whole n ends a b c fuel v j down
  pub ups_fit : length part.ups + ahead n (links a b) v j x ≤ ahead n (links a b) v j 1
  pub downs_fit : length part.downs + ahead n (links a b) v j x ≤ ahead n (links a b) v j 1
  pub pairs_fit : length part.pairs + ahead n (links a b) v j x ≤ ahead n (links a b) v j 1

pub gathering_starts : (n : ℕ) (ends a b c : List ℕ) (fuel v j down : ℕ) (u d : Halves) (p : List Pair) (base : Tops)
    → Gathering n ends a b c fuel v j down u d p base u d p base (sum_at (links a b) v (look c) - down) 1
gathering_starts n ends a b c fuel v j down u d p base =
    let all : suc n - 1 ≡ n = omega arith in
    record {
      part = nothing;
      held = visited-nothing u d p base;
      to-come = rw all;
      ups_fit = omega arith;
      downs_fit = omega arith;
      pairs_fit = omega arith;
    }

-- a site and the subtrees of its children
pub size_below : {n : ℕ} {ends a b c : List ℕ} {fuel v j up down : ℕ} {u d : Halves} {p : List Pair} {base : Tops}
    → Visit n ends a b c fuel v j up down u d p base
    → size (links a b) n j v ≡ 1 + ahead n (links a b) v j 1
size_below {n} {ends = ends} {a = a} {b = b} {c = c} {v = v} {j = j} {up = up} {down = down} W =
    let all : suc n - 1 ≡ n = omega arith in
    rw all (size-children W.tree.tree v j (start-entered (links a b) (look c) (look ends) j v up down W.start) W.site)

-- sites that are no children change nothing
pub gathering_passes : {n : ℕ} {ends a b c : List ℕ} {fuel v j down : ℕ} {u d : Halves} {p : List Pair} {base : Tops} {u' d' : Halves} {p' : List Pair} {top : Tops} {rest x : ℕ}
    → Gathering n ends a b c fuel v j down u d p base u' d' p' top rest x → (y : ℕ)
    → children (links a b) v j x (suc n - x) ≡ children (links a b) v j y (suc n - y)
    → Gathering n ends a b c fuel v j down u d p base u' d' p' top rest y
gathering_passes g y same = record {
  part = g.part;
  held = g.held;
  to-come = rw (← same) g.to-come;
  ups_fit = rw (← same) g.ups_fit;
  downs_fit = rw (← same) g.downs_fit;
  pairs_fit = rw (← same) g.pairs_fit;
}

module _ {n : ℕ} {ends a b c : List ℕ} {fuel v j down : ℕ} {u d : Halves} {p : List Pair} {base : Tops} {u' d' : Halves} {p' : List Pair} {top : Tops} {rest x : ℕ}
    (g : Gathering n ends a b c fuel v j down u d p base u' d' p' top rest x) where
  abbrev ls : Links
  ls = links a b

  -- a child
  module _ {up : ℕ} (W : Visit n ends a b c (suc fuel) v j up down u d p base)
      (k : ℕ) (is-k : k ≡ between ls v x) (below : k < length ls) (new : k ≢ j) where
    child-here : Child ls n v j x k
    child-here = child W.tree.tree v j x k below new (rw (← is-k) at (between-joins ls v x (rw (← is-k) below)))

    one_more : suc n - x ≡ suc (suc n - suc x)
    one_more = omega (arith, child-here.site)

    abbrev later : List (ℕ × ℕ)
    later = children ls v j (suc x) (suc n - suc x)

    taken : children ls v j x (suc n - x) ≡ (x, k) ∷ later
    taken = rw (one_more, is-k) (child-taken ls v j x (suc n - suc x) (rw (← is-k) below) (rw (← is-k) new))

    pub split : ahead n ls v j x ≡ size ls n k x + sizes ls n later
    unfolding tally
    split = ap (sizes ls n) taken

    -- it is visited with what is sent up and what comes down
    pub gathering_visits : (s o : ℕ) → s + o ≡ 2 * look c k → Visit n ends a b c fuel x k s o u' d' p' top
    gathering_visits s o e = record {
      tree = W.tree;
      balanced = W.balanced;
      site = child-here.site;
      start = inl (child-here.up, e);
      fuelled = omega (arith, split, size_below W, W.fuelled, g.ups_fit);
      ups_room = omega (arith, split, size_below W, W.ups_room, g.ups_fit, g.held.ups);
      downs_room = omega (arith, split, size_below W, W.downs_room, g.downs_fit, g.held.downs);
      pairs_room = omega (arith, split, size_below W, W.pairs_room, g.pairs_fit, g.held.pairs);
    }

    gathering-next : {x' y' : Halves} {z' : List Pair} {top' : Tops}
        → Visited (walk_of n ends a b c fuel x k (min (2 * look c k) rest) (2 * look c k - min (2 * look c k) rest)) u' d' p' top x' y' z' top'
        → Gathering n ends a b c fuel v j down u d p base x' y' z' top' (rest - min (2 * look c k) rest) (suc x)
    gathering-next {x'} {y'} {z'} {top'} q =
        let s = min (2 * look c k) rest in
        let o = 2 * look c k - s in
        let w = walk_of n ends a b c fuel x k s o in
        let V₁ = gathering_visits s o (omega arith) in
        let short = walk_short W.tree.tree (look c) (look ends) W.balanced fuel x k s o V₁.site V₁.start V₁.fuelled in
        record {
          part = join g.part w;
          held = visited_more g.held q;
          to-come = sym (gather-push (λ y k s o. walk_of n ends a b c fuel y k s o) (look c) g.part rest x k later) ∙ rw (← taken) g.to-come;
          ups_fit = omega (arith, split, g.ups_fit, length-append g.part.ups w.ups, short.ups_short);
          downs_fit = omega (arith, split, g.downs_fit, length-append g.part.downs w.downs, short.downs_short);
          pairs_fit = omega (arith, split, g.pairs_fit, length-append g.part.pairs w.pairs, short.pairs_short);
        }

    -- and then the sites that are no children are passed over
    pub gathering_goes_on : {x' y' : Halves} {z' : List Pair} {top' : Tops} (y : ℕ) → later ≡ children ls v j y (suc n - y)
        → Visited (walk_of n ends a b c fuel x k (min (2 * look c k) rest) (2 * look c k - min (2 * look c k) rest)) u' d' p' top x' y' z' top'
        → Gathering n ends a b c fuel v j down u d p base x' y' z' top' (rest - min (2 * look c k) rest) y
    gathering_goes_on y same q = gathering_passes (gathering-next q) y same

-- ---- all children visited

module _ {n : ℕ} {ends a b c : List ℕ} {fuel v j up down : ℕ} {u d : Halves} {p : List Pair} {base : Tops}
    (W : Visit n ends a b c (suc fuel) v j up down u d p base)
    (inner : look ends v ≢ 1) {u' d' : Halves} {p' : List Pair} {top : Tops} {rest x : ℕ} (g : Gathering n ends a b c fuel v j down u d p base u' d' p' top rest x)
    (l : n < x) where
  abbrev G : Part
  G = whole n ends a b c fuel v j down

  all : g.part ≡ G
  unfolding children gather
  all = let none : suc n - x ≡ 0 = omega arith in sym (join-nothing g.part) ∙ rw none at g.to-come

  held : Visited G u d p base u' d' p' top
  held = rw all at g.held

  -- in each list fewer entries than there are sites below v
  fit : (length G.ups < size (links a b) n j v) × (length G.downs < size (links a b) n j v)
  fit = let below = size_below W in (omega (arith, rw all at g.ups_fit), omega (arith, rw all at g.downs_fit))

  filled : Filled G.ups × Filled G.downs
  filled =
      let f = gather-filled (λ y k s o. walk_of n ends a b c fuel y k s o) (look c) (λ y k s o. walk-filled (links a b) n (look c) (look ends) fuel y k s o)
      (sum_at (links a b) v (look c) - down) (children (links a b) v j 1 n) in (f.ups_all, f.downs_all)

  ups_listed : slice base.ups top.ups u' ≡ G.ups
  ups_listed = held-slice (omega (arith, W.ups_room)) held.ups

  downs_listed : slice base.downs top.downs d' ≡ G.downs
  downs_listed = held-slice (omega (arith, W.downs_room)) held.downs

  -- the walk settles what was gathered, and the ups and downs to be matched are equal in sum
  walked : walk_of n ends a b c (suc fuel) v j up down ≡ settle up down G
  walked = walk_inner (links a b) n (look c) (look ends) fuel v j up down inner

  own : halves G.ups - up ≡ halves G.downs - down
  own = let s = gather_short W.tree.tree (look c) (look ends) W.balanced fuel v j up down W.site W.start inner W.fuelled in omega arith

  settled_pairs : (settle up down G).pairs ≡ G.pairs ++ match G.ups (drop_halves down G.downs)
  unfolding settle
  settled_pairs =
      let d = drop_halves down G.downs in
      ap (λ m. G.pairs ++ m) (rw (own, ← (halves-drop down G.downs)) (match-enough G.ups d (thinned_filled (drop_thins down G.downs))))

  pub gathering_settles : Settling u' d' p' base top down
  gathering_settles =
      let short = walk_short W.tree.tree (look c) (look ends) W.balanced (suc fuel) v j up down W.site W.start W.fuelled in
      let sums = gather_short W.tree.tree (look c) (look ends) W.balanced fuel v j up down W.site W.start inner W.fuelled in
      let m = match G.ups (drop_halves down G.downs) in
      record {
        ups = held_stands G.ups (omega (arith, W.ups_room)) (omega (arith, W.ups_room, fit, held.ups)) filled.0 held.ups;
        downs =
            held_stands G.downs (omega (arith, W.downs_room)) (omega (arith, W.downs_room, fit, held.downs)) filled.1
            held.downs;
        enough = rw (ups_listed, downs_listed) (omega (arith, sums.ups_sum, sums.downs_sum));
        spare = omega (arith, W.downs_room, fit, held.downs);
        room = rw (ups_listed, downs_listed) (omega (
          arith,
          W.pairs_room,
          held.pairs,
          ap (λ w. length w.pairs) walked,
          ap length settled_pairs,
          length-append G.pairs m,
          short.pairs_short,
        ));
      }

  pub gathering_settled : {x' y' : Halves} {z' : List Pair} {r : Tops} → Settled u' d' p' base top down x' y' z' r
      → Visited (walk_of n ends a b c (suc fuel) v j up down) u d p base x' y' z' r
  unfolding settle
  gathering_settled q = rw walked (record {
    ups = rw own (held-again (omega (arith, W.ups_room)) held.ups (rw (ups_listed, downs_listed) at q.ups.below));
    downs = held-again (omega (arith, W.downs_room)) held.downs (rw downs_listed at q.downs.below);
    pairs =
        rw settled_pairs
        (added_more held.pairs (rw (ups_listed, downs_listed) at q.pairs));
  })

-- ---- other sites

-- there is fuel, and what is left of it for the children
pub some_fuel : {n : ℕ} {ends a b c : List ℕ} {fuel v j up down : ℕ} {u d : Halves} {p : List Pair} {base : Tops}
    → Visit n ends a b c fuel v j up down u d p base → fuel ≡ suc (fuel - 1)
some_fuel W = omega (arith, size_below W, W.fuelled)

module _ {n : ℕ} {ends a b c : List ℕ} {fuel v j up down : ℕ} {u d : Halves} {p : List Pair} {base : Tops}
    (W : Visit n ends a b c (suc fuel) v j up down u d p base) where
  -- a terminal
  pub alone_room : (base.ups < length u) × (base.downs < length d)
  alone_room = let s = size_below W in (omega (arith, W.ups_room), omega (arith, W.downs_room))

  pub visited-alone : look ends v ≡ 1 → {x y : Halves} {r : Tops} → Added u base.ups x r.ups (put v up [])
      → Added d base.downs y r.downs (put v down []) → r.pairs ≡ base.pairs
      → Visited (walk_of n ends a b c (suc fuel) v j up down) u d p base x y p r
  unfolding alone
  visited-alone e q s k = rw (walk-terminal (links a b) n (look c) (look ends) fuel v j up down e)
      (record { ups = q.below; downs = s.below; pairs = rw k (added-nothing p base.pairs) })

-- what comes down to an inner site is no more than its links carry
pub down-within : {n : ℕ} {ends a b c : List ℕ} {fuel v j up down : ℕ} {u d : Halves} {p : List Pair} {base : Tops}
    → Visit n ends a b c fuel v j up down u d p base
    → look ends v ≢ 1 → down ≤ sum_at (links a b) v (look c)
down-within {ends = ends} {a = a} {b = b} {c = c} {v = v} {j = j} {up = up} {down = down} W inner = within W.start
  where
    within : Start (links a b) (look c) (look ends) j v up down → down ≤ sum_at (links a b) v (look c)
    within (inl s) = omega (arith, W.balanced v inner j s.0.bound s.0.here, s.1)
    within (inr s) = omega (arith, s.2)

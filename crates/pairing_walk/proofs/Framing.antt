-- The walks as a loop over frames: each frame below the one at hand waits for what the walk from its child leaves in the three arrays.
-- What one turn does to the frames is one law each: a terminal is added, a child is entered, a site is settled, the next root is entered.
use mathlib.Core.Path.{◌≡◌, refl, ap, ◌∙◌}
use mathlib.Core.Logic.{◌≢◌}
use mathlib.Core.List.{List, [], ◌∷◌, ◌++◌, flat_map}
use Prim.Native.Nat.{ℕ, suc, ◌+◌, ◌-◌, ◌*◌, ◌≤◌, ◌<◌}
use native.Mathlib.Omega.{arith}
use native.Mathlib.Nat.{mul-le-mul_right}
use native.Mathlib.Numerals.{add-one}
use lib.ListN.{length, get_or, set, take, length-set}
use lib.Seq.{slice, slice_empty, slice-cons, get_or-set_same, take-set-lt, drop-set-lt}
use Rattle.model.specs.Limits.{PLACES, SITES}
use Rattle.lists.specs.Numbers.{look, upfrom}
use Rattle.lists.specs.Tallies.{tally}
use Rattle.model.specs.Flows.{sum_at}
use Rattle.model.specs.Pairing.{Halves, put, between, children, pairs_from, lowest_inner}
use Rattle.model.specs.declared.Pair.{Pair}
use Rattle.tree.specs.Offer.{links}
use Rattle.theory_walk.specs.Children.{size, sizes}
use Rattle.theory_walk.specs.Walk.{size-le}
use Rattle.pairing_children.specs.Neighbours.{Comes}
use Rattle.pairing_children.specs.Laws.{children_from_the_next, comes_link}
use Rattle.pairing_halves.specs.declared.Tops.{Tops}
use Rattle.pairing_halves.specs.Arrays.{Added, Settling, Settled}
use Rattle.pairing_halves.specs.Adding.{added-nothing}
use Rattle.pairing_walk.specs.declared.Frame.{Frame}
use Rattle.pairing_walk.specs.Visits.{walk_of, Visit, Visited, covered, untouched, Fit, parts_to}
use Rattle.pairing_walk.specs.Frames.{bottom, over, sent, Entered, Passed}
use Rattle.pairing_walk.proofs.Marks.{Marked, marked-starts, marked_adds, marked-child, marked-leaves, marked-root, next-site, next_inner}
use Rattle.pairing_walk.proofs.Marks.{one_more, no_more}
use Rattle.pairing_walk.proofs.Roots.{Ended, root_visit, root_ended, number}
use Rattle.pairing_walk.proofs.Visiting.{Gathering, ahead, size_below, split, gathering_starts, gathering_passes, gathering_visits, gathering_goes_on}
use Rattle.pairing_walk.proofs.Visiting.{gathering_settles, gathering_settled, some_fuel, visited-alone}

-- what a site was entered with: the halves to send up, and the three arrays
pub record Entry : Type 0 where
  pub up : ℕ
  pub ups : Halves
  pub downs : Halves
  pub pairs : List Pair

module _ (ends a b c : List ℕ) where
  abbrev sites : ℕ
  sites = suc (length a)

  -- an inner site, entered so; the child to come is the first above one that is past
  pub record Open (fuel : ℕ) (f : Frame) (e : Entry) : Type 0 where
    pub visit : Visit sites ends a b c (suc fuel) f.site f.link e.up f.down e.ups e.downs e.pairs f.base
    pub inner : look ends f.site ≢ 1
    pub past : ℕ
    pub coming : Comes (links a b) f.site f.link past f.at f.next

  -- the arrays hold what the children before the child to come handed back
  abbrev Gathered : ℕ → Frame → Entry → Halves → Halves → List Pair → Tops → Type 0
  Gathered fuel f e u d p top =
      Gathering sites ends a b c fuel f.site f.link f.down e.ups e.downs e.pairs f.base u d p top f.rest f.next

  -- the arrays hold what the walk from site v hands back
  abbrev Handed : ℕ → ℕ → ℕ → ℕ → Entry → Tops → Halves → Halves → List Pair → Tops → Type 0
  Handed fuel v j down e base x y z r = Visited (walk_of sites ends a b c fuel v j e.up down) e.ups e.downs e.pairs base x y z r

  module _ (root : ℕ) (pairs : List Pair) where
    -- what the walk from v hands back lets the frame before it go on, and so on to the root, whose pairs are those of its part
    unfoldable pub Waiting : List Frame → ℕ → ℕ → ℕ → ℕ → Entry → Tops → Type 0
    Waiting [] fuel v j down e base =
        (x y : Halves) (z : List Pair) (r : Tops) → Handed fuel v j down e base x y z r → Ended ends a b c pairs root z r
    Waiting (f ∷ fs) fuel v j down e base =
        (o : Entry) × Open fuel f o × ((x y : Halves) (z : List Pair) (r : Tops) → Handed fuel v j down e base x y z r → Gathered fuel f o x y z r)
        × Waiting fs (suc fuel) f.site f.link f.down o f.base

    -- the walk at frame f, with the frames fs waiting
    pub record Walking (fs : List Frame) (level : ℕ) (f : Frame) (u d : Halves) (p : List Pair) (top : Tops) : Type 0 where
      pub fuel : ℕ
      pub levelled : level ≡ suc fuel
      pub entry : Entry
      pub opened : Open fuel f entry
      pub gathered : Gathered fuel f entry u d p top
      pub waiting : Waiting fs (suc fuel) f.site f.link f.down entry f.base

  -- the turns that a frame is still to take: two for each site below, and one to be settled
  abbrev pub turns : Frame → ℕ
  turns f = suc (2 * ahead sites (links a b) f.site f.link f.next)

module _ {ends a b c : List ℕ} where
  -- ---- a site that is entered

  module _ {fuel v j up down : ℕ} {u d : Halves} {p : List Pair} {top : Tops} (W : Visit (suc (length a)) ends a b c (suc fuel) v j up down u d p top)
      (inner : look ends v ≢ 1) {f : Frame} (E : Entered (links a b) (sum_at (links a b) v (look c)) v j down top f) where
    abbrev entered : Entry
    entered = record { up = up; ups = u; downs = d; pairs = p }

    enter-opens : Open ends a b c fuel f entered
    enter-opens = record {
      visit = rw (E.site, E.link, E.comes, E.from) W;
      inner = rw E.site inner;
      past = 0;
      coming = rw (E.site, E.link) E.first;
    }

    -- the children from the first on are all of them
    all_come : children (links a b) v j 1 (suc (suc (length a)) - 1) ≡ children (links a b) v j f.next (suc (suc (length a)) - f.next)
    all_come = children_from_the_next (links a b) v j (suc (length a)) 0 f.at f.next E.first

    enter-gathers : Gathered ends a b c fuel f entered u d p top
    enter-gathers = rw (E.site, E.link, E.comes, E.from, E.remains)
        (gathering_passes (gathering_starts (suc (length a)) ends a b c fuel v j down u d p top) f.next all_come)

    enter-turns : turns ends a b c f + 1 ≡ 2 * size (links a b) (suc (length a)) j v
    enter-turns = rw (E.site, E.link) (omega (arith, size_below W, ap (sizes (links a b) (suc (length a))) all_come))

  -- the walk starts at a root, with nothing in the lists of ups and downs
  pub walking_starts : (w : Fit (suc (length a)) ends a b c) {root level : ℕ} {u d : Halves} {p : List Pair} {top : Tops}
      → Visit (suc (length a)) ends a b c (suc (length a)) root (length a) 0 0 u d p top → look ends root ≢ 1
      → level ≡ suc (length a) → {f : Frame} → Entered (links a b) (sum_at (links a b) root (look c)) root (length a) 0 top f → {p₀ : List Pair} {r : ℕ} → Ended ends a b c p₀ r p top
      → parts_to root ends a b c ≡ parts_to r ends a b c ++ pairs_from (links a b) (suc (length a)) (look c) (look ends) root
      → Walking ends a b c root p₀ [] level f u d p top
  unfolding Waiting
  walking_starts w {u = u} {d} {p} W inner l E o more = record {
    fuel = length a;
    levelled = l;
    entry = record { up = 0; ups = u; downs = d; pairs = p };
    opened = enter-opens W inner E;
    gathered = enter-gathers W inner E;
    waiting = rw (E.site, E.link, E.comes, E.from) (λ x y z r q. root_ended w o W more q);
  }

  module _ {root : ℕ} {pairs : List Pair} {fs : List Frame} {level : ℕ} {f : Frame} {u d : Halves} {p : List Pair} {top : Tops} where
    -- ---- a child to come

    module _ (w : Walking ends a b c root pairs fs level f u d p top) (some : f.next < PLACES) where
      abbrev k : ℕ
      k = over f

      pub is-k : k ≡ between (links a b) f.site f.next
      is-k = comes_link w.opened.coming some

      pub joined : (k < length (links a b)) × (k ≢ f.link)
      joined = let h = w.opened.coming.hit some in rw is-k (h.0, h.1)

      abbrev up : ℕ
      up = sent (look c) f

      abbrev down : ℕ
      down = 2 * look c k - up

      pub visits : Visit (suc (length a)) ends a b c w.fuel f.next k up down u d p top
      visits = gathering_visits w.gathered w.opened.visit k is-k joined.0 joined.1 up down (omega arith)

      fuelled : w.fuel ≡ suc (w.fuel - 1)
      fuelled = some_fuel visits

      pub child : Visit (suc (length a)) ends a b c (suc (w.fuel - 1)) f.next k up down u d p top
      child = rw fuelled at visits

      module _ {g : Frame} (P : Passed (links a b) f up g) where
        abbrev later : children (links a b) f.site f.link (suc f.next) (suc (suc (length a)) - suc f.next)
            ≡ children (links a b) f.site f.link g.next (suc (suc (length a)) - g.next)
        later = children_from_the_next (links a b) f.site f.link (suc (length a)) f.next g.at g.next P.next

        pass-opens : Open ends a b c w.fuel g w.entry
        pass-opens = let o = w.opened in record {
          visit = rw (P.site, P.link, P.comes, P.from) o.visit;
          inner = rw P.site o.inner;
          past = f.next;
          coming = rw (P.site, P.link) P.next;
        }

        pass-gathers : {x y : Halves} {z : List Pair} {r : Tops} → Visited (walk_of (suc (length a)) ends a b c w.fuel f.next k up down) u d p top x y z r
            → Gathered ends a b c w.fuel g w.entry x y z r
        pass-gathers q = rw (P.site, P.link, P.comes, P.from, P.remains)
            (gathering_goes_on w.gathered w.opened.visit k is-k joined.0 joined.1 g.next later q)

        pass-waits : Waiting ends a b c root pairs fs (suc w.fuel) g.site g.link g.down w.entry g.base
        pass-waits = rw (P.site, P.link, P.comes, P.from) w.waiting

        pass-turns : turns ends a b c g + 2 * size (links a b) (suc (length a)) k f.next ≡ turns ends a b c f
        pass-turns = rw (P.site, P.link)
            (omega (arith, split w.gathered w.opened.visit k is-k joined.0 joined.1, ap (sizes (links a b) (suc (length a))) later))

        -- a terminal is added
        pub walking_adds : look ends f.next ≡ 1 → {x y : Halves} {r : Tops} → Added u top.ups x r.ups (put f.next up [])
            → Added d top.downs y r.downs (put f.next down []) → r.pairs ≡ top.pairs
            → Walking ends a b c root pairs fs level g x y p r
        walking_adds e q s t = record {
          fuel = w.fuel;
          levelled = w.levelled;
          entry = w.entry;
          opened = pass-opens;
          gathered = pass-gathers (rw fuelled (visited-alone child e q s t));
          waiting = pass-waits;
        }

        pub adds_turns : turns ends a b c g < turns ends a b c f
        adds_turns = omega (arith, pass-turns, size_below child)

        -- an inner site is entered
        module _ (inner : look ends f.next ≢ 1) {h : Frame} (E : Entered (links a b) (sum_at (links a b) f.next (look c)) f.next k down top h) where
          pub walking_enters : Walking ends a b c root pairs (g ∷ fs) (level - 1) h u d p top
          unfolding Waiting
          walking_enters = record {
            fuel = w.fuel - 1;
            levelled = omega (arith, w.levelled, fuelled);
            entry = record { up = up; ups = u; downs = d; pairs = p };
            opened = enter-opens child inner E;
            gathered = enter-gathers child inner E;
            waiting =
                rw (E.site, E.link, E.comes, E.from, ← fuelled) (w.entry, pass-opens, (λ x y z r q. pass-gathers q), pass-waits);
          }

          pub enters_turns : turns ends a b c h + turns ends a b c g < turns ends a b c f
          enters_turns = omega (arith, pass-turns, enter-turns child inner E)

    -- ---- no child to come

    module _ (w : Walking ends a b c root pairs fs level f u d p top) (none : PLACES ≤ f.next) where
      all_past : suc (length a) < f.next
      all_past = omega (arith, w.opened.visit.tree.few)

      pub walking_settles : Settling u d p f.base top f.down
      walking_settles = gathering_settles w.opened.visit w.opened.inner w.gathered all_past

      pub settles_handed : {x y : Halves} {z : List Pair} {r : Tops} → Settled u d p f.base top f.down x y z r
          → Handed ends a b c (suc w.fuel) f.site f.link f.down w.entry f.base x y z r
      settles_handed q = gathering_settled w.opened.visit w.opened.inner w.gathered all_past q

  module _ {root : ℕ} {pairs : List Pair} {level : ℕ} {f : Frame} {u d : Halves} {p : List Pair} {top : Tops} where
    -- the frame before it goes on
    pub walking_returns : {g : Frame} {fs : List Frame} (w : Walking ends a b c root pairs (g ∷ fs) level f u d p top) → PLACES ≤ f.next
        → {x y : Halves} {z : List Pair} {r : Tops} → Settled u d p f.base top f.down x y z r → Walking ends a b c root pairs fs (suc level) g x y z r
    unfolding Waiting
    walking_returns w none {x} {y} {z} {r} q = let o = w.waiting in record {
      fuel = suc w.fuel;
      levelled = ap suc w.levelled;
      entry = o.0;
      opened = o.1;
      gathered = o.2 x y z r (settles_handed w none q);
      waiting = o.3;
    }

    -- the walk ends
    pub walking_ends : (w : Walking ends a b c root pairs [] level f u d p top) → PLACES ≤ f.next
        → {x y : Halves} {z : List Pair} {r : Tops} → Settled u d p f.base top f.down x y z r
        → Ended ends a b c pairs root z r
    unfolding Waiting
    walking_ends w none {x} {y} {z} {r} q = w.waiting x y z r (settles_handed w none q)

-- ---- the array of frames

-- a frame that is stored stands in front of those above it
stored : (fs : List Frame) (i e : ℕ) (f : Frame) → i < e → e ≤ length fs → slice i e (set fs i f) ≡ f ∷ slice (suc i) e fs
stored fs i e f l h =
    slice-cons i e (set fs i f) f l (omega (arith, length-set fs i f))
    ∙ rw (get_or-set_same fs i f f (omega arith), take-set-lt e fs i f l, drop-set-lt (suc i) (take e fs) i f (omega arith))

module _ (ends a b c : List ℕ) where
  -- the turns that the roots above r may take
  unfoldable pub beyond : ℕ → ℕ
  beyond r = (suc (length a) - r) * (2 * suc (length a))

  -- the turns that a frame, those above its level, and the roots above r are still to take
  abbrev pub owed : ℕ → ℕ → Frame → List Frame → ℕ
  owed r level f fs = beyond r + turns ends a b c f + tally (turns ends a b c) (slice (suc level) (suc (suc (length a))) fs)

  module _ (u₀ d₀ : Halves) (p₀ : List Pair) where
    -- the three arrays are as long as they were
    pub record Long (u d : Halves) (p : List Pair) : Type 0 where
      pub ups : length u ≡ length u₀
      pub downs : length d ≡ length d₀
      pub pairs : length p ≡ length p₀

    -- the walk from a root at a frame, with the frames above its level waiting
    pub record Framed (u d : Halves) (p : List Pair) (done : List ℕ) (level root : ℕ) (top : Tops) (f : Frame) (fs : List Frame) : Type 0 where
      pub walking : Walking ends a b c root p₀ (slice (suc level) (suc (suc (length a))) fs) level f u d p top
      pub marked : Marked (links a b) (suc (length a)) (look ends) (f ∷ slice (suc level) (suc (suc (length a))) fs) root done
      pub levels : level ≤ suc (length a)
      pub roots : root ≤ suc (length a)
      pub places : length fs ≡ PLACES
      pub long : Long u d p

    -- after the walk from root r, before that from the next
    pub record Between (u d : Halves) (p : List Pair) (done : List ℕ) (r : ℕ) (top : Tops) : Type 0 where
      pub ended : Ended ends a b c p₀ r p top
      pub marked : Marked (links a b) (suc (length a)) (look ends) [] r done
      pub roots : r ≤ suc (length a)
      pub long : Long u d p

-- before the first
pub between-starts : (ends a b c : List ℕ) (u d : Halves) (p : List Pair) → Between ends a b c u d p u d p untouched 0 bottom
unfolding upfrom flat_map
between-starts ends a b c u d p = record {
  ended = record { ups = refl; downs = refl; pairs = added-nothing p 0 };
  marked = marked-starts (links a b) (suc (length a)) (look ends);
  roots = omega arith;
  long = record { ups = refl; downs = refl; pairs = refl };
}

module _ {ends a b c : List ℕ} {u₀ d₀ : Halves} {p₀ : List Pair} where
  -- ---- the next root

  module _ (w : Fit (suc (length a)) ends a b c) {u d : Halves} {p : List Pair} {done : List ℕ} {r : ℕ} {top : Tops}
      (B : Between ends a b c u₀ d₀ p₀ u d p done r top) where
    -- there is none
    pub between-all : 0 ≡ lowest_inner (covered (look ends) done) (suc r) (suc (length a) - r)
        → Added p₀ 0 p top.pairs (parts_to (suc (length a)) ends a b c)
    between-all e = rw (no_more w.tree.tree B.marked (look c) e B.roots) B.ended.pairs

    module _ {q : ℕ} (low : q ≡ lowest_inner (covered (look ends) done) (suc r) (suc (length a) - r)) (some : q ≢ 0) where
      pub root-site : q ≤ SITES
      root-site = omega (arith, next-site w.tree.tree B.marked low some, w.tree.few)

      module _ (hu : SITES ≤ length u₀) (hd : SITES ≤ length d₀) (hp : 2 * SITES ≤ length p₀) {f : Frame}
          (E : Entered (links a b) (sum_at (links a b) q (look c)) q (length a) 0 top f) where
        visited : Visit (suc (length a)) ends a b c (suc (length a)) q (length a) 0 0 u d p top
        visited =
            let s = next-site w.tree.tree B.marked low some in
            root_visit w B.ended B.roots (s.0, s.1) (next_inner w.tree.tree B.marked low some) (omega (arith, B.long.ups))
            (omega (arith, B.long.downs)) (omega (arith, B.long.pairs))

        pub framed_roots : (level : ℕ) → level ≡ suc (length a) → (fs : List Frame) → length fs ≡ PLACES
            → Framed ends a b c u₀ d₀ p₀ u d p (set done q 1) level q top f fs
        framed_roots level l fs h =
            let s = next-site w.tree.tree B.marked low some in
            let none : slice (suc level) (suc (suc (length a))) fs ≡ [] = rw l (slice_empty (suc (suc (length a))) fs) in
            record {
              walking = rw none (walking_starts w visited (next_inner w.tree.tree B.marked low some) l E B.ended
                  (one_more w.tree.tree B.marked low some (look c)));
              marked = rw none (marked-root w.tree.tree B.marked low some (omega (arith, number w)) (omega (arith, s, w.tree.few)) E);
              levels = omega arith;
              roots = s.1;
              places = h;
              long = B.long;
            }

        -- and fewer turns are left
        pub roots_owed : (level : ℕ) → level ≡ suc (length a) → (fs : List Frame) (m o : ℕ)
            → owed ends a b c q level f fs < beyond ends a b c r + m + o
        unfolding tally beyond
        roots_owed level l fs m o =
            let s = next-site w.tree.tree B.marked low some in
            let none : slice (suc level) (suc (suc (length a))) fs ≡ [] = rw l (slice_empty (suc (suc (length a))) fs) in
            rw none (fewer (suc (length a) - q) (suc (length a) - r) (2 * suc (length a)) (turns ends a b c f) m o (omega (arith, s))
            (omega (arith, enter-turns visited (next_inner w.tree.tree B.marked low some) E, size-le (links a b) (suc (length a)) (length a) q)))
          where
            fewer : (x y k s m o : ℕ) → x < y → s < k → x * k + s + 0 < y * k + m + o
            fewer x y k s m o h l = omega (arith, mul-le-mul_right k h)

  -- ---- a turn

  module _ {u d : Halves} {p : List Pair} {done : List ℕ} {level root : ℕ} {top : Tops} {f : Frame} {fs : List Frame}
      (F : Framed ends a b c u₀ d₀ p₀ u d p done level root top f fs) where
    pub few : (level ≤ suc (length a)) × (suc (length a) < PLACES) × (1 ≤ level)
    few = (F.levels, omega (arith, F.walking.opened.visit.tree.few), omega (arith, F.walking.levelled))

    module _ (some : f.next < PLACES) {g : Frame} (P : Passed (links a b) f (sent (look c) f) g) where
      pub framed_adds : look ends f.next ≡ 1 → {x y : Halves} {r : Tops}
          → Added u top.ups x r.ups (put f.next (sent (look c) f) [])
          → Added d top.downs y r.downs (put f.next (2 * look c (over f) - sent (look c) f) [])
          → r.pairs ≡ top.pairs → Framed ends a b c u₀ d₀ p₀ x y p done level root r g fs
      framed_adds e q s t = record {
        walking = walking_adds F.walking some P e q s t;
        marked = marked_adds F.walking.opened.visit.tree.tree F.marked P e;
        levels = F.levels;
        roots = F.roots;
        places = F.places;
        long = record { ups = q.below.as_long ∙ F.long.ups; downs = s.below.as_long ∙ F.long.downs; pairs = F.long.pairs };
      }

      pub adds_owed : owed ends a b c root level g fs < owed ends a b c root level f fs
      adds_owed = omega (arith, adds_turns F.walking some P)

      module _ (inner : look ends f.next ≢ 1) {h : Frame} (E : Entered (links a b) (sum_at (links a b) f.next (look c)) f.next (over f)
          (2 * look c (over f) - sent (look c) f) top h) where
        below : slice (suc (level - 1)) (suc (suc (length a))) (set fs level g) ≡ g ∷ slice (suc level) (suc (suc (length a))) fs
        below =
            let here : suc (level - 1) ≡ level = omega (arith, few) in
            rw here (stored fs level (suc (suc (length a))) g (omega (arith, few)) (omega (arith, few, F.places)))

        pub framed_enters : Framed ends a b c u₀ d₀ p₀ u d p (set done f.next 1) (level - 1) root top h (set fs level g)
        framed_enters = record {
          walking = rw below (walking_enters F.walking some P inner E);
          marked = rw below (marked-child F.walking.opened.visit.tree.tree F.marked P F.walking.opened.inner inner some
              (F.walking.opened.coming.hit some).0 (rw (is-k F.walking some) at E));
          levels = omega (arith, F.levels);
          roots = F.roots;
          places = length-set fs level g ∙ F.places;
          long = F.long;
        }

        pub enters_owed : owed ends a b c root (level - 1) h (set fs level g) < owed ends a b c root level f fs
        unfolding tally
        enters_owed = rw below (omega (arith, enters_turns F.walking some P inner E))

    module _ (none : PLACES ≤ f.next) {x y : Halves} {z : List Pair} {r : Tops} (q : Settled u d p f.base top f.down x y z r) where
      left : Marked (links a b) (suc (length a)) (look ends) (slice (suc level) (suc (suc (length a))) fs) root done
      left = marked-leaves F.walking.opened.visit.tree.tree F.marked (omega (arith, few))

      as_long : Long ends a b c u₀ d₀ p₀ x y z
      as_long = record {
        ups = q.ups.below.as_long ∙ F.long.ups;
        downs = q.downs.below.as_long ∙ F.long.downs;
        pairs = q.pairs.below.as_long ∙ F.long.pairs;
      }

      pub framed_ends : suc (length a) ≤ level → Between ends a b c u₀ d₀ p₀ x y z done root r
      framed_ends l =
          let last-level : level ≡ suc (length a) = omega (arith, F.levels) in
          let none_left : slice (suc level) (suc (suc (length a))) fs ≡ [] = rw last-level (slice_empty (suc (suc (length a))) fs) in
          record { ended = walking_ends (rw none_left at F.walking) none q; marked = rw none_left at left; roots = F.roots; long = as_long }

      module _ (l : level < suc (length a)) (o : Frame) where
        above : slice (suc level) (suc (suc (length a))) fs ≡ get_or fs (suc level) o ∷ slice (suc (suc level)) (suc (suc (length a))) fs
        above = slice-cons (suc level) (suc (suc (length a))) fs o (omega arith) (omega (arith, few, F.places))

        pub framed_returns : Framed ends a b c u₀ d₀ p₀ x y z done (level + 1) root r (get_or fs (level + 1) o) fs
        framed_returns = rw (add-one level) (record {
          walking = walking_returns (rw above at F.walking) none q;
          marked = rw above at left;
          levels = l;
          roots = F.roots;
          places = F.places;
          long = as_long;
        })

        pub returns_owed : owed ends a b c root (level + 1) (get_or fs (level + 1) o) fs < owed ends a b c root level f fs
        unfolding tally
        returns_owed = rw (add-one level, above) (omega arith)

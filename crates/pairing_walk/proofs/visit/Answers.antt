-- `pairing_walk::visit` meets its contract: each turn adds a terminal, enters a site, or settles one; a root that is settled makes way for the next.
use Rattle.std.proofs.Common.{◌≡◌, ◌≢◌, ℕ, suc, ◌-◌, ◌≤◌, ◌<◌, List, length, refl, sym, ◌∙◌, arith, add-one}
use Rattle.std.proofs.Math.ListN.{set}
use Rattle.model.specs.Limits.{SITES}
use Rattle.lists.specs.Numbers.{look}
use Rattle.lists.specs.Sums.{pick_other}
use Rattle.model.specs.Flows.{sum_at}
use Rattle.model.specs.Pairing.{Halves, lowest_inner}
use Rattle.model.specs.declared.Pair.{Pair}
use Rattle.tree.specs.Offer.{links}
use Rattle.tree.specs.Links.{length-links}
use Rattle.tree_links.specs.Chains.{offer-placed}
use Rattle.pairing_halves.specs.declared.Tops.{Tops}
use Rattle.pairing_walk.specs.declared.Frame.{Frame}
use Rattle.pairing_walk.specs.Frames.{over, Entering, Entered}
use Rattle.pairing_walk.specs.Visits.{covered, untouched, Fit, Laid, Begun}
use Rattle.pairing_walk.proofs.Visiting.{alone_room, down-within}
use Rattle.pairing_walk.proofs.Framing.{joined, visits, child, walking_settles, between-starts, between-all}
use Rattle.pairing_walk.proofs.Framing.{root-site, framed_roots, roots_owed, framed_adds, adds_owed, framed_enters, enters_owed, framed_ends}
use Rattle.pairing_walk.proofs.Framing.{framed_returns, returns_owed}
use Rattle.pairing_walk.proofs.visit.Goals as goal

-- the first root is the lowest inner site
first_low : {m q : ℕ} {ends done : List ℕ} {u d : Halves} {p : List Pair} → Begun m ends done q u d p → q ≡ lowest_inner (covered (look ends) untouched) (suc 0) (m - 0)
first_low {m} b = let all : m - 0 ≡ m = omega arith in rw all b.lowest

module _ {sums first after one two capacity : List ℕ} (laid : Laid sums first after one two capacity) where
  -- a site is entered with what its links carry together, and with its list of neighbours
  enters : {ends : List ℕ} → Fit (suc (length one)) ends one two capacity → (v down : ℕ) → v ≤ SITES → down ≤ sum_at (links one two) v (look capacity)
      → Entering v down sums first after one two
  enters fit v down site within = record {
    tree = fit.tree.tree;
    placed = offer-placed fit.tree;
    lists = laid.lists;
    site = site;
    within = rw (laid.summed v site) within;
  }

  entered : {j down : ℕ} {base : Tops} {f : Frame} (v : ℕ) → v ≤ SITES → Entered (links one two) (look sums v) v j down base f
      → Entered (links one two) (sum_at (links one two) v (look capacity)) v j down base f
  entered v site e = rw (laid.summed v site) at e

-- ---- the first root

pub enter_root-frame-requires : goal.enter_root-frame-requires
enter_root-frame-requires c =
    let a = c.args in
    let s = c.requires in
    let start = between-starts a.ends.now a.chains.now.tree.one.now a.chains.now.tree.two.now a.capacity.now a.ups.now a.downs.now a.pairs.now in
    enters s.1 s.0 a.lowest 0 (root-site s.0 start (first_low s.2) s.2.some) (omega arith)

pub loop-child-init : goal.loop-child-init
loop-child-init c =
    let a = c.args in
    let s = c.requires in
    let b = s.2 in
    let start = between-starts a.ends.now a.chains.now.tree.one.now a.chains.now.tree.two.now a.capacity.now a.ups.now a.downs.now a.pairs.now in
    let site = root-site s.0 start (first_low b) b.some in
    rw b.marked (framed_roots s.0 start (first_low b) b.some b.ups_room b.downs_room b.pairs_room (entered s.1 a.lowest site c.enter_root-frame.ensures)
    _ (add-one (length a.chains.now.tree.one.now)) _ refl)

-- ---- a child to come

pub child_of-child-requires : goal.child_of-child-requires
child_of-child-requires c =
    let a = c.args in
    let w = c.loop-child.invariant.walking in
    let t = c.requires.0.tree in
    let inside : over c.loop-child.frame < length a.capacity.now = omega (
      arith,
      (joined w (omega arith)).0,
      length-links a.chains.now.tree.one.now a.chains.now.tree.two.now (omega (arith, t.firsts, t.seconds)),
      t.firsts,
      t.capacities,
    ) in
    (omega (arith, (w.opened.coming.hit (omega arith)).2), inside, t.limited _ inside)

pub pass-passed-requires : goal.pass-passed-requires
pass-passed-requires c =
    let o = c.loop-child.invariant.walking.opened in
    let s = c.requires in
    record {
      tree = s.0.tree.tree;
      placed = offer-placed s.0.tree;
      afters = s.1.lists.afters;
      past = o.past;
      coming = o.coming;
      some = omega arith;
      enough = rw c.child_of-child.ensures (omega arith);
    }

-- a terminal: it is added alone

pub alone-top-requires : goal.alone-top-requires
alone-top-requires c = alone_room (child c.loop-child.invariant.walking (omega arith))

pub loop-child-smaller-then-ends-c-eq1 : goal.loop-child-smaller-then-ends-c-eq1
loop-child-smaller-then-ends-c-eq1 c = adds_owed c.loop-child.invariant (omega arith) (rw c.child_of-child.ensures at c.pass-passed.ensures)

pub loop-child-preserved-then-ends-c-eq1 : goal.loop-child-preserved-then-ends-c-eq1
loop-child-preserved-then-ends-c-eq1 c =
    let e = rw c.child_of-child.ensures at c.alone-top.ensures in
    framed_adds c.loop-child.invariant (omega arith) (rw c.child_of-child.ensures at c.pass-passed.ensures) (omega arith) e.ups e.downs e.pairs

-- an inner site: it is entered

pub enter-frame-requires : goal.enter-frame-requires
enter-frame-requires c =
    let w = visits c.loop-child.invariant.walking (omega arith) in
    enters c.requires.1 c.requires.0 c.loop-child.frame.next _ (omega arith) (rw c.child_of-child.ensures (down-within w (omega arith)))

pub loop-child-smaller-then-c-lt-PLACES : goal.loop-child-smaller-then-c-lt-PLACES
loop-child-smaller-then-c-lt-PLACES c =
    let inner = entered c.requires.1 c.loop-child.frame.next (omega arith) (rw c.child_of-child.ensures at c.enter-frame.ensures) in
    enters_owed c.loop-child.invariant (omega arith) (rw c.child_of-child.ensures at c.pass-passed.ensures) (omega arith) inner

pub loop-child-preserved-then-c-lt-PLACES : goal.loop-child-preserved-then-c-lt-PLACES
loop-child-preserved-then-c-lt-PLACES c =
    let inner = entered c.requires.1 c.loop-child.frame.next (omega arith) (rw c.child_of-child.ensures at c.enter-frame.ensures) in
    framed_enters c.loop-child.invariant (omega arith) (rw c.child_of-child.ensures at c.pass-passed.ensures) (omega arith) inner

-- ---- a site has been settled

pub settle-top-requires : goal.settle-top-requires
settle-top-requires c = walking_settles c.loop-child.invariant.walking (omega arith)

-- it is no root: the walk goes back to the site above

pub loop-child-smaller-then-level-sites : goal.loop-child-smaller-then-level-sites
loop-child-smaller-then-level-sites c = returns_owed c.loop-child.invariant (omega arith) c.settle-top.ensures (omega arith) _

pub loop-child-preserved-then-level-sites : goal.loop-child-preserved-then-level-sites
loop-child-preserved-then-level-sites c = framed_returns c.loop-child.invariant (omega arith) c.settle-top.ensures (omega arith) _

-- it is a root: the next root is the lowest inner site that is not done, and is done then

pub returns-then-root-eq0 : goal.returns-then-root-eq0
returns-then-root-eq0 c =
    let between = framed_ends c.loop-child.invariant (omega arith) c.settle-top.ensures (omega arith) in
    let low = rw (add-one (length c.args.chains.now.tree.one.now)) at c.next_root-root.ensures.0 in
    between-all c.requires.0 between (sym c.if-root-eq0.true ∙ low)

pub enter_root-frame-requires-in-loop-child : goal.enter_root-frame-requires-in-loop-child
enter_root-frame-requires-in-loop-child c =
    let s = c.requires in
    let between = framed_ends c.loop-child.invariant (omega arith) c.settle-top.ensures (omega arith) in
    let low = rw (add-one (length c.args.chains.now.tree.one.now)) at c.next_root-root.ensures.0 in
    enters s.1 s.0 c.next_root-root.result 0 (root-site s.0 between low (omega arith)) (omega arith)

pub loop-child-smaller : goal.loop-child-smaller
loop-child-smaller c =
    let s = c.requires in
    let b = s.2 in
    let between = framed_ends c.loop-child.invariant (omega arith) c.settle-top.ensures (omega arith) in
    let low = rw (add-one (length c.args.chains.now.tree.one.now)) at c.next_root-root.ensures.0 in
    let site = root-site s.0 between low (omega arith) in
    roots_owed s.0 between low (omega arith) b.ups_room b.downs_room b.pairs_room
    (entered s.1 c.next_root-root.result site c.enter_root-frame-in-loop-child.ensures) _ (omega arith) c.loop-child.frames _ _

pub loop-child-preserved : goal.loop-child-preserved
loop-child-preserved c =
    let s = c.requires in
    let b = s.2 in
    let r = c.next_root-root.result in
    let done = c.loop-child.done in
    let between = framed_ends c.loop-child.invariant (omega arith) c.settle-top.ensures (omega arith) in
    let low = rw (add-one (length c.args.chains.now.tree.one.now)) at c.next_root-root.ensures.0 in
    let some : r ≢ 0 = omega arith in
    let site = root-site s.0 between low some in
    let marks : c.next_root-root.new.done ≡ set done r 1 = c.next_root-root.ensures.1 ∙ pick_other some done (set done r 1) in
    rw marks (framed_roots s.0 between low some b.ups_room b.downs_room b.pairs_room
    (entered s.1 r site c.enter_root-frame-in-loop-child.ensures) _ (omega arith) c.loop-child.frames c.loop-child.invariant.places)

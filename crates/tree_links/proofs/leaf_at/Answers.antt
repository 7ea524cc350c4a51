-- `leaf_at` meets its contract: by the last link at the site and the link before it.
use Rattle.std.proofs.Common.{◌≡◌, ℕ, ◌+◌, ◌*◌, ◌-◌, ◌<◌, ◌≤◌, List, length, sym, arith}
use Rattle.model.specs.Limits.{SITES}
use Rattle.lists.specs.Numbers.{pick, look}
use Rattle.tree.specs.Offer.{links}
use Rattle.tree_links.specs.Chains.{Chained, last_at, on_last, last_le, no_link_is_no_end, one_link_is_an_end, more_links_are_no_end, walk_goes_on}
use Rattle.tree_links.proofs.leaf_at.Goals as goal

pub returns-then-p-eq0 : goal.returns-then-p-eq0
returns-then-p-eq0 c =
    let e : look c.args.last.now c.args.v ≡ 0 = omega arith in
    omega (arith, no_link_is_no_end c.requires.1 c.args.v c.requires.0 e)

pub link_before-requires : goal.link_before-requires
link_before-requires c =
    let a = c.args in
    let placed = c.requires.1.placed in
    let last = c.requires.1.lasts a.v c.requires.0 in
    let few = last_le (links a.one.now a.two.now) a.v (length a.one.now) in
    (omega arith, omega arith, omega arith)

-- the link before the last
before_last : {one two last before : List ℕ} → Chained one two last before → (v r : ℕ) → v ≤ SITES → 0 < look last v
    → r ≡ pick (look one (look last v - 1)) v (look before (2 * (look last v - 1))) (pick (look two (look last v - 1)) v (look before (2 * (look last v - 1) + 1)) 0)
    → r ≡ last_at (links one two) (look last v - 1) v
before_last {one} {two} {last} {before} c v r site some e =
    let m = length one in
    let on = rw (← (c.lasts v site)) at (on_last (links one two) v m m (omega arith)) in
    walk_goes_on c v (look last v - 1) r (omega arith) (on.1 some) e

pub returns-then-link_before-eq0 : goal.returns-then-link_before-eq0
returns-then-link_before-eq0 c =
    let a = c.args in
    let some : 0 < look a.last.now a.v = omega arith in
    let back = before_last c.requires.1 a.v c.link_before.result c.requires.0 some c.link_before.ensures in
    sym (one_link_is_an_end c.requires.1 a.v c.requires.0 some (omega arith))

pub returns : goal.returns
returns c =
    let a = c.args in
    let some : 0 < look a.last.now a.v = omega arith in
    let back = before_last c.requires.1 a.v c.link_before.result c.requires.0 some c.link_before.ensures in
    sym (more_links_are_no_end c.requires.1 a.v c.requires.0 some (omega arith))

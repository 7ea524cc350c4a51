-- `pass`: the next child is the next in the list of the site.
use Rattle.std.proofs.Common.{◌≡◌, ◌-◌, ◌≤◌, ◌<◌, ℕ, List, refl, sym, arith}
use Rattle.model.specs.Limits.{CHAINS}
use Rattle.lists.specs.Numbers.{look}
use Rattle.model.specs.Pairing.{between}
use Rattle.tree.specs.Offer.{links}
use Rattle.tree.specs.Links.{length-links}
use Rattle.pairing_children.specs.Neighbours.{half, Starts}
use Rattle.pairing_children.specs.Laws.{comes_link}
use Rattle.pairing_walk.specs.declared.Frame.{Frame}
use Rattle.pairing_walk.specs.Frames.{Passing}
use Rattle.pairing_walk.proofs.pass.Goals as goal

module _ {f : Frame} {up : ℕ} {after one two : List ℕ} (p : Passing f up after one two) where
  -- the half link to the child to come, and the one after it
  place : (1 ≤ f.at) × (f.at - 1 < CHAINS)
  place =
      let h = p.coming.hit p.some in (
        omega (arith, h.2),
        omega (arith, comes_link p.coming p.some, h.0, length-links one two (sym p.placed.seconds), p.placed.few),
      )

  starts : Starts (links one two) f.site f.next (look after (f.at - 1))
  starts =
      let ls = links one two in
      let h = p.coming.hit p.some in
      let less : f.at - 1 ≡ half ls f.site (between ls f.site f.next) = omega (arith, h.2) in
      rw less (p.afters f.site f.next (omega (arith, p.coming.above)) h.0)

pub next_child-next-requires : goal.next_child-next-requires
next_child-next-requires c =
    let p = c.requires in
    record { tree = p.tree; placed = p.placed; afters = p.afters; list = (c.args.frame.site, c.args.frame.next, starts p) }

pub returns : goal.returns
returns c = record {
  site = refl;
  link = refl;
  comes = refl;
  remains = refl;
  from = refl;
  next = c.next_child-next.ensures c.args.frame.site c.args.frame.next (starts c.requires);
}

pub offset_bounds-near-at : goal.offset_bounds-near-at
offset_bounds-near-at c = omega (arith, place c.requires)

pub bounds-near-at : goal.bounds-near-at
bounds-near-at c = (place c.requires).1

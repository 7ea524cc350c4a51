-- The frames of the walk: the sites from the root to the one at hand, each with what its children are still to send up.
-- Document 01, "Pairing", step 1.
use Rattle.std.specs.Prelude.{◌≡◌, List, ℕ, suc, ◌-◌, ◌*◌, ◌/◌, ◌≤◌, ◌<◌, min, length}
use Rattle.model.specs.Limits.{PLACES, SITES}
use Rattle.lists.specs.Numbers.{look}
use Rattle.model.specs.Flows.{Links, Tree}
use Rattle.tree.specs.Offer.{links}
use Rattle.tree_links.specs.Chains.{Placed}
use Rattle.pairing_children.specs.Neighbours.{Comes, Followed, Listed}
use Rattle.pairing_halves.specs.declared.Tops.{Tops}
use Rattle.pairing_walk.specs.declared.Frame.{Frame}
use Rattle.pairing_walk.specs.declared.Child.{Child}

-- the ends of three empty lists
abbrev pub bottom : Tops
bottom = record { ups = 0; downs = 0; pairs = 0 }

-- site v of a tree whose neighbours are listed, to which no more comes down than its links carry
pub record Entering (v down : ℕ) (sums first after a b : List ℕ) : Type 0 where
  pub tree : Tree (links a b) (suc (length a))
  pub placed : Placed a b
  pub lists : Listed a b 0 first after
  pub site : v ≤ SITES
  pub within : down ≤ look sums v

-- f is the frame of site v, whose links carry `sum` together, entered over link j, before its first child
pub record Entered (ls : Links) (sum v j down : ℕ) (base : Tops) (f : Frame) : Type 0 where
  pub site : f.site ≡ v
  pub link : f.link ≡ j
  pub comes : f.down ≡ down
  pub remains : f.rest ≡ sum - down
  pub from : f.base ≡ base
  pub first : Comes ls v j 0 f.at f.next

-- the link to the child to come
abbrev pub over : Frame → ℕ
over f = (f.at - 1) / 2

-- what the child to come sends up: the lesser of twice its capacity and of what remains
abbrev pub sent : (ℕ → ℕ) → Frame → ℕ
sent t f = min (2 * t (over f)) f.rest

-- the child to come, with the link to it
abbrev pub child_of : (ℕ → ℕ) → Frame → Child
child_of t f = record { link = over f; up = sent t f; down = 2 * t (over f) - sent t f }

-- the site of a frame, in a tree whose neighbours are listed, has a child to come, which sends up no more than what remains
pub record Passing (f : Frame) (up : ℕ) (after a b : List ℕ) : Type 0 where
  pub tree : Tree (links a b) (suc (length a))
  pub placed : Placed a b
  pub afters : Followed (links a b) 0 after
  pub past : ℕ
  pub coming : Comes (links a b) f.site f.link past f.at f.next
  pub some : f.next < PLACES
  pub enough : up ≤ f.rest

-- g is frame f before the next child, with `up` halves sent up
pub record Passed (ls : Links) (f : Frame) (up : ℕ) (g : Frame) : Type 0 where
  pub site : g.site ≡ f.site
  pub link : g.link ≡ f.link
  pub comes : g.down ≡ f.down
  pub remains : g.rest ≡ f.rest - up
  pub from : g.base ≡ f.base
  pub next : Comes ls f.site f.link f.next g.at g.next

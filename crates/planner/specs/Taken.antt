-- The network of an accepted sheet taken apart into lists: they have a place for each link, and are a tree within the limits.
use Rattle.std.specs.Prelude.{◌≡◌, refl, List, [], ◌∷◌, map, ℕ, suc, ◌-◌, ◌≤◌, take, replicate, Ok, Err}
use Rattle.std.proofs.Common.{sym, ap, ◌∙◌, arith, length-append, take_at}
use Rattle.std.proofs.Math.ListN.{length}
use Rattle.std.proofs.lemmas.List.{length-map, length-replicate}
use Rattle.model.specs.Limits.{LINKS, SITES}
use Rattle.model.specs.Edition.{editions, largest}
use Rattle.model.specs.declared.Refusal.{Refusal}
use Rattle.lists.specs.Numbers.{look}
use Rattle.model.specs.Flows.{Links, ends}
use Rattle.tree.specs.Offer.{links, offer}
use Rattle.tree.specs.Accepted.{TreeWithin, MarkedTree, a_tree_within_the_limits_is_accepted}
use Rattle.sheet.proofs.Editions.{an_accepted_sheet_is_within_the_largest}
use Rattle.sheet.specs.Sheet.{Network, ends_of, Read, refused, accepted, read_sheet}
use Rattle.sheet.specs.Reading.{padded, lists, reading}
use Rattle.sheet.specs.SheetTheorem.{IsNetwork}
use Rattle.sheet.specs.declared.Lists.{Lists}
use Rattle.planner.specs.Outcome.{Reporter, plan_read, planned_by}
use Rattle.planner.specs.Ready.{TakenApart}
use Rattle.lists.specs.Sums.{contradiction}

-- ---- lists with zeros behind them

pub padded-length : (n : ℕ) (l : List ℕ) → length l ≤ n → length (padded n l) ≡ n
unfolding padded
padded-length n l h = omega (arith, length-append l (replicate (n - length l) 0), length-replicate {A = ℕ} (n - length l) 0)

pub padded-front : (n m : ℕ) (l : List ℕ) → length l ≡ m → take m (padded n l) ≡ l
unfolding padded
padded-front n m l e = take_at l (replicate (n - length l) 0) m e

-- ---- what is read

-- the lists of the network of an accepted sheet
pub record Listed (s : List ℕ) (network : Lists) : Type 0 where
  pub net : Network
  pub read : read_sheet editions s ≡ accepted net
  pub listed : network ≡ lists net

-- an accepted sheet's lists
pub accepted_is_listed : (s : List ℕ) (network : Lists) → Ok network ≡ reading (read_sheet editions s) → Listed s network
unfolding reading
accepted_is_listed s network e = by (read_sheet editions s) refl e
  where
    by : (r : Read) → read_sheet editions s ≡ r → Ok network ≡ reading r → Listed s network
    by (refused n k) q e = contradiction cc
    by (accepted net) q e = record { net = net; read = q; listed = (cc) }

-- what refuses a sheet is the refusal of reading it
pub refused_is_read : (s : List ℕ) (f : Refusal) → Err f ≡ reading (read_sheet editions s) → read_sheet editions s ≡ refused f.number f.line
unfolding reading
refused_is_read s f e = by (read_sheet editions s) e
  where
    by : (r : Read) → Err f ≡ reading r → r ≡ refused f.number f.line
    by (refused m l) e = let p : f ≡ record { number = m; line = l } = cc in rw p refl
    by (accepted net) e = contradiction cc

-- a refused sheet is refused with the same number and line, and the buffer stays
pub refused_is_told : (text : Reporter) (s b : List ℕ) (f : Refusal) → Err f ≡ reading (read_sheet editions s)
    → planned_by text editions s b ≡ record { outcome = Err f; buffer = b }
unfolding planned_by plan_read
refused_is_told text s b f e = rw (refused_is_read s f e) refl

-- ---- taken apart

module _ {s : List ℕ} {network : Lists} (r : Listed s network) where
  abbrev net : Network
  net = r.net

  abbrev m : ℕ
  m = network.links

  given : IsNetwork largest s net
  given = an_accepted_sheet_is_within_the_largest s net r.read

  firsts : length (map (λ l. l.0) net.links) ≡ length net.links
  firsts = length-map net.links (λ l. l.0)

  seconds : length (map (λ l. l.1) net.links) ≡ length net.links
  seconds = length-map net.links (λ l. l.1)

  -- there is a place for each link, and for the mark of each site
  pub room_for_the_links : (m ≤ length network.one) × (m ≤ length network.two) × (m ≤ length network.capacity)
      × (network.sites ≤ length network.mark)
  unfolding lists
  room_for_the_links =
      let few : length net.links ≤ LINKS = omega (arith, given.tree.links, given.few) in
      rw r.listed (
        omega (arith, padded-length SITES (map (λ l. l.0) net.links) (omega (arith, firsts))),
        omega (arith, padded-length SITES (map (λ l. l.1) net.links) (omega (arith, seconds))),
        omega (arith, padded-length SITES net.capacities (omega (arith, given.capacities))),
        omega (arith, padded-length SITES net.marks (omega (arith, given.marks, given.few)), given.few),
      )

  -- the lists are those of the network, and the marks too
  taken-apart : let at = network.sites in
      (a : TakenApart s network.start network.end at (take m network.one) (take m network.two) (take m network.capacity))
      × (take at network.mark ≡ a.net.marks)
  unfolding lists
  taken-apart = rw r.listed (
    record {
      net = net;
      read = r.read;
      started = refl;
      stopped = refl;
      counted = refl;
      firsts = padded-front SITES (length net.links) (map (λ l. l.0) net.links) firsts;
      seconds = padded-front SITES (length net.links) (map (λ l. l.1) net.links) seconds;
      sizes = padded-front SITES (length net.links) net.capacities given.capacities;
    },
    padded-front SITES (length net.names) net.marks given.marks,
  )

  pub the_lists_are_taken_apart :
      TakenApart s network.start network.end network.sites (take m network.one) (take m network.two) (take m network.capacity)
  the_lists_are_taken_apart = taken-apart.0

  pub the_marks_are_taken_apart : take network.sites network.mark ≡ the_lists_are_taken_apart.net.marks
  unfolding the_lists_are_taken_apart
  the_marks_are_taken_apart = taken-apart.1

-- ---- a tree within the limits

-- links taken apart and put together
pub links-again : (ls : Links) → links (map (λ l. l.0) ls) (map (λ l. l.1) ls) ≡ ls
unfolding links
links-again [] = refl
links-again (l ∷ ls) = ap (λ r. l ∷ r) (links-again ls)

module _ {s starting stopping : List ℕ} {n : ℕ} {one two c : List ℕ} (a : TakenApart s starting stopping n one two c) where
  pub the_network_is_given : IsNetwork largest s a.net
  the_network_is_given = an_accepted_sheet_is_within_the_largest s a.net a.read

  pub the_links_are_the_networks : links one two ≡ a.net.links
  the_links_are_the_networks = rw (a.firsts, a.seconds) (links-again a.net.links)

  pub the_network_is_a_tree_within : TreeWithin largest n one two c
  the_network_is_a_tree_within =
      let g = the_network_is_given in
      let all = ap suc (sym (ap length a.firsts ∙ length-map a.net.links (λ l. l.0))) in
      let all-seconds = ap suc (sym (ap length a.seconds ∙ length-map a.net.links (λ l. l.1))) in
      record {
        tree = rw (the_links_are_the_networks, a.counted) g.tree;
        few = rw a.counted g.few;
        firsts = a.counted ∙ g.tree.links ∙ all;
        seconds = a.counted ∙ g.tree.links ∙ all-seconds;
        capacities = a.counted ∙ g.tree.links ∙ ap suc (sym (ap length a.sizes ∙ g.capacities));
        limited = rw a.sizes g.sizes;
      }

  -- its marks are one for each site
  pub the_network_is_a_marked_tree : MarkedTree largest n one two a.net.marks c
  the_network_is_a_marked_tree = record { within = the_network_is_a_tree_within; marked = a.counted ∙ sym the_network_is_given.marks }

  pub the_network_is_accepted : offer largest n one two a.net.marks c ≡ Ok tt
  the_network_is_accepted = a_tree_within_the_limits_is_accepted largest n one two a.net.marks c the_network_is_a_marked_tree

  pub the_ends_are_the_networks : look (ends (links one two) n a.net.marks) ≡ look (ends_of a.net)
  the_ends_are_the_networks = rw (the_links_are_the_networks, a.counted)

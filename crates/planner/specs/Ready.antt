-- What stands ready on the way to a report: the network of an accepted sheet taken apart into lists; its order, chains and ends;
-- and lists that show its plan and can be written.
use Rattle.std.specs.Prelude.{◌≡◌, List, map, ℕ, length, take}
use Rattle.model.specs.Edition.{editions}
use Rattle.lists.specs.Numbers.{look}
use Rattle.model.specs.Trimming.{elimination}
use Rattle.model.specs.declared.Pairs.{Pairs}
use Rattle.tree.specs.Offer.{links}
use Rattle.tree_links.specs.Chains.{Chained}
use Rattle.sheet.specs.Sheet.{Network, ends_of, accepted, read_sheet}
use Rattle.report.specs.Report.{Plan, report_of, report}
use Rattle.report.specs.Shown.{CanWrite}
use Rattle.report.specs.declared.Names.{Names}
use Rattle.tree.specs.declared.accepted.AcceptedTree.{AcceptedTree}
use Rattle.planner.specs.Outcome.{Reporter}
use Rattle.planner.specs.Shows.{starts, stops}

-- the lists of the network of an accepted sheet: where its names start and stop, its number of sites, its links and their capacities
pub record TakenApart (s starting stopping : List ℕ) (n : ℕ) (one two c : List ℕ) : Type 0 where
  pub net : Network
  pub read : read_sheet editions s ≡ accepted net
  pub started : starting ≡ starts net
  pub stopped : stopping ≡ stops net
  pub counted : n ≡ length net.names
  pub firsts : one ≡ map (λ l. l.0) net.links
  pub seconds : two ≡ map (λ l. l.1) net.links
  pub sizes : c ≡ net.capacities

-- where the names stand and a tree are those of an accepted sheet
abbrev pub Apart : Names → AcceptedTree → Type 0
Apart names tree = (a : TakenApart names.sheet.now names.start.now names.end.now tree.sites tree.one.now tree.two.now tree.capacity.now) × (tree.marks.now ≡ a.net.marks)

-- the elimination order of a tree of n sites
abbrev pub Ordered : ℕ → List ℕ → List ℕ → List ℕ → Type 0
Ordered n one two order = take n order ≡ elimination (links one two) n

-- the elimination order, the ends and the chains of the tree of a network taken apart
pub record Charted {s starting stopping : List ℕ} {n : ℕ} {one two c : List ℕ} (a : TakenApart s starting stopping n one two c)
    (order terminals last before : List ℕ) : Type 0 where
  pub ordered : Ordered n one two order
  pub marked : look terminals ≡ look (ends_of a.net)
  pub chained : Chained one two last before

-- the report of the plan p is that of an accepted sheet, and can be written
pub record ReadyBy (text : Reporter) (s starting stopping : List ℕ) (p : Plan) (pairs : Pairs) : Type 0 where
  pub net : Network
  pub read : read_sheet editions s ≡ accepted net
  pub shows : report_of p ≡ text s net
  pub writable : CanWrite s starting stopping p pairs

abbrev pub Ready : List ℕ → List ℕ → List ℕ → Plan → Pairs → Type 0
Ready = ReadyBy report

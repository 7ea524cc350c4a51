-- Room for a report has room for each of its six parts, after those before it.
use Rattle.std.proofs.Common.{List, ◌++◌, ℕ, ◌<◌, length, take, arith}
use Rattle.std.proofs.lemmas.List.{get_or-take, length-take-le}
use Rattle.lists.specs.Numbers.{upfrom}
use Rattle.model.specs.Flows.{sites, total}
use Rattle.model.specs.declared.Pair.{Pair}
use Rattle.model.specs.declared.Pairs.{Pairs}
use Rattle.text_writers.specs.Wrote.{Wrote, Room}
use Rattle.text_writers.specs.Writing.{room_front, room_after}
use Rattle.report.specs.Report.{Plan, lines, head_record, link_line, site_line, cut_line, pair_line, report_of}
use Rattle.report.specs.Shown.{Paired, CanWrite, no_pair_lem}

abbrev head : Plan → List ℕ
head p = head_record p.word (total p.pairs) (length p.pairs)

abbrev links : Plan → List ℕ
links p = lines (link_line p.names p.ones p.twos p.capacities p.shown) (upfrom 0 (length p.ones))

abbrev placed : Plan → List ℕ
placed p = lines (site_line p.names p.owners) (sites p.size)

abbrev cuts : Plan → List ℕ
cuts p = lines (cut_line p.names p.ends p.cut_sizes p.cut_counts) (sites p.size)

abbrev paired : Plan → List ℕ
paired p = lines (pair_line p.names) p.pairs

module _ {s starts stops : List ℕ} {p : Plan} {list : Pairs} (can : CanWrite s starts stops p list) where
  six : Room 0 (head p ++ links p ++ placed p ++ cuts p ++ p.before ++ paired p)
  unfolding report_of
  six = can.room

  five : Room 0 (head p ++ links p ++ placed p ++ cuts p ++ p.before)
  five = room_front 0 (head p ++ links p ++ placed p ++ cuts p ++ p.before) (paired p) six

  four : Room 0 (head p ++ links p ++ placed p ++ cuts p)
  four = room_front 0 (head p ++ links p ++ placed p ++ cuts p) p.before five

  three : Room 0 (head p ++ links p ++ placed p)
  three = room_front 0 (head p ++ links p ++ placed p) (cuts p) four

  two : Room 0 (head p ++ links p)
  two = room_front 0 (head p ++ links p) (placed p) three

  pub head_room : Room 0 (head p)
  head_room = room_front 0 (head p) (links p) two

  module _ {b c : List ℕ} {r : ℕ} where
    pub links_room : Wrote b 0 (head p) c r → Room r (links p)
    links_room w = room_after w (links p) two

    pub sites_room : Wrote b 0 (head p ++ links p) c r → Room r (placed p)
    sites_room w = room_after w (placed p) three

    pub cuts_room : Wrote b 0 (head p ++ links p ++ placed p) c r → Room r (cuts p)
    cuts_room w = room_after w (cuts p) four

    pub before_room : Wrote b 0 (head p ++ links p ++ placed p ++ cuts p) c r → Room r p.before
    before_room w = room_after w p.before five

    pub pairs_room : Wrote b 0 (head p ++ links p ++ placed p ++ cuts p ++ p.before) c r → Room r (paired p)
    pairs_room w = room_after w (paired p) six

-- the first n pairs of a list, as a list of their own
pub first_paired : {s starts stops : List ℕ} {pairs : List Pair} {n : ℕ} → Paired s starts stops pairs n → Paired s starts stops (take n pairs) (length (take n pairs))
first_paired {s} {starts} {stops} {pairs} {n} w =
    let e = length-take-le n pairs w.held in
    record {
      few = omega (arith, w.few);
      held = omega arith;
      named = λ i h. let l : i < n = omega arith in rw (get_or-take n pairs i no_pair_lem l) (w.named i l);
    }

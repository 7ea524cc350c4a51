-- `settle`: the down list is cut, what is behind the cut is matched, and what is left is kept.
use Rattle.pairing_halves.proofs.Moving.{kept-first}
use Rattle.pairing_halves.proofs.Settling.{settling_matches, settling_kept}
use Rattle.pairing_halves.proofs.settle.Goals as goal

pub match_lists-matched-requires : goal.match_lists-matched-requires
match_lists-matched-requires c = settling_matches c.requires c.find-cut.ensures

pub returns : goal.returns
returns c =
    let cut = c.find-cut.ensures in
    let m = c.match_lists-matched.ensures in
    record {
      ups = rw (settling_kept c.requires cut m) at c.keep_last.ensures;
      downs = kept-first cut c.keep_first.ensures;
      pairs = rw (← cut.after) at m.pairs;
    }

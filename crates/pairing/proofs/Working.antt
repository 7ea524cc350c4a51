-- A decomposition has the pairs of the tree to store, no more than there are links; storing them leaves the lent list as the definition says, and a refusal
-- leaves it as it is.
use mathlib.Core.Path.{◌≡◌, refl, sym, ap, ◌∙◌}
use mathlib.Core.Logic.{if_pos}
use mathlib.Core.List.{List, ◌++◌}
use Prim.Native.Nat.{ℕ, ◌≤◌, min}
use native.Mathlib.Omega.{arith}
use native.Mathlib.Decide.{dec_le}
use lib.Seq.{length-take-le}
use lib.ListN.{length, take, drop}
use Rattle.model.specs.Limits.{LINKS, SITES}
use Rattle.lists.specs.Numbers.{look}
use Rattle.model.specs.Edition.{largest}
use Rattle.model.specs.Trimming.{Balanced}
use Rattle.model.specs.Pairing.{ordered}
use Rattle.model.specs.Parts.{pair_list_of_parts}
use Rattle.model.specs.declared.Pair.{Pair}
use Rattle.tree.specs.Offer.{links}
use Rattle.tree.specs.Links.{length-links}
use Rattle.tree.specs.Accepted.{MarkedTree}
use Rattle.theory_walk.specs.PartsTheorem.{pairs_of_parts_are_sound}
use Rattle.pairing_order.specs.PairList.{stored}
use Rattle.pairing_order.specs.Laws.{ordering_keeps_length}
use Rattle.model.specs.declared.Pairs.{Pairs}
use Rattle.std.specs.Prelude.{Ok, Err}
use Rattle.pairing.specs.declared.Unpaired.{Unpaired}
use Rattle.pairing.specs.Outcome.{terminals, answer, after, paired}
use Rattle.pairing.specs.Storing.{pairs_of, Made}
use Rattle.pairing.specs.Promise.{balanced_capacities_are_paired}

module _ (n : ℕ) (one two marks c : List ℕ) (places : ℕ) where
  -- the pairs of an accepted tree with balanced capacities
  module _ (t : MarkedTree largest n one two marks c) (B : Balanced (links one two) (terminals n one two marks) (look c)) (enough : length one ≤ places)
      (w : Pairs) (made : take w.count w.list ≡ pairs_of n one two marks c) (few : w.count ≤ LINKS)
      (full : length w.list ≡ SITES) where
    number : length (pairs_of n one two marks c) ≡ w.count
    number = sym (ap length made) ∙ length-take-le w.count w.list (omega arith)

    pub decomposition_works : Made n one two marks c places w
    unfolding pair_list_of_parts
    decomposition_works = record {
      said = balanced_capacities_are_paired t B places enough ∙ ap Ok (ordering_keeps_length (pairs_of n one two marks c) ∙ number);
      listed = made;
      few = omega arith;
      fits = omega (
        arith,
        (pairs_of_parts_are_sound t.within.tree (terminals n one two marks) (look c) B).few,
        number,
        length-links one two (omega (arith, t.within.firsts, t.within.seconds)),
      );
    }

-- ---- storing

stored-fits : (list l : List Pair) (count : ℕ) → count ≤ min (length list) (length l) → stored list count l ≡ ordered (take count list) ++ drop count l
unfolding stored
stored-fits list l count h = if_pos (dec_le count (min (length list) (length l))) h _ _

-- stored in a list of so many places, they leave it as the definition says
pub work_is_stored : (n : ℕ) (one two marks c : List ℕ) (l : List Pair) (w : Pairs) → Made n one two marks c (length l) w → length w.list ≡ SITES
    → stored w.list w.count l ≡ paired n one two marks c l
unfolding paired after pair_list_of_parts
work_is_stored n one two marks c l w h full =
    stored-fits w.list l w.count (omega (arith, h.few, h.fits)) ∙ rw (h.said, h.listed) refl

-- a refusal leaves it as it is
pub refusal_stores_nothing : (n : ℕ) (one two marks c : List ℕ) (l : List Pair) (e : Unpaired) → answer n one two marks c (length l) ≡ Err e
    → l ≡ paired n one two marks c l
unfolding paired after
refusal_stores_nothing n one two marks c l e h = rw h refl

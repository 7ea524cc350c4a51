-- `take_apart`: a heavy link, or the pairs. The list of the ends that is lent holds the terminals.
use Rattle.std.proofs.Common.{◌≡◌, ◌≤◌, ℕ, List, length, refl, sym, ap, subst, ◌∙◌, arith}
use borrow.Author.Tests.{le-leb}
use Rattle.lists.specs.Numbers.{look}
use Rattle.model.specs.Limits.{LINKS}
use Rattle.model.specs.Edition.{largest}
use Rattle.model.specs.Trimming.{Balanced}
use Rattle.model.specs.Parts.{pairs_of_parts}
use Rattle.model.specs.declared.Pairs.{Pairs}
use Rattle.tree.specs.Offer.{links}
use Rattle.tree.specs.Links.{length-links}
use Rattle.tree.specs.Accepted.{MarkedTree, a_tree_within_the_limits_is_accepted}
use Rattle.pairing.specs.Weighing.Heavy.{heavy_somewhere, no_heavy_link_is_balanced}
use Rattle.theory_walk.specs.PartsTheorem.{pairs_of_parts_are_sound}
use Rattle.pairing_walk.specs.Visits.{pairs_of, listing}
use Rattle.pairing_walk.specs.Laws.{listing_counts, listing-holds, listing-long}
use Rattle.pairing.specs.Outcome.{terminals, decide, answer}
use Rattle.pairing.specs.Storing.{Made}
use Rattle.pairing.proofs.Working.{decomposition_works}
use Rattle.pairing.proofs.take_apart.Goals as goal

pub returns-then-heavy : goal.returns-then-heavy
unfolding answer decide
returns-then-heavy c = λ places enough.
    let t = c.args.tree in
    let ended = rw c.of-chains.ensures at c.ends-ends.ensures in
    let weighed = rw c.of-chains.ensures at c.heavy.ensures in
    let told = ap (λ f. heavy_somewhere (links t.one.now t.two.now) t.sites f (look t.capacity.now)) (sym ended) ∙ sym weighed ∙ c.if-heavy.true in
    rw (a_tree_within_the_limits_is_accepted largest t.sites t.one.now t.two.now t.marks.now t.capacity.now t.within, le-leb _ places enough, told) refl

pub decompose-requires : goal.decompose-requires
decompose-requires c =
    let t = c.args.tree in
    let weighed = rw c.of-chains.ensures at c.heavy.ensures in
    rw c.of-chains.ensures (record {
      tree = t.within.within;
      balanced = no_heavy_link_is_balanced (links t.one.now t.two.now) (look c.ends-ends.result) (look t.capacity.now) t.within.within.tree
          (sym weighed ∙ c.if-heavy.false);
    })

-- the pairs of the walk, between the terminals, are those to store
made : (n : ℕ) (one two marks c ends : List ℕ) (places : ℕ) (w : Pairs) → MarkedTree largest n one two marks c → length one ≤ places
    → look ends ≡ terminals n one two marks → Balanced (links one two) (look ends) (look c) → w ≡ listing (pairs_of n ends one two c) → Made n one two marks c places w
made n one two marks c ends places w t enough e B m =
    let ls = links one two in
    let es = pairs_of n ends one two c in
    let light : Balanced ls (terminals n one two marks) (look c) = subst (λ f. Balanced ls f (look c)) e B in
    let same = ap (pairs_of_parts ls n (look c)) e in
    let few : length es ≤ LINKS = omega (
      arith,
      ap length same,
      (pairs_of_parts_are_sound t.within.tree (terminals n one two marks) (look c) light).few,
      length-links one two (omega (arith, t.within.firsts, t.within.seconds)),
      t.within.firsts,
      t.within.few,
    ) in
    decomposition_works n one two marks c places t light enough w (rw m (listing-holds es ∙ same)) (rw (m, listing_counts es) few)
    (rw m (listing-long es (omega (arith, few))))

pub returns : goal.returns
returns c = λ places enough.
    let t = c.args.tree in
    let ended = rw c.of-chains.ensures at c.ends-ends.ensures in
    let weighed = rw c.of-chains.ensures at c.heavy.ensures in
    made t.sites t.one.now t.two.now t.marks.now t.capacity.now c.ends-ends.result places c.decompose.result t.within enough ended
    (no_heavy_link_is_balanced (links t.one.now t.two.now) (look c.ends-ends.result) (look t.capacity.now) t.within.within.tree
    (sym weighed ∙ c.if-heavy.false)) (rw c.of-chains.ensures at c.decompose.ensures)

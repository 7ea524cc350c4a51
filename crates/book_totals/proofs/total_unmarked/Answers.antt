-- `total_unmarked` meets its contract: by what is said of the offer; what trimming leaves is summed.
use Rattle.std.proofs.Common.{◌≡◌, ◌≤◌, ℕ, List, Ok, Err, refl, sym, ap, ◌∙◌, arith, length, take, drop, take_at}
use Rattle.std.specs.Prelude.{replicate}
use Rattle.std.proofs.lemmas.List.{length-replicate}
use Rattle.lists.specs.Sums.{contradiction}
use Rattle.model.specs.Edition.{largest}
use Rattle.tree.specs.Offer.{Offered, offer}
use Rattle.tree.specs.Elimination.{eliminated}
use Rattle.tree.specs.declared.Elimination.{Elimination}
use Rattle.tree.specs.declared.Unfit.{Unfit}
use Rattle.tree.specs.Accepted.{MarkedTree, accepted_is_a_tree_within_the_limits, eliminated_says, eliminated_in_order}
use Rattle.trimming.specs.Outcome.{answer, decide, refused, capacities, after, trimmed}
use Rattle.trimming.specs.Answers.{success_is_told_just_of_a_tree_with_enough_places}
use Rattle.trimming.specs.Promise.{capacities_keep_the_promise}
use Rattle.book_totals.specs.Laws.{no_total_is_told, the_total_is_told}
use Rattle.book_totals.proofs.total_unmarked.Goals as goal

-- what is said of the offer is what the elimination says
said : (n : ℕ) (a b marks c : List ℕ) (r : Elimination) (o : Offered) → r ≡ eliminated n a b marks c → r.offer ≡ o → offer largest n a b marks c ≡ o
said n a b marks c r o e f = sym (eliminated_says n a b marks c) ∙ sym (ap (λ r. r.offer) e) ∙ f

-- what trimming leaves are the trimmed sizes
left_is : {n : ℕ} {one two marks c : List ℕ} → MarkedTree largest n one two marks c → (lent : List ℕ) → answer n one two marks c lent ≡ Ok tt
    → take (length one) (trimmed n one two marks c lent) ≡ capacities n one two marks c
unfolding trimmed after
left_is {n} {one} {two} {marks} {c} w lent e =
    rw e (take_at (capacities n one two marks c) (drop (length (capacities n one two marks c)) lent) (length one) (capacities_keep_the_promise w).each)

-- an offer that is refused is told by trimming
refused_is : (n : ℕ) (one two marks c lent : List ℕ) (why : Unfit) → offer largest n one two marks c ≡ Err why → answer n one two marks c lent ≡ Err (refused why)
unfolding answer decide
refused_is n one two marks c lent why e = rw e refl

pub invariant_of-tree : goal.invariant_of-tree
invariant_of-tree c =
    record { within = accepted_is_a_tree_within_the_limits _ _ _ _ _ _ (said _ _ _ _ _ _ _ c.eliminate-found.ensures c.in-Ok.is) }

pub trimmed_at_ends-requires : goal.trimmed_at_ends-requires
trimmed_at_ends-requires c =
    let o = said _ _ _ _ _ _ _ c.eliminate-found.ensures c.in-Ok.is in
    (omega (arith, c.requires.0.firsts, c.requires.0.most), ap (λ r. take c.args.n r.sites) c.eliminate-found.ensures ∙ eliminated_in_order _ _ _ _ _ o)

pub returns-in-Ok : goal.returns-in-Ok
returns-in-Ok c =
    let a = c.args in
    let f = c.requires.0 in
    let lent : List ℕ = replicate 4 0 in
    let w = accepted_is_a_tree_within_the_limits _ _ _ _ _ _ (said _ _ _ _ _ _ _ c.eliminate-found.ensures c.in-Ok.is) in
    let room : length a.one.now ≤ length lent = omega (arith, f.firsts, f.most, length-replicate {A = ℕ} 4 0) in
    let told = (success_is_told_just_of_a_tree_with_enough_places a.n a.one.now a.two.now a.marks.now a.sizes.now lent).1 (w, room) in
    the_total_is_told f c.requires.1 lent told c.trimmed_at_ends.result (rw (sym (left_is w lent told)) at c.trimmed_at_ends.ensures)

pub returns-in-Err : goal.returns-in-Err
returns-in-Err c =
    let f = c.requires.0 in
    let lent : List ℕ = replicate 4 0 in
    no_total_is_told f c.requires.1 lent (omega (arith, f.firsts, f.most, length-replicate {A = ℕ} 4 0)) _
    (refused_is _ _ _ _ _ lent _ (said _ _ _ _ _ _ _ c.eliminate-found.ensures c.in-Err.is)) (λ e. contradiction cc)

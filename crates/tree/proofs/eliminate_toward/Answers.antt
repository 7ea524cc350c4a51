-- `eliminate_toward` meets its contract: the parts make up the definition.
use Rattle.std.proofs.Common.{◌≡◌, refl, ap, ◌∙◌, Bool, true, false, List, ℕ, length}
use Rattle.std.specs.Prelude.{eqb, Ok, Err}
use Rattle.model.specs.Limits.{SITES}
use Rattle.model.specs.Edition.{largest}
use Rattle.tree_order.specs.Toward.{elimination_toward, order_in}
use Rattle.tree.specs.declared.Elimination.{Elimination}
use Rattle.tree.specs.Offer.{Offered, links, is_tree, is_marked_tree, offer_of, offer}
use Rattle.tree.specs.Elimination.{decide, eliminated_toward}
use Rattle.tree.proofs.eliminate_toward.Goals as goal

-- what is kept goes with what is said
answered : (o : Offered) (taken : List ℕ) → ◌≡◌ {A = Elimination} record { offer = o; sites = (decide o taken).sites } (decide o taken)
unfolding decide
answered (Err why) taken = refl
answered (Ok tt) taken = refl

made : (n root : ℕ) (a b marks c taken : List ℕ) {places : List ℕ} {whole : Bool} {o : Offered} → is_tree SITES n a b ≡ true
    → taken ≡ order_in n (elimination_toward (links a b) n root)
    → whole ≡ eqb (length marks) n → o ≡ offer_of largest whole (length a) c → places ≡ (decide o taken).sites
    → ◌≡◌ {A = Elimination} record { offer = o; sites = places } (eliminated_toward n a b marks c root)
unfolding eliminated_toward offer is_marked_tree
made n root a b marks c taken {places} {whole} {o} tree given marked said kept = rw (tree, ← given)
    (ap (λ l. record { offer = o; sites = l }) kept ∙ answered o taken ∙ ap (λ s. decide s taken) (said ∙ ap (λ w. offer_of largest w (length a) c) marked))

pub returns-in_default : goal.returns-in_default
unfolding eliminated_toward offer is_marked_tree offer_of decide
returns-in_default c = let a = c.args in
    let none : is_tree SITES a.n a.one.now a.two.now ≡ false = c.in_default.ensures in
    rw none refl

pub returns : goal.returns
returns c = let a = c.args in
    made a.n a.root a.one.now a.two.now a.marks.now a.capacity.now c.in-Some.order c.in-Some.ensures.0 c.in-Some.ensures.1 refl c.offer_of-offer.ensures c.kept-sites.ensures

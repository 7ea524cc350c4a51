-- Laws of a region that is offered as lists: its sites with a single link and no mark, the sum over its own ends, and its trimmed sizes.
use Rattle.std.specs.Prelude.{◌≡◌, refl, ◌≢◌, List, ◌++◌, eqb, take, set}
use Rattle.std.proofs.Common.{sym, ◌∙◌, eq-eqb, ne_eqb, ext_get_or, get_or-take, length-take-le, take_at}
use Rattle.std.proofs.Math.Path.{ap}
use Prim.Native.Nat.{ℕ, suc, ◌+◌, ◌-◌, ◌*◌, ◌≤◌, ◌<◌, min}
use native.Mathlib.Omega.{arith}
use Rattle.std.proofs.Math.ListN.{length, length-set, get_or-append}
use Rattle.std.proofs.Math.Seq.{take-set-lt, get_or-set_same, get_or-set_other}
use Rattle.lists.specs.Numbers.{pick, is, look, sum}
use Rattle.lists.specs.Parts.{over-upfrom}
use Rattle.lists.specs.Places.{over-eq}
use Rattle.lists.specs.Sums.{same?, pick_same, pick_other, is_same, is-other, is_one, differ_same, differ-other, sum-eq}
use Rattle.model.specs.Edition.{largest}
use Rattle.model.specs.Flows.{Links, sites, at, mark, leaf, ends, sum_at, at_terminals}
use Rattle.model.specs.Trimming.{balanced}
use Rattle.theory_regions.specs.Regions.{first_size, trimmed_again, lone, far_site, own, own_sum, given}
use Rattle.theory_trees.proofs.Greatest.{balanced_is_greatest, balanced_has_each_link}
use Rattle.theory_trees.specs.Sites.{sites-site}
use Rattle.tree.specs.Accepted.{TreeWithin, MarkedTree}
use Rattle.tree.specs.Links.{length-links, links-one, links-two}
use Rattle.tree.specs.Offer.{links}
use Rattle.region_sizes.specs.Offered.{region_by}

-- ---- a single link and no mark

-- the first mark is that of site 1
mark-before : (marks : List ℕ) (v : ℕ) → 1 ≤ v → look marks (v - 1) ≡ mark marks v
mark-before marks v h = let next : suc (v - 1) ≡ v = omega arith in ap (mark marks) next

module _ (n : ℕ) (one two marks c : List ℕ) (v : ℕ) where
  pub a-marked-site-is-not-lone : 1 ≤ v → look marks (v - 1) ≡ 1 → lone (region_by n one two marks c) v ≢ 1
  unfolding lone
  a-marked-site-is-not-lone h e o = omega (arith, rw (differ_same (sym (mark-before marks v h) ∙ e)) at o)

  pub a-leaf-without-a-mark-is-lone : 1 ≤ v → look marks (v - 1) ≢ 1 → leaf (links one two) v ≡ lone (region_by n one two marks c) v
  unfolding lone
  a-leaf-without-a-mark-is-lone h d = rw (differ-other {u = mark marks v} {v = 1} (λ e. d (mark-before marks v h ∙ e))) (omega arith)

-- whether a link is at a site, by its two sites
pub a-link-at-a-site : (one two : List ℕ) (v j : ℕ) → j < length one → j < length two
    → pick (look one j) v 1 (is (look two j) v) ≡ at (links one two) v j
unfolding at
a-link-at-a-site one two v j h k = rw (links-one one two j h k, links-two one two j h k) refl

-- a site has one link just if that many are counted
pub a_leaf_is_counted : (one two : List ℕ) (v count : ℕ) → length (links one two) ≡ length one
    → count ≡ sum (length one) (λ j. at (links one two) v j) → eqb count 1 ≡ eqb (leaf (links one two) v) 1
unfolding leaf sum_at
a_leaf_is_counted one two v count all e =
    let ls = links one two in
    let total : count ≡ sum (length ls) (λ j. at ls v j * 1) =
    e ∙ ap (λ k. sum k (λ j. at ls v j)) (sym all) ∙ sum-eq (length ls) _ _ (λ j l. omega arith) in
    ap (λ k. eqb k 1) total ∙ by (sum (length ls) (λ j. at ls v j * 1))
  where
    by : (k : ℕ) → eqb k 1 ≡ eqb (is k 1) 1
    by k = same? k 1
        (λ e. eq-eqb k 1 e ∙ sym (eq-eqb (is k 1) 1 (is_same e)))
        (λ d. ne_eqb k 1 d ∙ sym (ne_eqb (is k 1) 1 (λ o. d (is_one o))))

module _ (n : ℕ) (one two marks c : List ℕ) (j : ℕ) (h : j < length one) (k : j < length two) where
  pub the_second_is_far : lone (region_by n one two marks c) (look two j) ≡ 1 → look two j ≡ far_site (region_by n one two marks c) j
  unfolding far_site
  the_second_is_far e = rw (links-two one two j h k) (sym (pick_same e _ _))

  pub the_first_is_far : lone (region_by n one two marks c) (look two j) ≢ 1 → look one j ≡ far_site (region_by n one two marks c) j
  unfolding far_site
  the_first_is_far d = rw (links-two one two j h k, links-one one two j h k) (sym (pick_other d _ _))

-- ---- the sum over the own ends

module _ (t : ℕ → ℕ) (far v x : ℕ) where
  pub the_far_site_counts_nothing : v ≡ far → 0 ≡ is (own t far v) 1 * x
  unfolding own
  the_far_site_counts_nothing e = rw (pick_same e 0 (t v), is-other {u = 0} {v = 1} (λ z. omega arith)) (omega arith)

  pub a_joint_counts_nothing : v ≢ far → t v ≢ 1 → 0 ≡ is (own t far v) 1 * x
  unfolding own
  a_joint_counts_nothing d e = rw (pick_other d 0 (t v), is-other e) (omega arith)

  pub an_own_end_counts : v ≢ far → t v ≡ 1 → x ≡ is (own t far v) 1 * x
  unfolding own
  an_own_end_counts d e = rw (pick_other d 0 (t v), is_same e) (omega arith)

-- site by site
pub own_sum_by_sites : (n : ℕ) (ls : Links) (t : ℕ → ℕ) (far : ℕ) (sizes : List ℕ)
    → sum n (λ i. is (own t far (1 + i)) 1 * sum_at ls (1 + i) (look sizes)) ≡ at_terminals ls n (own t far) (look sizes)
unfolding at_terminals
own_sum_by_sites n ls t far sizes = sym (over-upfrom (λ w. is (own t far w) 1 * sum_at ls w (look sizes)) 1 n)

-- with 0 for the far site no end is left out
pub without-a-far-site : (ls : Links) (n : ℕ) (terminal f : ℕ → ℕ) → at_terminals ls n (own terminal 0) f ≡ at_terminals ls n terminal f
unfolding at_terminals own
without-a-far-site ls n terminal f = over-eq (sites n) _ _
    (λ v p. rw (pick_other {u = v} {v = 0} (λ e. omega (arith, (sites-site n v p).0)) 0 (terminal v)) refl)

-- ---- trimmed sizes

-- a list that begins as another one does, with another size for one link
pub the_front_is_resized : (c list : List ℕ) (j size : ℕ) → length c ≤ length list → j < length c → ((i : ℕ) → i < length c → look list i ≡ look c i)
    → take (length c) (set list j size) ≡ set c j size
the_front_is_resized c list j size l h e =
    let front : take (length c) list ≡ c = ext_get_or 0 (take (length c) list) c (length-take-le (length c) list l)
    (λ i p. let q : i < length c = omega (arith, length-take-le (length c) list l) in get_or-take (length c) list i 0 q ∙ e i q) in
    take-set-lt (length c) list j size h ∙ ap (λ r. set r j size) front

module _ {n : ℕ} {one two c : List ℕ} (w : TreeWithin largest n one two c) (terminal : ℕ → ℕ) where
  -- a tree has a trimmed size for each link
  pub trimmed_for_each_link : length (balanced (links one two) n terminal c) ≡ length one
  trimmed_for_each_link = balanced_has_each_link w.tree terminal c ∙ length-links one two (omega (arith, w.firsts, w.seconds))

  pub a_trimmed_size_stands_there : (rest : List ℕ) (j : ℕ) → j < length one
      → look (balanced (links one two) n terminal c ++ rest) j ≡ look (balanced (links one two) n terminal c) j
  a_trimmed_size_stands_there rest j h = get_or-append (balanced (links one two) n terminal c) rest 0 j (omega (arith, trimmed_for_each_link))

  -- they stand at the front of a list that begins with them
  pub the_front_is_trimmed : (rest list : List ℕ) → list ≡ balanced (links one two) n terminal c ++ rest
      → take (length one) list ≡ balanced (links one two) n terminal c
  the_front_is_trimmed rest list e =
      ap (take (length one)) e ∙ take_at (balanced (links one two) n terminal c) rest (length one) trimmed_for_each_link

  -- none is above the link's capacity
  pub no_trimmed_size_is_above : (j : ℕ) → j < length one → look (balanced (links one two) n terminal c) j ≤ look c j
  no_trimmed_size_is_above j h =
      (balanced_is_greatest w.tree terminal c).below j (omega (arith, length-links one two (omega (arith, w.firsts, w.seconds))))

  -- so they are within the limits too
  pub trimmed-is-within : TreeWithin largest n one two (balanced (links one two) n terminal c)
  trimmed-is-within = record {
    tree = w.tree;
    few = w.few;
    firsts = w.firsts;
    seconds = w.seconds;
    capacities = omega (arith, w.firsts, trimmed_for_each_link);
    limited = λ j h. omega (
      arith,
      trimmed_for_each_link,
      no_trimmed_size_is_above j (omega (arith, trimmed_for_each_link)),
      w.limited j (omega (arith, trimmed_for_each_link, w.firsts, w.capacities)),
    );
  }

-- ---- trimmed again

module _ {n : ℕ} {one two marks c : List ℕ} (w : MarkedTree largest n one two marks c) (j other : ℕ) (h : j < length one) where
  abbrev lesser : ℕ
  lesser = min (first_size (region_by n one two marks c) j) other

  -- the lesser of the two numbers is no larger than the link's own size
  pub the_lesser_is_within : TreeWithin largest n one two (set c j lesser)
  unfolding first_size
  the_lesser_is_within =
      let t = w.within in
      let here : j < length c = omega (arith, t.firsts, t.capacities) in
      record {
        tree = t.tree;
        few = t.few;
        firsts = t.firsts;
        seconds = t.seconds;
        capacities = t.capacities ∙ ap suc (sym (length-set c j lesser));
        limited = λ i l. same? i j
            (λ e. rw e (omega (
              arith,
              get_or-set_same c j lesser 0 here,
              no_trimmed_size_is_above t (look (ends (links one two) n marks)) j h,
              t.limited j here,
            )))
            (λ d. omega (arith, get_or-set_other c j i lesser 0 d, t.limited i (omega (arith, length-set c j lesser))));
      }

  pub trimmed_again_for_each_link : length (trimmed_again (region_by n one two marks c) j other) ≡ length one
  unfolding trimmed_again
  trimmed_again_for_each_link = trimmed_for_each_link the_lesser_is_within (look (ends (links one two) n marks))

  -- what is worked out by the terminals, the far site and the sizes with the lesser one among them is given
  pub what_is_given : (terminal : ℕ → ℕ) (far : ℕ) (list : List ℕ) → terminal ≡ look (ends (links one two) n marks)
      → far ≡ far_site (region_by n one two marks c) j → list ≡ set c j lesser
      → (at_terminals (links one two) n (own terminal far) (look (balanced (links one two) n terminal list))
      ≡ (given (region_by n one two marks c) j other).sum)
      × (balanced (links one two) n terminal list ≡ (given (region_by n one two marks c) j other).sizes)
  unfolding given trimmed_again own_sum far_site lone
  what_is_given terminal far list e f g = rw (e, f, g) (refl, refl)

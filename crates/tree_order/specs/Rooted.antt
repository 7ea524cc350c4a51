-- The order toward a root in a tree: an order of all sites from outside inward, which ends at the root; without a root it is the elimination order.
-- Never stuck: were the root the only untaken site with fewer than two links, then without it so would be the site at its one
-- link's other end, and so on until no site is left.
use Rattle.std.specs.Prelude.{◌≡◌, refl, ◌≢◌, length, replicate}
use Rattle.std.proofs.Common.{sym, ap, ap₂, ◌∙◌, inl, inr, arith, get_or-append-add, length-append}
use Rattle.std.proofs.Math.Path.{fun_ext}
use mathlib.Core.List.{List, [], ◌∷◌, ◌++◌, append-nil}
use Prim.Native.Nat.{ℕ, zero, suc, ◌+◌, ◌-◌, ◌*◌, ◌≤◌, ◌<◌}
use Rattle.std.proofs.Math.Nat.{sub-zero}
use Rattle.std.proofs.lemmas.List.{length-replicate}
use Rattle.lists.specs.Numbers.{is, count, look}
use Rattle.model.specs.Flows.{Links, Site, Tree, sites, one, two, at, sum_at}
use Rattle.model.specs.Trimming.{unvisited, first, remove, taken, elimination, Inward, InwardOrder}
use Rattle.lists.specs.Sums.{pick_same, pick_other, is_same, is-other, same?, sum-none, sum-eq}
use Rattle.theory_trees.specs.Trees.{loopless}
use Rattle.lists.specs.Places.{length-upfrom}
use Rattle.theory_trees.specs.Sites.{sites_once, sites-site, sites-single}
use Rattle.theory_trees.specs.Orders.{remove-count, remove-length, first_or_none, never_stuck}
use Rattle.tree_order.specs.Toward.{taken_toward, elimination_toward}
use Rattle.tree_order.specs.Weights.{weigh, weigh-one, weigh-alone, weigh-less, one_link, other-end}

-- ---- lists of sites without one of them

pub removed : (us : List ℕ) (v x : ℕ) → count (remove v us) x ≡ count us x - is v x
unfolding count remove
removed [] v x = omega arith
removed (u ∷ us) v x = same? u v
    (λ e. rw (pick_same e, e) (omega arith))
    (λ d. rw (pick_other d) (same? v x
    (λ e. omega (arith, removed us v x, is-other {u = u} {v = x} (λ z. d (z ∙ sym e))))
    (λ e. omega (arith, removed us v x, is-other e))))

remove-none : (us : List ℕ) (v : ℕ) → count us v ≡ 0 → remove v us ≡ us
unfolding count remove
remove-none [] v e = refl
remove-none (u ∷ us) v e = same? u v
    (λ z. absurd (omega (arith, is_same z)))
    (λ d. rw (pick_other d) (ap (λ r. u ∷ r) (remove-none us v (omega arith))))

member : (us : List ℕ) → 1 ≤ length us → (r : ℕ) × (1 ≤ count us r)
unfolding count
member [] h = absurd (omega arith)
member (r ∷ us) h = (r, omega (arith, is_same {u = r} refl))

-- among more sites than the root there is another
pub another : (us : List ℕ) (root : ℕ) → count us root < length us → (w : ℕ) × (1 ≤ count (remove root us) w)
another us root h = member (remove root us) (same? (count us root) 0
    (λ z. rw (remove-none us root z) (omega arith))
    (λ d. omega (arith, remove-length us root (omega arith))))

-- a site without the root is another site
pub not_root : (us : List ℕ) (root x : ℕ) → count us root ≤ 1 → 1 ≤ count (remove root us) x → (1 ≤ count us x) × (x ≢ root)
not_root us root x single h =
    (omega (arith, removed us root x), λ e. omega (arith, rw e at h, removed us root root, is_same {u = root} refl))

-- ---- the order takes the sites of us as often as they stand there, each over at most one unvisited link

pub record Takes (ls : Links) (us order : List ℕ) : Type 0 where
  pub every : (x : ℕ) → count order x ≡ count us x
  pub inward : Inward ls order

pub takes_next : {ls : Links} {us : List ℕ} {v : ℕ} {vs : List ℕ} → count us v ≡ 1 → sum_at ls v (unvisited ls us) ≤ 1 → Takes ls (remove v us) vs
    → Takes ls us (v ∷ vs)
unfolding count unvisited
takes_next {ls} {us} {v} {vs} here low t =
    let was : (x : ℕ) → count us x ≡ is v x + count (remove v us) x = λ x. remove-count us v x (omega arith) in
    let every : (x : ℕ) → count (v ∷ vs) x ≡ count us x = λ x. omega (arith, t.every x, was x) in
    let same : unvisited ls (v ∷ vs) ≡ unvisited ls us = fun_ext (λ i. ap₂ ◌*◌ (every (one ls i)) (every (two ls i))) in
    record { every = every; inward = (omega (arith, t.every v, was v, is_same {u = v} refl), rw same low, t.inward) }

module _ (ls : Links) (apart : (i : ℕ) → i < length ls → one ls i ≢ two ls i) where
  -- a site has no link to itself
  alone : (v : ℕ) → sum_at ls v (unvisited ls (v ∷ [])) ≡ 0
  unfolding sum_at unvisited count
  alone v = sum-eq (length ls) (λ i. at ls v i * ((is v (one ls i) + 0) * (is v (two ls i) + 0))) (λ i. 0)
      (λ i l. same? v (one ls i)
      (λ e. rw (is-other {u = v} {v = two ls i} (λ z. apart i l (sym e ∙ z))) (omega arith))
      (λ d. rw (is-other d) (omega arith)))
      ∙ sum-none (length ls)

  -- the root alone, or no site
  pub takes_last : (us : List ℕ) (root : ℕ) → ((x : ℕ) → count us x ≤ 1) → length us ≡ count us root → Takes ls us (replicate (count us root) root)
  unfolding count
  takes_last [] root single e = record { every = λ x. refl; inward = tt }
  takes_last (u ∷ []) root single e = same? u root
      (λ z. rw (is_same z, ← z) record { every = λ x. refl; inward = (refl, omega (arith, alone u), tt) })
      (λ d. absurd (omega (arith, is-other d)))
  takes_last (u ∷ w ∷ us) root single e = absurd (omega (arith, single root))

-- ---- in a tree it never gets stuck

module _ {ls : Links} {n : ℕ} (T : Tree ls n) where
  -- a site with one link, and no other with fewer than two: not in a tree
  no_one_end : (k : ℕ) (us : List ℕ) → length us ≡ k → ((x : ℕ) → 1 ≤ count us x → Site n x) → ((x : ℕ) → count us x ≤ 1)
      → (r : ℕ) → count us r ≡ 1 → 1 ≤ sum_at ls r (unvisited ls us) → ((x : ℕ) → 1 ≤ count us x → x ≢ r → 2 ≤ sum_at ls x (unvisited ls us)) → ⊥
  no_one_end zero us e here single r p h high = omega (arith, remove-length us r (omega arith))
  no_one_end (suc k) us e here single r p h high =
      let f = never_stuck T us here single r (omega arith) in
      let rest = remove r us in
      let was : (x : ℕ) → count us x ≡ is r x + count rest x = λ x. remove-count us r x (omega arith) in
      same? (first ls us us) r
      (λ z.
      let low : sum_at ls r (unvisited ls us) ≤ 1 = rw z at f.1 in
      let j = weigh ls us (λ i. i) r in
      let o = one_link ls us r (omega arith) in
      let q = other-end ls us r j o single (loopless T j o.position) in
      let w = one ls j + two ls j - r in
      let less : (x : ℕ) → x ≢ r → sum_at ls x (unvisited ls us) ≡ is w x * 1 + sum_at ls x (unvisited ls rest)
      = λ x d. sym (weigh-one ls us x) ∙ weigh-less ls us rest r p was j o.position o.left o.alone (λ i. 1) x
      ∙ ap₂ (λ a b. a * 1 + b) (q.there x d) (weigh-one ls rest x) in
      no_one_end k rest (omega (arith, remove-length us r (omega arith)))
      (λ x m. here x (omega (arith, was x))) (λ x. omega (arith, was x, single x))
      w (omega (arith, was w, q.untaken, is-other {u = r} {v = w} (λ y. q.other (sym y))))
      (omega (arith, less w q.other, high w (omega (arith, q.untaken)) q.other, is_same {u = w} refl))
      (λ x m d. let t = not_root us r x (single r) m in omega (arith, less x t.1, high x t.0 t.1, is-other {u = w} {v = x} (λ y. d (sym y)))))
      (λ d. omega (arith, high (first ls us us) f.0 d, f.1))

  module _ (us : List ℕ) (here : (x : ℕ) → 1 ≤ count us x → Site n x) (single : (x : ℕ) → count us x ≤ 1) (root : ℕ) where
    -- nor is there one where all sites but the root have two links or more
    no_end : (w : ℕ) → 1 ≤ count (remove root us) w → ((x : ℕ) → 1 ≤ count (remove root us) x → 2 ≤ sum_at ls x (unvisited ls us)) → ⊥
    no_end w p more =
        let rest = remove root us in
        let high : (x : ℕ) → 1 ≤ count us x → x ≢ root → 2 ≤ sum_at ls x (unvisited ls us)
        = λ x m d. more x (omega (arith, removed us root x, is-other {u = root} {v = x} (λ z. d (sym z)))) in
        same? (count us root) 1
        (λ c. same? (sum_at ls root (unvisited ls us)) 0
        (λ z.
        let f = never_stuck T rest (λ x m. here x (omega (arith, removed us root x))) (λ x. omega (arith, removed us root x, single x)) w p in
        let v = first ls rest rest in
        omega (
          arith,
          more v f.0,
          f.1,
          sym (weigh-one ls us v) ∙ weigh-alone ls us rest root c (λ x. remove-count us root x (omega arith)) z (λ i. 1) v ∙ weigh-one ls rest v,
        ))
        (λ z. no_one_end (length us) us refl here single root c (omega arith) high))
        (λ c.
        let f = never_stuck T us here single w (omega (arith, removed us root w)) in
        omega (arith, f.1, high (first ls us us) f.0 (λ z. c (omega (arith, rw z at f.0, single root)))))

    -- while another site than the root is untaken, the first of those that is found has at most one unvisited link
    pub never_stuck_but : (w : ℕ) → 1 ≤ count (remove root us) w
        → (1 ≤ count (remove root us) (first ls us (remove root us))) × (sum_at ls (first ls us (remove root us)) (unvisited ls us) ≤ 1)
    never_stuck_but w p = elim (first_or_none ls us (remove root us)) [
      | inl f ↦ f
      | inr more ↦ absurd (no_end w p more)
    ]

  takes_toward : (root k : ℕ) (us : List ℕ) → length us ≡ k + count us root → ((x : ℕ) → 1 ≤ count us x → Site n x) → ((x : ℕ) → count us x ≤ 1)
      → Takes ls us (taken_toward ls root k us ++ replicate (count us root) root)
  unfolding taken_toward
  takes_toward root zero us e here single = takes_last ls (loopless T) us root single (omega arith)
  takes_toward root (suc k) us e here single =
      let a = another us root (omega arith) in
      let f = never_stuck_but us here single root a.0 a.1 in
      let v = first ls us (remove root us) in
      let o = not_root us root v (single root) f.0 in
      let same : count (remove v us) root ≡ count us root = omega (arith, removed us v root, is-other o.1) in
      takes_next (omega (arith, o.0, single v)) f.1
      (rw same at (takes_toward root k (remove v us) (omega (arith, same, remove-length us v o.0))
      (λ x m. here x (omega (arith, removed us v x))) (λ x. omega (arith, removed us v x, single x))))

  -- the order toward a root takes every site, each over at most one unvisited link
  pub elimination_toward_a_root_is_inward : (root : ℕ) → InwardOrder ls n (elimination_toward ls n root)
  unfolding elimination_toward
  elimination_toward_a_root_is_inward root =
      let t = takes_toward root (n - count (sites n) root) (sites n) (omega (arith, length-upfrom 1 n, sites-single n root, T.big)) (sites-site n)
      (sites-single n) in
      record { inward = t.inward; all = λ x p. omega (arith, t.every x, sites_once n x p) }

-- ---- the root, and how many sites there are, whatever the links

-- the root comes last
pub the_root_is_last : (ls : Links) (n root : ℕ) → Site n root → elimination_toward ls n root ≡ taken_toward ls root (n - 1) (sites n) ++ (root ∷ [])
unfolding elimination_toward
the_root_is_last ls n root p = rw (sites_once n root p) refl

taken-alike : (ls : Links) (root k : ℕ) (us : List ℕ) → count us root ≡ 0 → taken_toward ls root k us ≡ taken ls k us
unfolding taken_toward taken
taken-alike ls root zero us e = refl
taken-alike ls root (suc k) us e =
    rw (remove-none us root e) (ap (λ l. first ls us us ∷ l)
    (taken-alike ls root k (remove (first ls us us) us) (omega (arith, removed us (first ls us us) root))))

-- a root that is no site changes nothing
pub without-a-root : (ls : Links) (n root : ℕ) → (Site n root → ⊥) → elimination_toward ls n root ≡ elimination ls n
unfolding elimination_toward elimination
without-a-root ls n root d =
    let none : count (sites n) root ≡ 0 = same? (count (sites n) root) 0 (λ e. e) (λ e. absurd (d (sites-site n root (omega arith)))) in
    rw (none, sub-zero, append-nil) (taken-alike ls root n (sites n) none)

length_taken_toward : (ls : Links) (root k : ℕ) (us : List ℕ) → length (taken_toward ls root k us) ≡ k
unfolding taken_toward
length_taken_toward ls root zero us = refl
length_taken_toward ls root (suc k) us = ap suc (length_taken_toward ls root k (remove (first ls us (remove root us)) us))

-- so at the last place stands the root
pub ends_at_the_root : (ls : Links) (n root : ℕ) → Site n root → look (elimination_toward ls n root) (n - 1) ≡ root
ends_at_the_root ls n root p =
    let others = taken_toward ls root (n - 1) (sites n) in
    let seam : length others + 0 ≡ n - 1 = omega (arith, length_taken_toward ls root (n - 1) (sites n)) in
    rw (the_root_is_last ls n root p) (ap (look (others ++ (root ∷ []))) (sym seam) ∙ get_or-append-add others (root ∷ []) 0 0)

pub length_elimination_toward : (ls : Links) (n root : ℕ) → 1 ≤ n → length (elimination_toward ls n root) ≡ n
unfolding elimination_toward
length_elimination_toward ls n root h =
    let c = count (sites n) root in
    length-append (taken_toward ls root (n - c) (sites n)) (replicate c root)
    ∙ omega (arith, length_taken_toward ls root (n - c) (sites n), length-replicate c root, sites-single n root)

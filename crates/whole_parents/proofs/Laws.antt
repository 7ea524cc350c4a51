-- What the loops keep: places told so far, children told so far, and parents that are settled or untouched.
use mathlib.Core.Path.{◌≡◌, refl, sym, ap, ◌∙◌}
use mathlib.Core.Logic.{◌≢◌, ◌⊎◌, inl, inr}
use mathlib.Core.List.{List}
use Prim.Native.Nat.{ℕ, ◌+◌, ◌-◌, ◌≤◌, ◌<◌}
use native.Mathlib.Omega.{arith}
use lib.ListN.{length, take, set, replicate}
use lib.Seq.{get_or-take, get_or-set_same, get_or-set_other, length-take-le}
use Rattle.model.specs.Limits.{SITES, SIZE, PLACES}
use Rattle.lists.specs.Numbers.{look, count}
use Rattle.lists.specs.Sums.{same?}
use Rattle.lists.specs.Places.{look-zeros}
use Rattle.model.specs.Flows.{Links, Site, one, two}
use Rattle.model.specs.Trimming.{unvisited}
use Rattle.model.specs.WholeLoads.{from, upward, parent_of, beyond}
use Rattle.theory_trees.specs.Trees.{loopless, at_first, at_second, at-end}
use Rattle.theory_whole.proofs.Links.{from-count}
use Rattle.tree.specs.Offer.{links}
use Rattle.tree.specs.Links.{length-links, links-one, links-two}
use Rattle.whole_parents.specs.Orders.{place_of, place-told, from-later}
use Rattle.whole_parents.specs.Parents.{Single, Ordered, Placed, Earlier, Leads, Children, ParentsOf, the_order_is_inward, the_order_takes_every_site}
use Rattle.whole_parents.specs.Parents.{the_order_takes_no_site_twice}
use Rattle.whole_parents.specs.Leads.{leads_upward, no_child}

-- ---- places

-- the places of the first i sites are told
abbrev pub Told : List ℕ → ℕ → List ℕ → Type 0
Told order i l = (k : ℕ) → k < i → look l (look order k) ≡ k

pub told-next : {n : ℕ} {order : List ℕ} → Single n order → (i : ℕ) → i < n → (l : List ℕ) → length l ≡ PLACES → Told order i l
    → Told order (i + 1) (set l (look order i) i)
told-next {n} {order} s i h l long t k g = same? k i
    (λ e. rw e (get_or-set_same l (look order i) i 0 (omega (arith, s.site i h, s.few))))
    (λ d. get_or-set_other l (look order i) (look order k) i 0 (λ q. d (different q)) ∙ t k (omega arith))
  where
    different : look order k ≡ look order i → k ≡ i
    different q =
        let all = length-take-le n order s.long in
        place-told (take n order) s.once k i (omega arith) (omega arith) (get_or-take n order k 0 (omega arith) ∙ q ∙ sym (get_or-take n order i 0 h))

-- ---- parents that are settled or untouched

-- after the links before link j: of site x, the parent p and the capacity k above it are found, or x is no child of these links
pub record Settled (ls : Links) (us : List ℕ) (c child : ℕ → ℕ) (j x p k : ℕ) : Type 0 where
  pub low : p ≤ SITES
  pub small : k ≤ SIZE
  pub found : ((p ≡ parent_of ls us x) × (k ≡ upward ls us x c)) ⊎ ((p ≡ 0) × (k ≡ 0) × ((i : ℕ) → i < j → child i ≢ x))

abbrev pub Settling : Links → List ℕ → List ℕ → List ℕ → ℕ → List ℕ → List ℕ → Type 0
Settling ls us capacity child j parent above = (x : ℕ) → Settled ls us (look capacity) (look child) j x (look parent x) (look above x)

-- ---- children

module _ {n : ℕ} {order a b : List ℕ} (w : Ordered n order a b) where
  abbrev us : List ℕ
  us = take n order

  abbrev ls : Links
  ls = links a b

  -- the children of the first j links
  abbrev pub ChildrenTo : ℕ → List ℕ → Type 0
  ChildrenTo j child = (k : ℕ) → k < j → Leads ls us k (look child k) × (look child k ≤ SITES)

  -- a site with a lower place stands before
  module _ (place : List ℕ) (told : Placed n order place) where
    seen : (x y : ℕ) → Site n x → Site n y → look place x ≤ look place y → count (from us x) y ≡ 1
    seen x y p q le =
        let s = the_order_takes_no_site_twice w in
        let all = length-take-le n order s.long in
        let i = place_of us x (the_order_takes_every_site w x p) in
        let k = place_of us y (the_order_takes_every_site w y q) in
        let at_place : (i : ℕ) → i < length us → (z : ℕ) → look us i ≡ z → look place z ≡ i =
        λ i h z e. ap (look place) (sym e ∙ get_or-take n order i 0 (omega arith)) ∙ told i (omega arith) in
        let found = from-later us s.once i.0 k.0
        (omega (arith, at_place i.0 i.1 x i.2, at_place k.0 k.1 y k.2)) k.1 x y i.2 k.2 in
        omega (arith, found, from-count us x y, s.once y)

    pub earlier_leads : (j : ℕ) → j < length a → {r : ℕ} → Earlier place (look a j) (look b j) r → Leads ls us j r
    unfolding unvisited
    earlier_leads j h {r} e =
        let k : j < length b = omega (arith, w.tree.firsts, w.tree.seconds) in
        let p = links-one a b j h k in
        let q = links-two a b j h k in
        let s = w.tree.tree.ends j (omega (arith, length-links a b (omega (arith, w.tree.firsts, w.tree.seconds)))) in
        let x : Site n (look a j) = rw p at s.0 in
        let y : Site n (look b j) = rw q at s.1 in
        elim e.which [
          | inl t ↦ rw t.0 record {
            listed = the_order_takes_every_site w (look a j) x;
            here = at_first ls j p;
            later = rw (p, q, seen (look a j) (look a j) x x (omega arith), seen (look a j) (look b j) x y t.1) refl;
          }
          | inr t ↦ rw t.0 record {
            listed = the_order_takes_every_site w (look b j) y;
            here = at_second ls j q;
            later = rw (p, q, seen (look b j) (look a j) y x t.1, seen (look b j) (look b j) y y (omega arith)) refl;
          }
        ]

    -- the children of the first j links are told
    pub children-next : (j : ℕ) → j < length a → {r : ℕ} → Earlier place (look a j) (look b j) r → (child : List ℕ) → length child ≡ SITES
        → ChildrenTo j child → ChildrenTo (j + 1) (set child j r)
    children-next j h {r} e child long t k l = same? k j
        (λ q. rw (q, get_or-set_same child j r 0 (omega (arith, w.tree.firsts, w.tree.few))) (earlier_leads j h e, e.site))
        (λ d. rw (get_or-set_other child j k r 0 d) (t k (omega arith)))

  pub children-all : (child : List ℕ) → ChildrenTo (length a) child → ((k : ℕ) → length a ≤ k → look child k ≡ 0) → Children ls us child
  children-all child t z =
      let m = length-links a b (omega (arith, w.tree.firsts, w.tree.seconds)) in
      record { each = λ j l. t j (omega arith); behind = λ j l. z j (omega arith) }

  -- the sites of a link have places
  pub sites-within : (j : ℕ) → j < length a → (look a j ≤ SITES) × (look b j ≤ SITES)
  sites-within j h =
      let k : j < length b = omega (arith, w.tree.firsts, w.tree.seconds) in
      let s = w.tree.tree.ends j (omega (arith, length-links a b (omega (arith, w.tree.firsts, w.tree.seconds)))) in
      (omega (arith, s.0, links-one a b j h k, w.tree.few), omega (arith, s.1, links-two a b j h k, w.tree.few))

  -- ---- parents

  module _ (capacity child : List ℕ) (told : Children ls us child) where
    -- the other site of link j
    pub record Other (j : ℕ) : Type 0 where
      pub child-low : look child j ≤ SITES
      pub firsts : look a j ≤ SITES
      pub seconds : look b j ≤ SITES
      pub less : look child j ≤ look a j + look b j
      pub low : look a j + look b j - look child j ≤ SITES

    pub other : (j : ℕ) → j < length a → Other j
    other j h =
        let k : j < length b = omega (arith, w.tree.firsts, w.tree.seconds) in
        let t = told.each j (omega (arith, length-links a b (omega (arith, w.tree.firsts, w.tree.seconds)))) in
        let p = links-one a b j h k in
        let q = links-two a b j h k in
        let s = sites-within j h in
        let ends : (look a j ≡ look child j) ⊎ (look b j ≡ look child j) = rw (p, q) at (at-end ls j t.0.here) in
        elim ends [
          | inl e ↦ record { child-low = t.1; firsts = s.0; seconds = s.1; less = omega arith; low = omega (arith, s.1) }
          | inr e ↦ record { child-low = t.1; firsts = s.0; seconds = s.1; less = omega arith; low = omega (arith, s.0) }
        ]

    pub settled_none : Settling ls us capacity child 0 (replicate PLACES 0) (replicate PLACES 0)
    settled_none x =
        let z = look-zeros PLACES x in
        record { low = omega (arith, z); small = omega (arith, z); found = inr (z, z, λ i h. absurd (omega arith)) }

    pub settled_next : (j : ℕ) → j < length a → look capacity j ≤ SIZE → (parent above : List ℕ) → length parent ≡ PLACES → length above ≡ PLACES
        → Settling ls us capacity child j parent above
        → Settling ls us capacity child (j + 1) (set parent (look child j) (look a j + look b j - look child j)) (set above (look child j) (look capacity j))
    unfolding parent_of beyond
    settled_next j h small parent above lp la t x =
        let c = look child j in
        let v = look a j + look b j - c in
        let k : j < length b = omega (arith, w.tree.firsts, w.tree.seconds) in
        let l : j < length ls = omega (arith, length-links a b (omega (arith, w.tree.firsts, w.tree.seconds))) in
        let o = other j h in
        let up = leads_upward ls (loopless w.tree.tree) us (the_order_is_inward w) j c l (told.each j l).0 in
        same? x c
        (λ e. rw (e, get_or-set_same parent c v 0 (omega arith), get_or-set_same above c (look capacity j) 0 (omega arith)) record {
          low = o.low;
          small = small;
          found = inl (sym (up (λ i. one ls i + two ls i - c) ∙ rw (links-one a b j h k, links-two a b j h k) refl), sym (up (look capacity)));
        })
        (λ d. rw (get_or-set_other parent c x v 0 d, get_or-set_other above c x (look capacity j) 0 d) record {
          low = (t x).low;
          small = (t x).small;
          found = elim (t x).found [
            | inl r ↦ inl r
            | inr r ↦ inr (r.0, r.1, λ i m. same? i j (λ q. rw q (λ z. d (sym z))) (λ q. r.2 i (omega arith)))
          ];
        })

    pub settled_all : (parent above : List ℕ) → Settling ls us capacity child (length a) parent above → ParentsOf ls us (look capacity) child parent above
    unfolding parent_of
    settled_all parent above t =
        let m = length-links a b (omega (arith, w.tree.firsts, w.tree.seconds)) in
        let none : (x : ℕ) → ((i : ℕ) → i < length a → look child i ≢ x) → (f : ℕ → ℕ) → upward ls us x f ≡ 0 =
        λ x d. no_child ls (loopless w.tree.tree) us (the_order_is_inward w) (look child) (λ j l. (told.each j l).0) x (λ j l. d j (omega arith)) in
        record {
          children = told;
          parents = λ x. elim (t x).found [ inl r ↦ r.0 | inr r ↦ r.0 ∙ sym (none x r.2 (beyond ls x)) ];
          capacities = λ x. elim (t x).found [ inl r ↦ r.1 | inr r ↦ r.1 ∙ sym (none x r.2 (look capacity)) ];
          low = λ x. (t x).low;
          small = λ x. (t x).small;
        }

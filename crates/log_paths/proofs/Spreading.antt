-- The rows from the root outward: each is made from a row that stays, so at the end the two rows of every link differ in its bit alone; and by `all-agree`
-- the rows are then those of the links between each site and the root.
use mathlib.Core.Path.{◌≡◌, refl, sym, ap, ap₂, ◌∙◌}
use mathlib.Core.Logic.{◌≢◌, inl, inr}
use mathlib.Core.List.{List}
use Prim.Native.Nat.{ℕ, suc, ◌+◌, ◌-◌, ◌*◌, ◌/◌, ◌≤◌, ◌<◌}
use native.Mathlib.Nat.{zero-div}
use native.Mathlib.Omega.{arith}
use lib.ListN.{length, take, drop, replicate, length-drop}
use lib.Seq.{get_or-take, get_or-drop}
use Rattle.model.specs.Limits.{ROWS, SITES, WORDS}
use Rattle.lists.specs.Numbers.{is, differ, look, count}
use Rattle.lists.specs.Sums.{same?, is_same, is-other, is_le, differ_same, differ-other}
use Rattle.lists.specs.Places.{look-zeros}
use Rattle.model.specs.Edition.{largest}
use Rattle.model.specs.Flows.{Links, Site, Tree, one, two, at, side, separates}
use Rattle.model.specs.Trimming.{elimination}
use Rattle.model.specs.WholeLoads.{from, upward, beyond, parent_of}
use Rattle.theory_trees.specs.Trees.{side-link, far-one, loopless, separates-le, separates_comm, separates_self, all_agree, at-end}
use Rattle.theory_trees.specs.TreeTest.{length-elimination}
use Rattle.theory_whole.specs.Links.{Above, above, beyond-not, unvisited-at}
use Rattle.tree.specs.Offer.{links}
use Rattle.tree.specs.Links.{length-links}
use Rattle.tree.specs.Accepted.{TreeWithin}
use Rattle.whole_parents.specs.Orders.{place_of, place-told, from_place}
use Rattle.whole_parents.specs.Parents.{Single, Ordered, Leads, ParentsOf, ordered-within}
use Rattle.whole_parents.specs.Parents.{the_order_is_inward, the_order_takes_every_site, the_order_takes_no_site_twice}
use Rattle.whole_parents.specs.Leads.{leads_upward}
use Rattle.log_paths.specs.Tables.{in_table, Table}
use Rattle.log_paths.specs.Rows.{Extended, LinksUp, Outward, Spread}
use Rattle.log_paths.proofs.Bits.{differ-none, differ-one}

-- ---- the loop

pub spread-start : (n : ℕ) (order parent up : List ℕ) → Spread n order parent up (n - 1) (replicate ROWS 0)
unfolding in_table
spread-start n order parent up = record {
  long = refl;
  from_parent = λ p h l k s. absurd (omega arith);
  empty = λ v k s d. rw (look-zeros ROWS (v * WORDS + k / 64), zero-div) refl;
}

pub spread-next : {n : ℕ} {order parent up rows rows' : List ℕ} (o : Outward n order parent up) (i : ℕ) → suc i < n → Spread n order parent up (suc i) rows
    → Extended (look parent (look order i)) (look order i) (look up (look order i)) rows rows' → Spread n order parent up i rows'
spread-next {n} {order} {parent} {up} {rows} {rows'} o i h s x =
    let here = look order i in
    record {
      long = x.long ∙ s.long;
      from_parent = λ p l m k small. same? p i
          (λ e. rw e (x.new k small
          ∙ ap (λ u. differ u (is k (look up here))) (sym (x.kept (look parent here) k (o.later i i (omega arith) (omega arith)) small))))
          (λ d. let there = look order p in
          x.kept there k (λ z. d (o.once p i (omega arith) (omega arith) z)) small
          ∙ s.from_parent p (omega arith) m k small
          ∙ ap (λ u. differ u (is k (look up there))) (sym (x.kept (look parent there) k (o.later p i l (omega arith)) small)));
      empty = λ v k small d. x.kept v k (λ z. d i (omega arith) h (sym z)) small ∙ s.empty v k small (λ p l m. d p (omega arith) m);
    }

-- ---- a bit set against another

differ_cancel : (u v w : ℕ) → u ≤ 1 → v ≤ 1 → w ≤ 1 → differ (differ u w) (differ v w) ≡ differ u v
differ_cancel u v w p q r = same? w 0
    (λ e. rw (e, differ-none u p, differ-none v q) refl)
    (λ d. let e : w ≡ 1 = omega arith in
    rw (e, differ-one u p, differ-one v q) (same? u v
    (λ z. rw z (differ_same refl ∙ sym (differ_same refl)))
    (λ z. differ-other (λ k. z (omega arith)) ∙ sym (differ-other z))))

differ-zero : (u v : ℕ) → differ u v ≡ 0 → u ≡ v
differ-zero u v e = same? u v (λ z. z) (λ d. absurd (omega (arith, differ-other d)))

-- a bit that is another just where k is i
flipped : (u v k i : ℕ) → u ≤ 1 → v ≤ 1 → (k ≡ i → u + v ≡ 1) → (k ≢ i → u ≡ v) → u ≡ differ v (is k i)
flipped u v k i p q same other = same? k i
    (λ e. let z = same e in rw (is_same e, differ-one v q) (omega arith))
    (λ d. rw (is-other d, differ-none v q) (other d))

-- ---- from one site of a link to the other

module _ {ls : Links} {n : ℕ} (T : Tree ls n) where
  separates-other : (k i r : ℕ) → i < length ls → k ≢ i → separates ls k r (one ls i) ≡ separates ls k r (two ls i)
  unfolding separates
  separates-other k i r l d = ap (differ (side ls k r)) (side-link ls i k l (λ e. d (sym e)))

  separates-own : (i r : ℕ) → i < length ls → Site n r → separates ls i r (one ls i) + separates ls i r (two ls i) ≡ 1
  separates-own i r l p = omega (arith, far-one T i r l p, separates_comm ls i r (one ls i), separates_comm ls i r (two ls i))

  separates_across : (r x i k : ℕ) → Site n r → i < length ls → at ls x i ≡ 1 → separates ls k r x ≡ differ (separates ls k r (beyond ls x i)) (is k i)
  unfolding beyond
  separates_across r x i k site h here =
      let y = beyond ls x i in
      flipped (separates ls k r x) (separates ls k r y) k i (separates-le ls k r x) (separates-le ls k r y)
      (λ e. rw e (elim (at-end ls i here) [
        | inl z ↦ let q : y ≡ two ls i = omega arith in rw (q, ← z) (separates-own i r h site)
        | inr z ↦ let q : y ≡ one ls i = omega arith in rw (q, ← z) (omega (arith, separates-own i r h site))
      ]))
      (λ d. elim (at-end ls i here) [
        | inl z ↦ let q : y ≡ two ls i = omega arith in rw (q, ← z) (separates-other k i r h d)
        | inr z ↦ let q : y ≡ one ls i = omega arith in rw (q, ← z) (sym (separates-other k i r h d))
      ])

-- ---- the order of a tree

module _ {n : ℕ} {a b c : List ℕ} (order : List ℕ) (w : TreeWithin largest n a b c) (e : take n order ≡ elimination (links a b) n) where
  ordered : Ordered n order a b
  ordered = ordered-within w e

  once : Single n order
  once = the_order_takes_no_site_twice ordered

  many : length (links a b) ≡ length a
  many = length-links a b (omega (arith, w.firsts, w.seconds))

  length_order : length (take n order) ≡ n
  length_order = ap length e ∙ length-elimination (links a b) n

  at_place : (i : ℕ) → i < n → look (take n order) i ≡ look order i
  at_place i h = get_or-take n order i 0 h

  up_to : (j x : ℕ) → j < length (links a b) → Leads (links a b) (take n order) j x → (f : ℕ → ℕ) → upward (links a b) (take n order) x f ≡ f j
  up_to = leads_upward (links a b) (loopless w.tree) (take n order) (the_order_is_inward ordered)

  -- two places of the order have different sites
  apart : (i q : ℕ) → i < n → q < n → look order i ≡ look order q → i ≡ q
  apart i q h k z =
      place-told (take n order) once.once i q (omega (arith, length_order)) (omega (arith, length_order)) (at_place i h ∙ z ∙ sym (at_place q k))

  -- a link leads to a later place
  later-place : (j x i : ℕ) → j < length (links a b) → Leads (links a b) (take n order) j x → i < n → look order i ≡ x
      → (q : ℕ) × (i < q) × (q < n) × (look order q ≡ beyond (links a b) x j)
  later-place j x i h l s z =
      let us = take n order in
      let y = beyond (links a b) x j in
      let here : look us i ≡ x = at_place i s ∙ z in
      let rest : from us x ≡ drop i us = rw (← here) (from_place us once.once i (omega (arith, length_order))) in
      let both = sym (unvisited-at (links a b) (loopless w.tree) (from us x) x j l.here) ∙ l.later in
      let there : 1 ≤ count (drop i us) y = rw (← rest) (same? (count (from us x) y) 0 (λ k. absurd (omega (arith, rw k at both))) (λ k. omega arith)) in
      let r = place_of (drop i us) y there in
      let found : look us (i + r.0) ≡ y = sym (get_or-drop i us r.0 0) ∙ r.2 in
      let far : r.0 ≢ 0 = λ k. beyond-not (links a b) (loopless w.tree) x j h l.here (sym found ∙ ap (look us) (omega arith) ∙ here) in
      let inside : i + r.0 < n = omega (arith, r.1, length_order, length-drop i us) in
      (i + r.0, omega arith, inside, sym (at_place (i + r.0) inside) ∙ found)

  module _ {child parent above' : List ℕ} (p : ParentsOf (links a b) (take n order) (look c) child parent above') where
    leads : (j : ℕ) → j < length (links a b) → Leads (links a b) (take n order) j (look child j)
    leads j h = (p.children.each j h).0

    -- no site is the child of two links
    pub children-apart : (i j : ℕ) → i < length a → j < length a → look child i ≡ look child j → i ≡ j
    children-apart i j h k z =
        let h' : i < length (links a b) = omega (arith, many) in
        let k' : j < length (links a b) = omega (arith, many) in
        sym (up_to i (look child i) h' (leads i h') (λ q. q))
        ∙ ap (λ x. upward (links a b) (take n order) x (λ q. q)) z
        ∙ up_to j (look child j) k' (leads j k') (λ q. q)

    pub child-low : (j : ℕ) → j < length a → look child j ≤ SITES
    child-low j h = (p.children.each j (omega (arith, many))).1

    -- the parent of a site is none of those up to it in the order
    parent-later : (i q : ℕ) → q ≤ i → i < n → look parent (look order i) ≢ look order q
    unfolding parent_of
    parent-later i q h s z = by (above (links a b) (loopless w.tree) (take n order) (the_order_is_inward ordered) (look order i) listed)
      where
        listed : 1 ≤ count (take n order) (look order i)
        listed = the_order_takes_every_site ordered (look order i) (once.site i s)

        by : Above (links a b) (loopless w.tree) (take n order) (look order i) → ⊥
        by (Above.none up zeros) = omega (arith, (once.site q (omega arith)).0, p.parents (look order i), up (beyond (links a b) (look order i)))
        by (Above.some j l here later up rest) =
            let r = later-place j (look order i) i l (record { listed = listed; here = here; later = later }) s refl in
            let same : look order r.0 ≡ look order q = r.3 ∙ sym (up (beyond (links a b) (look order i))) ∙ sym (p.parents (look order i)) ∙ z in
            omega (arith, apart r.0 q r.2 (omega arith) same, r.1)

    pub outward_order : {up : List ℕ} → LinksUp (length a) child up → Outward n order parent up
    outward_order u = record {
      some = omega (arith, w.tree.big);
      few = w.few;
      long = once.long;
      site = once.site;
      once = apart;
      low = λ x. (p.low x, omega (arith, u.low x, w.firsts, w.few));
      later = parent-later;
    }

    -- ---- the table

    module _ {up rows : List ℕ} (u : LinksUp (length a) child up) (s : Spread n order parent up 0 rows) where
      in-le : (k x : ℕ) → in_table rows k x ≤ 1
      unfolding in_table
      in-le k x = omega arith

      -- the row of a link's child is that of its parent with the link's bit flipped
      row-of-child : (i k : ℕ) → i < length (links a b) → k < SITES
          → let x = look child i in in_table rows k x ≡ differ (in_table rows k (beyond (links a b) x i)) (is k i)
      unfolding parent_of
      row-of-child i k h small =
          let x = look child i in
          let l = leads i h in
          let r = place_of (take n order) x l.listed in
          let inside : r.0 < n = omega (arith, r.1, length_order) in
          let here : look order r.0 ≡ x = sym (at_place r.0 inside) ∙ r.2 in
          let q = later-place i x r.0 h l inside here in
          let row = s.from_parent r.0 (omega arith) (omega (arith, q.1, q.2)) k small in
          let up_is : look up x ≡ i = u.each i (omega (arith, many)) in
          let parent_is : look parent x ≡ beyond (links a b) x i = p.parents x ∙ up_to i x h l (beyond (links a b) x) in
          rw (here, up_is, parent_is) at row

      -- the rows and the separations from any site r differ alike at the two sites of a link
      alike : (r k i : ℕ) → Site n r → k < SITES → i < length (links a b)
          → let f : ℕ → ℕ = λ x. differ (in_table rows k x) (separates (links a b) k r x) in f (one (links a b) i) ≡ f (two (links a b) i)
      unfolding beyond
      alike r k i site small h =
          let ls = links a b in
          let x = look child i in
          let y = beyond ls x i in
          let f : ℕ → ℕ = λ z. differ (in_table rows k z) (separates ls k r z) in
          let same : f x ≡ f y = ap₂ differ (row-of-child i k h small) (separates_across w.tree r x i k site h (leads i h).here)
          ∙ differ_cancel (in_table rows k y) (separates ls k r y) (is k i) (in-le k y) (separates-le ls k r y) (is_le k i) in
          elim (at-end ls i (leads i h).here) [
            | inl z ↦ ap f z ∙ same ∙ ap f (omega arith)
            | inr z ↦ sym (ap f z ∙ same ∙ ap f (omega arith))
          ]

      pub table : Table (links a b) n rows
      table =
          let ls = links a b in
          let last : n - 1 < n = omega (arith, w.tree.big) in
          let root = look order (n - 1) in
          let bare : (k : ℕ) → k < SITES → in_table rows k root ≡ 0 =
          λ k small. s.empty root k small (λ i l m z. omega (arith, apart i (n - 1) (omega arith) last z)) in
          record {
            few = w.few;
            root = root;
            root-site = once.site (n - 1) last;
            told = λ k v small site. differ-zero (in_table rows k v) (separates ls k root v)
                (all_agree w.tree (λ x. differ (in_table rows k x) (separates ls k root x)) (λ i h. alike root k i (once.site (n - 1) last) small h)
                v root site (once.site (n - 1) last)
                ∙ differ_same (bare k small ∙ sym (separates_self ls k root)));
            others = λ k v small no. s.empty v k small (λ i l m z. no (rw z at (once.site i (omega arith))));
          }

-- Elimination with keys kept up to date: for each untaken site the sum of the shares of its unvisited links.
-- Taking a site v with one unvisited link changes only the key of the site at the link's other end.
use mathlib.Core.Path.{◌≡◌, refl, sym, ap, ◌∙◌}
use mathlib.Core.Logic.{◌≢◌, if_pos, if_neg}
use mathlib.Core.List.{List, [], ◌∷◌}
use Prim.Native.Nat.{ℕ, ◌+◌, ◌-◌, ◌*◌, ◌≤◌, ◌<◌}
use native.Mathlib.Omega.{arith}
use native.Mathlib.Decide.{dec_le}
use native.Mathlib.Nat.{mul-le-mul_right}
use lib.Seq.{get_or-set_same, get_or-set_other}
use lib.ListN.{length, set, length-set}
use Rattle.model.specs.Limits.{LINKS, PLACES, SITES}
use Rattle.lists.specs.Numbers.{pick, is, count, look}
use Rattle.model.specs.Flows.{Links, Site, Tree, one, two, at, sum_at}
use Rattle.model.specs.Trimming.{unvisited, first, remove}
use Rattle.lists.specs.Sums.{pick_same, pick_other, is_same, is-other, same?, sum-mul, sum-le}
use Rattle.theory_trees.specs.Trees.{sum_at_linear}
use Rattle.theory_trees.specs.Sites.{sum_at-same}
use Rattle.theory_trees.specs.Orders.{Ascending, remove_ascending, remove-count}
use Rattle.tree_order.specs.Steps.{share}
use Rattle.tree_order.specs.Weights.{weigh, weigh-alone, weigh-less, OneLink, one_link, OtherEnd, other-end}
use Rattle.tree_order.specs.Rooted.{removed, another, not_root, never_stuck_but}

-- ---- shares weighed

module _ (ls : Links) (us : List ℕ) (x : ℕ) where
  -- the shares tell the number of links and the sum of their positions
  weigh-share : weigh ls us share x ≡ 65536 * sum_at ls x (unvisited ls us) + weigh ls us (λ i. i) x
  unfolding weigh
  weigh-share =
      sum_at-same ls x (λ i. unvisited ls us i * (65536 + i)) (λ i. 65536 * unvisited ls us i + unvisited ls us i * i) (λ i l a. omega arith)
      ∙ sum_at_linear ls x 65536 (unvisited ls us) (λ i. unvisited ls us i * i)

  -- of at most LINKS links
  positions_few : length ls ≤ LINKS → weigh ls us (λ i. i) x ≤ LINKS * sum_at ls x (unvisited ls us)
  unfolding weigh sum_at
  positions_few few = omega (
    arith,
    sum-mul (length ls) LINKS (λ i. at ls x i * unvisited ls us i),
    sum-le (length ls) (λ i. at ls x i * (unvisited ls us i * i)) (λ i. LINKS * (at ls x i * unvisited ls us i))
        (λ i l. let m : i ≤ LINKS = omega arith in omega (arith, mul-le-mul_right (at ls x i * unvisited ls us i) m)),
  )

-- ---- lists

-- a list with less at one place
lowered : (l : List ℕ) (w d x : ℕ) → w < length l → look (set l w (look l w - d)) x ≡ look l x - is w x * d
lowered l w d x h = same? w x
    (λ e. rw (is_same e, ← e) (get_or-set_same l w (look l w - d) 0 h ∙ omega arith))
    (λ e. rw (is-other e) (get_or-set_other l w x (look l w - d) 0 (λ z. e (sym z)) ∙ omega arith))

-- a list with more at two places
pub raised : (l : List ℕ) (a b d x : ℕ) → a < length l → b < length l → a ≢ b
    → let r = set l a (look l a + d) in look (set r b (look r b + d)) x ≡ look l x + pick a x 1 (is b x) * d
raised l a b d x p q apart =
    let r = set l a (look l a + d) in
    let s = look r b + d in
    same? a x
    (λ e. rw (pick_same e, ← e) (get_or-set_other r b a s 0 apart ∙ get_or-set_same l a (look l a + d) 0 p ∙ omega arith))
    (λ f. same? b x
    (λ e. rw (pick_other f, is_same e, ← e)
    (get_or-set_same r b s 0 (omega (arith, length-set l a (look l a + d))) ∙ rw (get_or-set_other l a b (look l a + d) 0 (λ z. apart (sym z))) (omega arith)))
    (λ e. rw (pick_other f, is-other e) (get_or-set_other r b x s 0 (λ z. e (sym z)) ∙ get_or-set_other l a x (look l a + d) 0 (λ z. f (sym z)) ∙ omega arith)))

-- ---- the untaken sites, and the list of keys

-- us are still to be taken; the list holds, for each of them, the sum of the shares of its unvisited links, 131072 more for the root.
-- A site that is taken has the key 131072, so it is not found again.
pub record Untaken (ls : Links) (n root : ℕ) (us keys : List ℕ) : Type 0 where
  pub within : (x : ℕ) → 1 ≤ count us x → Site n x
  pub single : (x : ℕ) → count us x ≤ 1
  pub ascending : Ascending us
  pub few : (n ≤ SITES) × (length ls ≤ LINKS)
  pub places : length keys ≡ PLACES
  pub key : (x : ℕ) → Site n x → look keys x ≡ pick (count us x) 1 (weigh ls us share x + is root x * 131072) 131072

-- the lowest that can be taken is the first that is found
first-is : (ls : Links) (us vs : List ℕ) (v : ℕ) → Ascending vs → 1 ≤ count vs v → sum_at ls v (unvisited ls us) ≤ 1
    → ((x : ℕ) → 1 ≤ count vs x → x < v → 2 ≤ sum_at ls x (unvisited ls us)) → first ls us vs ≡ v
unfolding first count
first-is ls us [] v a p h k = absurd (omega arith)
first-is ls us (u ∷ vs) v a p h k =
    let d = dec_le (sum_at ls u (unvisited ls us)) 1 in
    same? u v
    (λ e. rw (if_pos d (rw e h)) e)
    (λ e. let q : 1 ≤ count vs v = omega (arith, is-other e) in
    let more : 2 ≤ sum_at ls u (unvisited ls us) = k u (omega (arith, is_same {u = u} refl)) (omega (arith, a.0 v q)) in
    rw (if_neg d (λ l. omega arith)) (first-is ls us vs v a.1 q h (λ x r. k x (omega arith))))

module _ {ls : Links} {n root : ℕ} {us keys : List ℕ} (u : Untaken ls n root us keys) where
  untaken_key : (x : ℕ) → count us x ≡ 1 → look keys x ≡ weigh ls us share x + is root x * 131072
  untaken_key x c = u.key x (u.within x (omega arith)) ∙ pick_same c _ _

  -- a site with a key below 131072 is untaken, is not the root, and has at most one unvisited link
  pub low_is_untaken : (v : ℕ) → Site n v → look keys v < 131072 → (count us v ≡ 1) × (v ≢ root) × (sum_at ls v (unvisited ls us) ≤ 1)
  low_is_untaken v p h = same? (count us v) 1
      (λ c. (c, λ z. omega (arith, untaken_key v c, is_same (sym z)), omega (arith, untaken_key v c, weigh-share ls us v)))
      (λ d. absurd (omega (arith, u.key v p ∙ pick_other d (weigh ls us share v + is root v * 131072) 131072)))

  -- any other untaken site than the root has more
  high_has_more : (x : ℕ) → 1 ≤ count us x → x ≢ root → 131072 ≤ look keys x → 2 ≤ sum_at ls x (unvisited ls us)
  high_has_more x p d h = omega (
    arith,
    untaken_key x (omega (arith, u.single x)),
    is-other {u = root} {v = x} (λ z. d (sym z)),
    weigh-share ls us x,
    positions_few ls us x u.few.1,
  )

  pub lowest-is-first : (v : ℕ) → Site n v → look keys v < 131072 → ((x : ℕ) → Site n x → x < v → 131072 ≤ look keys x) → first ls us (remove root us) ≡ v
  lowest-is-first v p h k =
      let o = low_is_untaken v p h in
      first-is ls us (remove root us) v (remove_ascending us root u.ascending)
      (omega (arith, o.0, removed us root v, is-other {u = root} {v = v} (λ z. o.1 (sym z)))) o.2
      (λ x q l. let t = not_root us root x (u.single root) q in high_has_more x t.0 t.1 (k x (u.within x t.0) l))

  -- where every site has a higher key, and some other than the root are untaken, the links are no tree
  pub stuck_is_no_tree : count us root < length us → ((x : ℕ) → Site n x → 131072 ≤ look keys x) → Tree ls n → ⊥
  stuck_is_no_tree some high T =
      let a = another us root some in
      let f = never_stuck_but T us u.within u.single root a.0 a.1 in
      let v = first ls us (remove root us) in
      let t = not_root us root v (u.single root) f.0 in
      omega (arith, high_has_more v t.0 t.1 (high v (u.within v t.0)), f.1)

  -- ---- taking v

  module _ (v : ℕ) (here : count us v ≡ 1) where
    was : (x : ℕ) → count us x ≡ is v x + count (remove v us) x
    was x = remove-count us v x (omega arith)

    -- the keys after it: that of v is 131072, and those of the other untaken sites are right
    taken-off : (after : List ℕ) → length after ≡ PLACES → look after v ≡ 131072
        → ((x : ℕ) → x ≢ v → count us x ≢ 1 → look after x ≡ look keys x)
        → ((x : ℕ) → x ≢ v → count us x ≡ 1 → look after x ≡ weigh ls (remove v us) share x + is root x * 131072)
        → Untaken ls n root (remove v us) after
    taken-off after long gone stay right = record {
      within = λ x h. u.within x (omega (arith, was x));
      single = λ x. omega (arith, was x, u.single x);
      ascending = remove_ascending us v u.ascending;
      few = u.few;
      places = long;
      key = λ x p. same? x v
          (λ e. rw e (gone ∙ sym (pick_other {u = count (remove v us) v} {v = 1} (λ z. omega (arith, was v, is_same {u = v} refl)) _ _)))
          (λ d. let same : count us x ≡ count (remove v us) x = omega (arith, was x, is-other {u = v} {v = x} (λ e. d (sym e))) in
          same? (count us x) 1
          (λ c. right x d c ∙ sym (pick_same (sym same ∙ c) _ _))
          (λ c. stay x d c ∙ u.key x p ∙ pick_other c _ _ ∙ sym (pick_other {u = count (remove v us) x} {v = 1} (λ z. c (same ∙ z)) _ _)));
    }

    -- over no link: nothing else changes
    pub taken-alone : look keys v ≡ 0 → Untaken ls n root (remove v us) (set keys v 131072)
    taken-alone e =
        let p = u.within v (omega arith) in
        let none : sum_at ls v (unvisited ls us) ≡ 0 = omega (arith, untaken_key v here, weigh-share ls us v) in
        taken-off (set keys v 131072)
        (length-set keys v 131072 ∙ u.places)
        (get_or-set_same keys v 131072 0 (omega (arith, u.places, u.few)))
        (λ x d c. get_or-set_other keys v x 131072 0 d)
        (λ x d c. get_or-set_other keys v x 131072 0 d ∙ untaken_key x c
        ∙ ap (λ s. s + is root x * 131072) (weigh-alone ls us (remove v us) v here was none share x))

    -- over the link whose share is its key, to the site at its other end: the key of that site goes down by the share
    module _ (apart : (i : ℕ) → i < length ls → one ls i ≢ two ls i) (some : look keys v ≢ 0) (low : look keys v < 131072) where
      own : (look keys v ≡ weigh ls us share v) × (sum_at ls v (unvisited ls us) ≡ 1)
      own =
          let t = low_is_untaken v (u.within v (omega arith)) low in
          let e : look keys v ≡ weigh ls us share v = omega (arith, untaken_key v here, is-other {u = root} {v = v} (λ z. t.1 (sym z))) in
          (e, omega (arith, e, t.2, weigh-share ls us v, positions_few ls us v u.few.1))

      pub key_is_share : look keys v ≡ 65536 + weigh ls us (λ i. i) v
      key_is_share = omega (arith, own.0, own.1, weigh-share ls us v)

      pub link : OneLink ls us v (look keys v - 65536)
      link = let e : look keys v - 65536 ≡ weigh ls us (λ i. i) v = omega (arith, key_is_share) in rw e (one_link ls us v own.1)

      pub end : OtherEnd ls us v (look keys v - 65536) (one ls (look keys v - 65536) + two ls (look keys v - 65536) - v)
      end = other-end ls us v (look keys v - 65536) link u.single (apart (look keys v - 65536) link.position)

      module _ (w : ℕ) (e : w ≡ one ls (look keys v - 65536) + two ls (look keys v - 65536) - v) where
        less : (x : ℕ) → x ≢ v → weigh ls us share x ≡ is w x * look keys v + weigh ls (remove v us) share x
        less x d =
            let back : 65536 + (look keys v - 65536) ≡ look keys v = omega (arith, key_is_share) in
            weigh-less ls us (remove v us) v here was (look keys v - 65536) link.position link.left link.alone share x
            ∙ rw (end.there x d, ← e, back) refl

        other : w ≢ v
        other = rw e end.other

        untaken : count us w ≡ 1
        untaken = rw e end.untaken

        -- w has the link still
        pub end_has_link : look keys v ≤ look keys w
        end_has_link = omega (arith, rw (is_same {u = w} refl) at (less w other), untaken_key w untaken)

        pub taken-over : let l = set keys v 131072 in Untaken ls n root (remove v us) (set l w (look l w - look keys v))
        taken-over =
            let l = set keys v 131072 in
            let p = u.within v (omega arith) in
            let q = u.within w (omega (arith, untaken)) in
            let long = length-set keys v 131072 ∙ u.places in
            let after : (x : ℕ) → look (set l w (look l w - look keys v)) x ≡ look l x - is w x * look keys v
            = λ x. lowered l w (look keys v) x (omega (arith, long, u.few)) in
            let key : (x : ℕ) → x ≢ v → look (set l w (look l w - look keys v)) x ≡ look keys x - is w x * look keys v
            = λ x d. after x ∙ rw (get_or-set_other keys v x 131072 0 d) refl in
            taken-off (set l w (look l w - look keys v))
            (length-set l w (look l w - look keys v) ∙ long)
            (omega (arith, rw (is-other other) at (after v), get_or-set_same keys v 131072 0 (omega (arith, u.places, u.few))))
            (λ x d c. key x d ∙ rw (is-other {u = w} {v = x} (λ z. c (rw z at untaken))) (omega arith))
            (λ x d c. omega (arith, key x d, less x d, untaken_key x c))

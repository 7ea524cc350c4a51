-- The elimination loop: what is taken so far, what is still to be taken, and the root make up the order toward the root.
-- If the loop takes every other site the order is inward; if it is stuck the links are no tree.
use mathlib.Core.Path.{◌≡◌, refl, sym, ap, ap₂, ◌∙◌}
use mathlib.Core.Logic.{◌≢◌}
use mathlib.Core.Bool.{true, false}
use mathlib.Core.List.{List, [], ◌∷◌, ◌++◌, append_assoc, append-nil}
use Prim.Native.Nat.{ℕ, zero, suc, ◌+◌, ◌-◌, ◌*◌, ◌≤◌, ◌<◌}
use native.Mathlib.Omega.{arith}
use native.Mathlib.Numerals.{add-one}
use native.Mathlib.Nat.{sub-zero}
use lib.Seq.{set_at, drop-cons}
use lib.ListN.{length, set, drop, replicate, length-append, length-set, length-replicate}
use Rattle.model.specs.Limits.{SITES}
use Rattle.lists.specs.Numbers.{is, count, look}
use Rattle.model.specs.Flows.{Links, Site, Ends, sites, one, two, sum_at}
use Rattle.model.specs.Trimming.{unvisited, first, remove, InwardOrder}
use Rattle.lists.specs.Sums.{pick_same, is-other, same?, contradiction}
use Rattle.lists.specs.Places.{length-upfrom}
use Rattle.theory_trees.specs.Sites.{sites_once, sites-site, sites-single, sum_at-same}
use Rattle.theory_trees.specs.Orders.{remove-length, upfrom_ascending}
use Rattle.theory_trees.specs.TreeTest.{an_inward_order_makes_a_tree}
use Rattle.tree_order.specs.Links.{links, length-links, links-one, links-two}
use Rattle.tree_order.specs.Toward.{taken_toward, elimination_toward, order_in}
use Rattle.tree_order.specs.Steps.{Proper, Counted, share, far_end, Over, Ready, Took, Eliminated}
use Rattle.tree_order.specs.Weights.{weigh}
use Rattle.tree_order.specs.Rooted.{removed, Takes, takes_next, takes_last, length_elimination_toward}
use Rattle.tree_order.proofs.Untaken.{Untaken, low_is_untaken, lowest-is-first, stuck_is_no_tree, key_is_share, link, end, end_has_link, taken-alone}
use Rattle.tree_order.proofs.Untaken.{taken-over}

-- ---- the places of the order

-- m places with the root at the last of n
abbrev pub ending : ℕ → ℕ → ℕ → List ℕ
ending m n root = set (replicate m 0) (n - 1) root

-- from there on, and past it
from_last : (m k root : ℕ) → k < m → drop k (set (replicate m 0) k root) ≡ root ∷ replicate (m - suc k) 0
from_last zero k root h = absurd (omega arith)
from_last (suc m) zero root h = let e : suc m - 1 ≡ m = omega arith in rw e refl
from_last (suc m) (suc k) root h = let e : suc m - suc (suc k) ≡ m - suc k = omega arith in rw e (from_last m k root (omega arith))

past_last : (m k root : ℕ) → k < m → drop (suc k) (set (replicate m 0) k root) ≡ replicate (m - suc k) 0
past_last zero k root h = absurd (omega arith)
past_last (suc m) zero root h = let e : suc m - 1 ≡ m = omega arith in rw e refl
past_last (suc m) (suc k) root h = let e : suc m - suc (suc k) ≡ m - suc k = omega arith in rw e (past_last m k root (omega arith))

ending-rest : (m n root : ℕ) → 1 ≤ n → n ≤ m → root ≤ n
    → drop (n - count (sites n) root) (ending m n root) ≡ replicate (count (sites n) root) root ++ replicate (m - n) 0
ending-rest m n root big few some =
    let last : n ≡ suc (n - 1) = omega arith in
    same? (count (sites n) root) 0
    (λ z. rw (z, sub-zero) (rw (← last) at (past_last m (n - 1) root (omega arith))))
    (λ d. let c : count (sites n) root ≡ 1 = omega (arith, sites-single n root) in
    rw c (rw (← last) at (from_last m (n - 1) root (omega arith))))

-- ---- the loop

-- i sites are taken, at the first of m places; us are still to be taken, the root among them, if it is a site
pub record Going (ls : Links) (n root m i : ℕ) (order keys : List ℕ) : Type 0 where
  pub us : List ℕ
  pub untaken : Untaken ls n root us keys
  pub long : length us ≡ n - i
  pub kept : count us root ≡ count (sites n) root
  pub before : List ℕ
  pub passed : length before ≡ i
  pub places : order ≡ before ++ drop i (ending m n root)
  pub done : before ++ taken_toward ls root (n - count (sites n) root - i) us ≡ taken_toward ls root (n - count (sites n) root) (sites n)
  pub inward : Takes ls us (taken_toward ls root (n - count (sites n) root - i) us ++ replicate (count (sites n) root) root)
      → Takes ls (sites n) (elimination_toward ls n root)

module _ {ls : Links} {n root m i : ℕ} {order keys : List ℕ} (g : Going ls n root m i order keys) where
  -- one site more
  pub going_next : {after : List ℕ} (v : ℕ) → i < n - count (sites n) root → i < m → first ls g.us (remove root g.us) ≡ v
      → (count g.us v ≡ 1) × (v ≢ root) × (sum_at ls v (unvisited ls g.us) ≤ 1)
      → Untaken ls n root (remove v g.us) after → Going ls n root m (i + 1) (set order i v) after
  unfolding taken_toward
  going_next v h k e low next =
      let t = n - count (sites n) root in
      let rest : t - i ≡ suc (t - (i + 1)) = omega arith in
      let step : taken_toward ls root (t - i) g.us ≡ v ∷ taken_toward ls root (t - (i + 1)) (remove v g.us) = rw (rest, e) refl in
      let room : i < length (ending m n root) = omega (arith, length-set (replicate m 0) (n - 1) root, length-replicate {A = ℕ} m 0) in
      record {
        us = remove v g.us;
        untaken = next;
        long = omega (arith, remove-length g.us v (omega (arith, low.0)), g.long);
        kept = omega (arith, removed g.us v root, is-other low.1, g.kept);
        before = g.before ++ (v ∷ []);
        passed = length-append g.before (v ∷ []) ∙ omega (arith, g.passed);
        places = ap (λ l. set l i v) (g.places ∙ ap (λ l. g.before ++ l) (drop-cons (ending m n root) i 0 room))
            ∙ set_at g.before (look (ending m n root) i) (drop (suc i) (ending m n root)) v i g.passed
            ∙ sym (append_assoc g.before (v ∷ []) (drop (suc i) (ending m n root))) ∙ rw add-one refl;
        done = append_assoc g.before (v ∷ []) (taken_toward ls root (t - (i + 1)) (remove v g.us)) ∙ ap (λ l. g.before ++ l) (sym step) ∙ g.done;
        inward = λ q. g.inward (rw step (takes_next low.0 low.2 q));
      }

  -- all others are taken
  pub going_end : i ≡ n - count (sites n) root → 1 ≤ n → n ≤ m → root ≤ n → ((i : ℕ) → i < length ls → one ls i ≢ two ls i)
      → (order ≡ elimination_toward ls n root ++ replicate (m - n) 0) × InwardOrder ls n (elimination_toward ls n root)
  unfolding taken_toward elimination_toward
  going_end e big few some apart =
      let c = count (sites n) root in
      let none : n - c - i ≡ 0 = omega arith in
      let all : g.before ≡ taken_toward ls root (n - c) (sites n) = sym (append-nil g.before) ∙ (rw none at g.done) in
      let last = takes_last ls apart g.us root g.untaken.single (omega (arith, g.long, g.kept, sites-single n root)) in
      let t = (rw none at g.inward) (rw g.kept at last) in (
        g.places ∙ rw (all, e, ending-rest m n root big few some)
            (sym (append_assoc (taken_toward ls root (n - c) (sites n)) (replicate c root) (replicate (m - n) 0))),
        record { inward = t.inward; all = λ x p. omega (arith, t.every x, sites_once n x p) },
      )

-- ---- the start

weigh-sites : (ls : Links) (n : ℕ) → Ends ls n → (h : ℕ → ℕ) (x : ℕ) → weigh ls (sites n) h x ≡ sum_at ls x h
unfolding weigh unvisited
weigh-sites ls n ends h x = sum_at-same ls x (λ i. count (sites n) (one ls i) * count (sites n) (two ls i) * h i) h
    (λ i l a. rw (sites_once n (one ls i) (ends i l).0, sites_once n (two ls i) (ends i l).1) (omega arith))

-- ---- over links that are offered as two lists

module _ {n : ℕ} {a b : List ℕ} (p : Proper n a b) where
  proper_length : length (links a b) ≡ length a
  proper_length = length-links a b (omega arith)

  ends : Ends (links a b) n
  ends j l =
      let h : j < length a = omega (arith, proper_length) in
      rw (links-one a b j h (omega arith), links-two a b j h (omega arith)) (let k = p.links j h in (k.0, k.1))

  apart : (j : ℕ) → j < length (links a b) → one (links a b) j ≢ two (links a b) j
  apart j l =
      let h : j < length a = omega (arith, proper_length) in
      rw (links-one a b j h (omega arith), links-two a b j h (omega arith)) (p.links j h).2

  -- no site is taken
  pub going_start : {root : ℕ} {keys : List ℕ} → Counted a b root keys → Going (links a b) n root SITES 0 (ending SITES n root) keys
  unfolding elimination_toward
  going_start {root} {keys} k = record {
    us = sites n;
    untaken = record {
      within = sites-site n;
      single = sites-single n;
      ascending = upfrom_ascending 1 n;
      few = (p.few, omega (arith, proper_length));
      places = k.places;
      key = λ x s. k.key x ∙ ap (λ w. w + is root x * 131072) (sym (weigh-sites (links a b) n ends share x)) ∙ sym (pick_same (sites_once n x s) _ _);
    };
    long = omega (arith, length-upfrom 1 n);
    kept = refl;
    before = [];
    passed = refl;
    places = refl;
    done = rw sub-zero refl;
    inward = λ t. rw sub-zero at t;
  }

  module _ {root i : ℕ} {order keys : List ℕ} (g : Going (links a b) n root SITES i order keys) where
    module _ (v : ℕ) (s : Site n v) (low : look keys v < 131072) where
      taking : (count g.us v ≡ 1) × (v ≢ root) × (sum_at (links a b) v (unvisited (links a b) g.us) ≤ 1)
      taking = low_is_untaken g.untaken v s low

      module _ (some : look keys v ≢ 0) where
        position : look keys v - 65536 < length a
        position = omega (arith, (link g.untaken v taking.0 apart some low).position, proper_length)

        far-end : one (links a b) (look keys v - 65536) + two (links a b) (look keys v - 65536) - v ≡ far_end a b (look keys v) v
        far-end = ap₂ (λ x y. x + y - v) (links-one a b (look keys v - 65536) position (omega (arith, position)))
            (links-two a b (look keys v - 65536) position (omega (arith, position)))

        pub over : Over n a b keys v
        over =
            let u = g.untaken in
            let j = look keys v - 65536 in
            let o = end u v taking.0 apart some low in
            let k = p.links j position in
            record {
              share = omega (arith, key_is_share u v taking.0 apart some low);
              position = (position, omega (arith, position));
              ends = (k.0, k.1);
              enough = omega (arith, o.ends, links-one a b j position (omega (arith, position)), links-two a b j position (omega (arith, position)));
              end = rw far-end at (u.within (one (links a b) j + two (links a b) j - v) (omega (arith, o.untaken)));
              other = rw far-end at o.other;
              less = rw far-end at (end_has_link u v taking.0 apart some low (one (links a b) j + two (links a b) j - v) refl);
            }

      pub ready : Ready a b keys v
      ready = record { n = n; few = p.few; site = s; places = g.untaken.places; over = over }

      -- a turn of the loop
      pub next : {w : ℕ} {after : List ℕ} → i < n - count (sites n) root → ((x : ℕ) → Site n x → x < v → 131072 ≤ look keys x)
          → Took a b keys v w after → Going (links a b) n root SITES (i + 1) (set order i v) after
      next {w} {after} h below t =
          let u = g.untaken in
          let more : (after : List ℕ) → Untaken (links a b) n root (remove v g.us) after → Going (links a b) n root SITES (i + 1) (set order i v) after
          = λ after. going_next g v h (omega (arith, p.few)) (lowest-is-first u v s low below) taking in
          same? (look keys v) 0
          (λ e. rw (t.alone e).1 (more _ (taken-alone u v taking.0 e)))
          (λ d. rw (t.over d).1 (more _ (taken-over u v taking.0 apart d low w ((t.over d).0 ∙ sym (far-end d)))))

    -- ---- the answers

    pub all-taken : root ≤ n → i ≡ n - count (sites n) root → Eliminated n a b root order true
    unfolding order_in
    all-taken some e =
        let r = going_end g e (omega (arith, p.big)) p.few some apart in
        record {
          tree = λ _. an_inward_order_makes_a_tree (links a b) apart p.big ends (omega (arith, proper_length)) (elimination_toward (links a b) n root)
              (length_elimination_toward (links a b) n root (omega (arith, p.big))) r.1;
          order = λ _. r.0;
          none = λ z. contradiction cc;
        }

    pub none_found : i < n - count (sites n) root → ((x : ℕ) → Site n x → 131072 ≤ look keys x) → Eliminated n a b root order false
    none_found h high = record {
      tree = λ z. contradiction cc;
      order = λ z. contradiction cc;
      none = λ _. stuck_is_no_tree g.untaken (omega (arith, g.long, g.kept)) high;
    }

-- No end sets do better than a plan: the total of a plan in whole circuits and the odd pieces of any end sets together are at most the set sizes
-- (004, theorem 2). By parity: a route crosses the border of each set that holds just one of its ends, and the loads of the links that leave a piece sum to an
-- even number, so that an odd piece leaves a part of their capacities unused.
use Rattle.std.specs.Prelude.{◌≡◌, ◌≢◌}
use Rattle.std.proofs.Math.Path.{refl, sym, ap, ap₂}
use Rattle.std.proofs.Common.{◌∙◌, inl, inr}
use mathlib.Core.List.{List, [], ◌∷◌}
use Prim.Native.Nat.{ℕ, ◌+◌, ◌-◌, ◌*◌, ◌%◌, ◌≤◌, ◌<◌}
use native.Mathlib.Omega.{arith}
use Rattle.std.proofs.Math.Nat.{mul-le-mul_left, mul-le-mul_right}
use Rattle.std.proofs.Math.ListN.{length}
use Rattle.lists.specs.Numbers.{is, differ, sum, count, over}
use Rattle.lists.specs.Sums.{is_same, is-other, is_one, is_le, same?, differ_same, differ-other, sum-add, sum-mul, sum-eq, sum-le, sum-single}
use Rattle.lists.specs.Places.{over_add, over-eq, over-le, over-is}
use Rattle.model.specs.Flows.{Links, Site, Tree, Route, Multiflow, sites, one, two, sum_at, side, separates, load, total}
use Rattle.model.specs.Whole.{WholeLoads, EndSets, set_size, piece, in_piece, leaving_piece, set_sizes, odd_pieces}
use Rattle.model.specs.declared.Pair.{Pair}
use Rattle.theory_trees.specs.Trees.{all_agree, side-link, separates_self, far-one}
use Rattle.theory_trees.specs.Sites.{sites_once, sites-site, sites-single, by_link}
use Rattle.theory_whole.specs.Sums.{over_none, over_even, over_ge, over-two, over-links, sum_even, sum-zero}
use Rattle.theory_whole.specs.Connected.{connects-one, piece-linked}

-- ---- tests

-- of three numbers 0 or 1 an even number of pairs differ
differ_even : (a b r : ℕ) → a ≤ 1 → b ≤ 1 → r ≤ 1 → (differ a r + differ b r + differ a b) % 2 ≡ 0
differ_even a b r p q s = same? a b
    (λ e. rw (e, differ_same {u = b} refl) (omega arith))
    (λ d. same? a r
    (λ e. omega (arith, differ_same e, differ-other d, differ-other {u = b} {v = r} (λ z. d (e ∙ sym z))))
    (λ k. let z : b ≡ r = omega arith in omega (arith, differ-other d, differ-other k, differ_same z)))

-- a number at two sites, and once more if it stands at one of them only
border_even : (a b x : ℕ) → a ≤ 1 → b ≤ 1 → (a * x + b * x + differ a b * x) % 2 ≡ 0
border_even a b x p q = same? a b
    (λ e. rw (e, differ_same {u = b} refl) (omega arith))
    (λ d. let o : a + b ≡ 1 = omega arith in rw (differ-other d) (omega (arith, ap (λ z. z * x) o)))

is_product : (a b : ℕ) → a ≤ 1 → b ≤ 1 → a * b ≤ 1
is_product a b p q = omega (arith, mul-le-mul_left a q)

differ-sum : (a b : ℕ) → differ a b ≤ a + b
differ-sum a b = same? a b (λ e. omega (arith, differ_same e)) (λ d. omega (arith, differ-other d))

-- the lesser of two numbers takes the greater of two others
slack : (m d x c : ℕ) → x ≤ c → (m + d) * x + m * c ≤ (m + d) * c + m * x
slack m d x c l = omega (arith, mul-le-mul_left d l)

-- ---- crossing a border

module _ {ls : Links} {n : ℕ} (T : Tree ls n) (f : ℕ → ℕ) (small : (x : ℕ) → f x ≤ 1) (s : ℕ) (home : Site n s) where
  abbrev border : ℕ → ℕ
  border j = differ (f (one ls j)) (f (two ls j))

  -- the links between x and s at whose two sites f differs
  crossings : ℕ → ℕ
  crossings x = sum (length ls) (λ j. border j * separates ls j x s)

  -- along a link they change by one if f does
  crossings_link : (i : ℕ) → i < length ls → (crossings (one ls i) + crossings (two ls i) + border i) % 2 ≡ 0
  unfolding crossings separates
  crossings_link i l =
      let m = length ls in
      let a : ℕ → ℕ = λ j. border j * separates ls j (one ls i) s in
      let b : ℕ → ℕ = λ j. border j * separates ls j (two ls i) s in
      let own : ℕ → ℕ = λ j. is j i * border j in
      omega (
        arith,
        sum_even m (λ j. a j + b j + own j) (λ j k. same? j i
            (λ e. rw (e, is_same {u = i} refl) (omega (arith, ap (λ z. border i * z) (far-one T i s l home))))
            (λ d. rw (is-other d, ap (λ z. differ z (side ls j s)) (side-link ls i j l (λ e. d (sym e)))) (omega arith))),
        sum-add m (λ j. a j + b j) own,
        sum-add m a b,
        sum-single m i own l (λ j k d. rw (is-other d) (omega arith)),
        ap (λ z. z * border i) (is_same {u = i} refl),
      )

  -- from x to s f changes an odd number of times if it differs there
  crossings_even : (x : ℕ) → Site n x → (crossings x + differ (f x) (f s)) % 2 ≡ 0
  crossings_even x p =
      all_agree T (λ y. (crossings y + differ (f y) (f s)) % 2) (λ i l. omega (
        arith,
        crossings_link i l,
        differ_even (f (one ls i)) (f (two ls i)) (f s) (small (one ls i)) (small (two ls i)) (small s),
      )) x s p home
      ∙ omega (arith, none, differ_same {u = f s} refl)
    where
      none : crossings s ≡ 0
      none = unfold crossings in sum-zero (length ls) (λ j. border j * separates ls j s s) (λ j l. rw (separates_self ls j s) (omega arith))

  crosses : (x : ℕ) → Site n x → f x ≢ f s → 1 ≤ sum (length ls) (λ j. border j * separates ls j x s)
  unfolding crossings
  crosses x p d = omega (arith, crossings_even x p, differ-other d)

-- ---- set sizes, link by link

module _ {ls : Links} {n : ℕ} (T : Tree ls n) (terminal owner : ℕ → ℕ) (E : EndSets n terminal owner) where
  -- how many sets have just one of the sites x and y
  sets : ℕ → ℕ → ℕ
  sets x y = over (sites n) (λ a. is (terminal a) 1 * differ (is (owner x) a) (is (owner y) a))

  sizes_by_link : (g : ℕ → ℕ) → set_sizes ls n terminal g owner ≡ sum (length ls) (λ j. sets (one ls j) (two ls j) * g j)
  unfolding sets set_sizes set_size
  sizes_by_link g = over-links (sites n) (length ls) (λ a. is (terminal a) 1) (λ a j. differ (is (owner (one ls j)) a) (is (owner (two ls j)) a)) g

  here : {x : ℕ} → Site n x → 1 ≤ count (sites n) x
  here {x} p = omega (arith, sites_once n x p)

  -- a route crosses the borders of the sets of its two ends
  route_crosses : (e : Pair) → Route ls n terminal e → 2 ≤ set_sizes ls n terminal (λ j. separates ls j e.first e.second) owner
  unfolding set_sizes set_size
  route_crosses e r =
      let s = e.first in
      let t = e.second in
      let size : ℕ → ℕ = λ a. sum (length ls) (λ j. differ (is (owner (one ls j)) a) (is (owner (two ls j)) a) * separates ls j s t) in
      let os = E.own s r.first-site r.first-terminal in
      let ot = E.own t r.second-site r.second-terminal in
      let apart : (a : ℕ) → is s a ≢ is t a → 1 ≤ size a
      = λ a d. crosses T (λ x. is (owner x) a) (λ x. is_le (owner x) a) t r.second-site s r.first-site (rw (os, ot) d) in
      let ds : is s s ≢ is t s = λ z. omega (arith, is_same {u = s} refl, is-other {u = t} {v = s} (λ q. r.different (sym q))) in
      let dt : is s t ≢ is t t = λ z. omega (arith, is_same {u = t} refl, is-other r.different) in
      omega (
        arith,
        over-two (sites n) (λ a. is (terminal a) 1 * size a) s t (here r.first-site) (here r.second-site) r.different,
        ap (λ z. z * size s) (is_same r.first-terminal),
        ap (λ z. z * size t) (is_same r.second-terminal),
        apart s ds,
        apart t dt,
      )

  -- the set sizes by the loads of a plan are at least twice its total
  pub total_crosses : (es : List Pair) → Multiflow ls n terminal es → 2 * total es ≤ set_sizes ls n terminal (load ls es) owner
  unfolding total load
  total_crosses [] h = omega arith
  total_crosses (e ∷ es) h =
      let m : ℕ → ℕ = λ j. sets (one ls j) (two ls j) in
      let k = e.amount in
      let g : ℕ → ℕ = λ j. separates ls j e.first e.second in
      omega (
        arith,
        total_crosses es h.1,
        mul-le-mul_left k (route_crosses e h.0),
        ap (λ z. k * z) (sizes_by_link g),
        sizes_by_link (load ls es),
        sizes_by_link (λ j. k * g j + load ls es j),
        sum-mul (length ls) k (λ j. m j * g j),
        sum-add (length ls) (λ j. k * (m j * g j)) (λ j. m j * load ls es j),
        sum-eq (length ls) (λ j. m j * (k * g j + load ls es j)) (λ j. k * (m j * g j) + m j * load ls es j) (λ j l. omega arith),
      )

  -- two sites that are not both in one set, or both in none, have the border of a set between them
  sets_apart : (x y : ℕ) → Site n x → Site n y → owner x ≢ owner y → 1 ≤ sets x y
  sets_apart x y p q d = elim (E.owned x p) [
    | inl e ↦ elim (E.owned y q) [ inl z ↦ absurd (d (e ∙ sym z)) | inr r ↦ met (owner y) r.0 r.1 (λ z. d (is_one (z ∙ is_same refl))) ]
    | inr r ↦ met (owner x) r.0 r.1 (λ z. d (sym (is_one (sym z ∙ is_same refl))))
  ]
    where
      met : (a : ℕ) → Site n a → terminal a ≡ 1 → is (owner x) a ≢ is (owner y) a → 1 ≤ sets x y
      met a s m k = unfold sets in omega (
        arith,
        over_ge (sites n) (λ a. is (terminal a) 1 * differ (is (owner x) a) (is (owner y) a)) a (here s),
        ap₂ (λ u w. u * w) (is_same m) (differ-other k),
      )

  -- ---- pieces

  module _ (c : ℕ → ℕ) where
    abbrev inside : ℕ → ℕ → ℕ
    inside p x = in_piece ls c owner p x

    -- of the links that leave the piece p, the sum of g
    abbrev leaves : ℕ → (ℕ → ℕ) → ℕ
    leaves p g = sum (length ls) (λ j. differ (inside p (one ls j)) (inside p (two ls j)) * g j)

    inside-le : (p x : ℕ) → inside p x ≤ is p (piece ls c owner x)
    unfolding in_piece
    inside-le p x = same? p (piece ls c owner x)
        (λ e. rw (is_same e) (omega (arith, is_product (is (owner x) 0) (is (piece ls c owner x) p) (is_le (owner x) 0) (is_le (piece ls c owner x) p))))
        (λ d. rw (is-other {u = piece ls c owner x} {v = p} (λ z. d (sym z))) (omega arith))

    inside-small : (p x : ℕ) → inside p x ≤ 1
    inside-small p x = omega (arith, inside-le p x, is_le p (piece ls c owner x))

    inside-owned : (p x : ℕ) → owner x ≢ 0 → inside p x ≡ 0
    unfolding in_piece
    inside-owned p x d = rw (is-other d) (omega arith)

    -- how many pieces have just one of the sites x and y
    pieces : ℕ → ℕ → ℕ
    pieces x y = over (sites n) (λ p. inside p p * differ (inside p x) (inside p y))

    pieces-same : (x y : ℕ) → ((p : ℕ) → inside p x ≡ inside p y) → pieces x y ≡ 0
    unfolding pieces
    pieces-same x y h =
        over-eq (sites n) (λ p. inside p p * differ (inside p x) (inside p y)) (λ p. 0) (λ p q. rw (differ_same (h p)) (omega arith)) ∙ over_none (sites n)

    -- at most one, if that is always the piece of z
    pieces-one : (x y z : ℕ) → ((p : ℕ) → differ (inside p x) (inside p y) ≤ inside p z) → pieces x y ≤ 1
    unfolding pieces
    pieces-one x y z h = omega (
      arith,
      sites-single n (piece ls c owner z),
      over-is (sites n) (piece ls c owner z) (λ p. 1),
      over-le (sites n) (λ p. inside p p * differ (inside p x) (inside p y)) (λ p. is p (piece ls c owner z) * 1)
          (λ p q. omega (arith, mul-le-mul_right (differ (inside p x) (inside p y)) (inside-small p p), h p, inside-le p z)),
    )

    -- a link of positive capacity leaves no more pieces than sets
    pieces-sets : (j : ℕ) → j < length ls → c j ≢ 0 → pieces (one ls j) (two ls j) ≤ sets (one ls j) (two ls j)
    unfolding in_piece
    pieces-sets j l d =
        let x = one ls j in
        let y = two ls j in
        same? (owner x) (owner y)
        (λ e. let z = pieces-same x y (λ p. same? (owner x) 0
        (λ o. ap₂ (λ a b. is a 0 * is b p) e (piece-linked ls c owner j l (connects-one ls c owner j o (sym e ∙ o) d)))
        (λ o. inside-owned p x o ∙ sym (inside-owned p y (λ q. o (e ∙ q))))) in omega arith)
        (λ k. let s = sets_apart x y (T.ends j l).0 (T.ends j l).1 k in same? (owner x) 0
        (λ o. omega (arith, pieces-one x y x (λ p. omega (arith, differ-sum (inside p x) (inside p y), inside-owned p y (λ q. k (o ∙ sym q))))))
        (λ o. omega (arith, pieces-one x y y (λ p. omega (arith, differ-sum (inside p x) (inside p y), inside-owned p x o)))))

    module _ {l : ℕ → ℕ} (w : WholeLoads ls n terminal c l) where
      -- what leaves a piece sums to an even number: its sites are inner, and within it each load counts twice
      leaving-even : (p : ℕ) → leaves p l % 2 ≡ 0
      leaving-even p =
          let m = length ls in
          let both : ℕ → ℕ = λ j. inside p (one ls j) * l j + inside p (two ls j) * l j in
          let out : ℕ → ℕ = λ j. differ (inside p (one ls j)) (inside p (two ls j)) * l j in
          omega (
            arith,
            by_link T (inside p) (λ x i. l i),
            over_even (sites n) (λ v. inside p v * sum_at ls v l) (λ v q. inner v (sites-site n v q)),
            sum_even m (λ j. both j + out j)
                (λ j k. border_even (inside p (one ls j)) (inside p (two ls j)) (l j) (inside-small p (one ls j)) (inside-small p (two ls j))),
            sum-add m both out,
          )
        where
          inner : (v : ℕ) → Site n v → (inside p v * sum_at ls v l) % 2 ≡ 0
          inner v s = same? (owner v) 0
              (λ o. let e = w.even v s (λ m. omega (arith, E.own v s m)) in omega (arith, ap (λ z. inside p v * z) e.1))
              (λ o. rw (inside-owned p v o) (omega arith))

      -- so an odd piece leaves capacity unused
      room : (p : ℕ) → leaves p l + leaves p c % 2 ≤ leaves p c
      room p =
          let d : ℕ → ℕ = λ j. differ (inside p (one ls j)) (inside p (two ls j)) in
          omega (arith, leaving-even p, sum-le (length ls) (λ j. d j * l j) (λ j. d j * c j) (λ j k. mul-le-mul_left (d j) (w.below j k)))

      -- the set sizes by the loads, and the odd pieces, are at most the set sizes
      pub sizes-have-room : set_sizes ls n terminal l owner + odd_pieces ls n c owner ≤ set_sizes ls n terminal c owner
      unfolding odd_pieces leaving_piece pieces
      sizes-have-room =
          let m = length ls in
          let S : ℕ → ℕ = λ j. sets (one ls j) (two ls j) in
          let P : ℕ → ℕ = λ j. pieces (one ls j) (two ls j) in
          let d : ℕ → ℕ → ℕ = λ p j. differ (inside p (one ls j)) (inside p (two ls j)) in
          let each : (j : ℕ) → j < m → S j * l j + P j * c j ≤ S j * c j + P j * l j
          = λ j k. same? (c j) 0
          (λ z. let y : l j ≡ 0 = omega (arith, w.below j k) in rw (z, y) (omega arith))
          (λ n. let e : P j + (S j - P j) ≡ S j = omega (arith, pieces-sets j k n) in rw e at (slack (P j) (S j - P j) (l j) (c j) (w.below j k))) in
          omega (
            arith,
            sizes_by_link l,
            sizes_by_link c,
            over-links (sites n) m (λ p. inside p p) d l,
            over-links (sites n) m (λ p. inside p p) d c,
            over_add (sites n) (λ p. inside p p * leaves p l) (λ p. inside p p * (leaves p c % 2)),
            over-le (sites n) (λ p. inside p p * leaves p l + inside p p * (leaves p c % 2)) (λ p. inside p p * leaves p c)
                (λ p q. omega (arith, mul-le-mul_left (inside p p) (room p))),
            sum-le m (λ j. S j * l j + P j * c j) (λ j. S j * c j + P j * l j) each,
            sum-add m (λ j. S j * l j) (λ j. P j * c j),
            sum-add m (λ j. S j * c j) (λ j. P j * l j),
          )

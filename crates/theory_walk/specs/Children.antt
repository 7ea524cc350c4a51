-- The children of a site: every link at it but the one to the parent, each once; and the sites below it.
use Rattle.std.specs.Prelude.{◌≡◌, ◌≢◌, ◌⊎◌, List, [], ◌∷◌, ℕ, zero, suc, ◌+◌, ◌-◌, ◌*◌, ◌≤◌, ◌<◌, get_or}
use Rattle.std.proofs.Math.Path.{refl}
use Rattle.std.proofs.Common.{sym, ap, ◌∙◌, inl, inr}
use Rattle.std.proofs.Math.ListN.{length}
use native.Mathlib.Omega.{arith}
use Rattle.lists.specs.Numbers.{pick, is, sum, over, Each}
use Rattle.model.specs.Flows.{Links, Site, sites, one, two, at, others, Tree, side, separates}
use Rattle.model.specs.Pairing.{joins, between, children}
use Rattle.lists.specs.Sums.{pick_same, pick_other, pick_cases, same?, is_same, is-other, is_one, is_le, sum-none, sum-add, sum-eq, sum_eq_but}
use Rattle.theory_trees.specs.Trees.{separates-one, separates-le, side-link, at-end, at-le, at_first, at_second}
use Rattle.lists.specs.Tallies.{tally, tally-eq, tally-none, each_map}
use Rattle.theory_trees.specs.Sites.{sites_once, sites-site}
use Rattle.lists.specs.Places.{over_add, over-eq, over-is}
use Rattle.theory_walk.specs.Subtrees.{Entered, Child, Joins, child, three, node}

-- ---- the link between two sites

pub joins-ends : (l : ℕ × ℕ) (v c : ℕ) → joins l v c ≡ 1 → Joins l v c
unfolding joins
joins-ends l v c e = same? l.0 v
    (λ p. inl (p, is_one (sym (pick_same p (is l.1 c) (is l.0 c * is l.1 v)) ∙ e)))
    (λ d. let o = sym (pick_other d (is l.1 c) (is l.0 c * is l.1 v)) ∙ e in
    same? l.0 c
    (λ p. inr (p, is_one (omega (arith, rw (is_same p) at o))))
    (λ q. absurd (omega (arith, rw (is-other q) at o))))

pub ends-joins : (l : ℕ × ℕ) (v c : ℕ) → Joins l v c → joins l v c ≡ 1
unfolding joins
ends-joins l v c (inl e) = pick_same e.0 (is l.1 c) (is l.0 c * is l.1 v) ∙ is_same e.1
ends-joins l v c (inr e) = pick_cases (λ r. r ≡ 1) l.0 v (is l.1 c) (is l.0 c * is l.1 v)
    (λ p. is_same (e.1 ∙ sym p ∙ e.0))
    (λ d. rw (is_same e.0, is_same e.1) (omega arith))

pub joins-le : (l : ℕ × ℕ) (v c : ℕ) → joins l v c ≤ is l.0 v * is l.1 c + is l.0 c * is l.1 v
unfolding joins
joins-le l v c = pick_cases (λ r. r ≤ is l.0 v * is l.1 c + is l.0 c * is l.1 v) l.0 v (is l.1 c) (is l.0 c * is l.1 v)
    (λ e. rw (is_same e) (omega arith))
    (λ d. omega arith)

pub joins-one : (l : ℕ × ℕ) (v c : ℕ) → joins l v c ≤ 1
unfolding joins
joins-one l v c = pick_cases (λ r. r ≤ 1) l.0 v (is l.1 c) (is l.0 c * is l.1 v)
    (λ e. is_le l.1 c)
    (λ d. same? l.0 c (λ e. rw (is_same e) (omega (arith, is_le l.1 v))) (λ e. rw (is-other e) (omega arith)))

-- not where one of the two is no end of the link
pub joins-none : (l : ℕ × ℕ) (v c : ℕ) → ¬ Joins l v c → joins l v c ≡ 0
joins-none l v c h = same? (joins l v c) 1 (λ e. absurd (h (joins-ends l v c e))) (λ d. omega (arith, joins-one l v c))

pub joins-turned : (a b v c : ℕ) → joins (a, b) v c ≡ joins (b, a) v c
joins-turned a b v c = same? (joins (a, b) v c) 1
    (λ e. e ∙ sym (ends-joins (b, a) v c (turn (joins-ends (a, b) v c e))))
    (λ d. omega (arith, joins-one (a, b) v c, joins-none (b, a) v c (λ h. d (ends-joins (a, b) v c (back h)))))
  where
    turn : Joins (a, b) v c → Joins (b, a) v c
    turn (inl e) = inr (e.1, e.0)
    turn (inr e) = inl (e.1, e.0)

    back : Joins (b, a) v c → Joins (a, b) v c
    back (inl e) = inr (e.1, e.0)
    back (inr e) = inl (e.1, e.0)

pub between-joins : (ls : Links) (v c : ℕ) → between ls v c < length ls → Joins (get_or ls (between ls v c) (0, 0)) v c
unfolding between
between-joins [] v c p = absurd (omega arith)
between-joins (l ∷ ls) v c p = same? (joins l v c) 1
    (λ e. rw (pick_same e 0 (suc (between ls v c))) (joins-ends l v c e))
    (λ d. let q = pick_other d 0 (suc (between ls v c)) in rw q (between-joins ls v c (omega (arith, rw q at p))))

between_first : (ls : Links) (v c k : ℕ) → k < length ls → Joins (get_or ls k (0, 0)) v c → between ls v c ≤ k
unfolding between
between_first [] v c k l e = absurd (omega arith)
between_first (a ∷ ls) v c zero l e = omega (arith, pick_same (ends-joins a v c e) 0 (suc (between ls v c)))
between_first (a ∷ ls) v c (suc k) l e = pick_cases (λ r. r ≤ suc k) (joins a v c) 1 0 (suc (between ls v c))
    (λ q. omega arith) (λ q. omega (arith, between_first ls v c k (omega arith) e))

between_le : (ls : Links) (v c : ℕ) → between ls v c ≤ length ls
unfolding between
between_le [] v c = omega arith
between_le (a ∷ ls) v c = pick_cases (λ r. r ≤ suc (length ls)) (joins a v c) 1 0 (suc (between ls v c))
    (λ q. omega arith) (λ q. omega (arith, between_le ls v c))

-- in a tree it is the only one
pub between_is : {ls : Links} {n : ℕ} → Tree ls n → (v c k : ℕ) → k < length ls → Joins (get_or ls k (0, 0)) v c → between ls v c ≡ k
between_is {ls} T v c k l e =
    let b = between ls v c in
    let lb : b < length ls = omega (arith, between_first ls v c k l e) in
    same? b k (λ q. q) (λ d. absurd ((separates-one ls k v c).0 (child T v (length ls) c k l (λ q. omega arith) e).beyond (on lb d (between-joins ls v c lb))))
  where
    on : between ls v c < length ls → between ls v c ≢ k → Joins (get_or ls (between ls v c) (0, 0)) v c → side ls k v ≡ side ls k c
    on lb d (inl e) = rw (e.0, e.1) at (side-link ls (between ls v c) k lb d)
    on lb d (inr e) = sym (rw (e.0, e.1) at (side-link ls (between ls v c) k lb d))

-- ---- the list of children, site by site

module _ (ls : Links) (v j c m : ℕ) where
  -- a site joined to v, but for the parent, is a child
  pub child-taken : between ls v c < length ls → between ls v c ≢ j → children ls v j c (suc m) ≡ (c, between ls v c) ∷ children ls v j (suc c) m
  unfolding children
  child-taken l d = pick_same (let s : is (between ls v c) j + is (between ls v c) (length ls) ≡ 0 = omega (
    arith,
    is-other d,
    is-other {u = between ls v c} {v = length ls} (λ e. omega arith),
  ) in s) ((c, between ls v c) ∷ children ls v j (suc c) m) (children ls v j (suc c) m)

  -- the parent is not, and a site not joined to v is not
  pub child_passed : (between ls v c ≡ j) ⊎ (between ls v c ≡ length ls) → children ls v j c (suc m) ≡ children ls v j (suc c) m
  unfolding children
  child_passed e = pick_other (some e) ((c, between ls v c) ∷ children ls v j (suc c) m) (children ls v j (suc c) m)
    where
      some : (between ls v c ≡ j) ⊎ (between ls v c ≡ length ls) → is (between ls v c) j + is (between ls v c) (length ls) ≢ 0
      some (inl q) z = omega (arith, is_same q)
      some (inr q) z = omega (arith, is_same q)

  child_cases : (P : List (ℕ × ℕ) → Type 0) → (between ls v c < length ls → between ls v c ≢ j → P ((c, between ls v c) ∷ children ls v j (suc c) m))
      → ((between ls v c ≡ j) ⊎ (between ls v c ≡ length ls) → P (children ls v j (suc c) m)) → P (children ls v j c (suc m))
  child_cases P f g = same? (between ls v c) j
      (λ e. rw (child_passed (inl e)) (g (inl e)))
      (λ d. same? (between ls v c) (length ls)
      (λ e. rw (child_passed (inr e)) (g (inr e)))
      (λ e. let l : between ls v c < length ls = omega (arith, between_le ls v c) in rw (child-taken l d) (f l d)))

-- how often link k leads to a child
abbrev pub links : ℕ → List (ℕ × ℕ) → ℕ
links k ks = tally (λ e. is e.1 k) ks

module _ {ls : Links} {n : ℕ} (T : Tree ls n) (v j : ℕ) where
  pub children_are : (c m : ℕ) → Each (λ e. Child ls n v j e.0 e.1) (children ls v j c m)
  children_are c zero = unfold children in tt
  children_are c (suc m) =
      let rest = children_are (suc c) m in
      child_cases ls v j c m (Each (λ e. Child ls n v j e.0 e.1))
      (λ l d. (child T v j c (between ls v c) l d (between-joins ls v c l), rest)) (λ e. rest)

  module _ (k : ℕ) (l : k < length ls) (d : k ≢ j) where
    step : (c m : ℕ) → links k (children ls v j c (suc m)) ≡ is (between ls v c) k + links k (children ls v j (suc c) m)
    step c m = child_cases ls v j c m (λ ks. links k ks ≡ is (between ls v c) k + links k (children ls v j (suc c) m))
        (λ lb db. unfold tally in refl) (λ e. omega (arith, is-other {u = between ls v c} {v = k} (λ q. off (rw q at e))))
      where
        off : (k ≡ j) ⊎ (k ≡ length ls) → ⊥
        off (inl q) = d q
        off (inr q) = omega arith

    miss : (c m : ℕ) → ((x : ℕ) → c ≤ x → between ls v x ≢ k) → links k (children ls v j c m) ≡ 0
    miss c zero h = unfold children tally in refl
    miss c (suc m) h = omega (arith, step c m, is-other (h c (omega arith)), miss (suc c) m (λ x p. h x (omega arith)))

    hit : (y c m : ℕ) → c ≤ y → y < c + m → between ls v y ≡ k → ((x : ℕ) → between ls v x ≡ k → x ≡ y) → links k (children ls v j c m) ≡ 1
    hit y c zero p q e h = absurd (omega arith)
    hit y c (suc m) p q e h = same? c y
        (λ o. omega (arith, step c m, is_same (ap (between ls v) o ∙ e), miss (suc c) m (λ x r z. omega (arith, h x z))))
        (λ o. omega (arith, step c m, is-other {u = between ls v c} {v = k} (λ z. o (h c z)), hit y (suc c) m (omega arith) (omega arith) e h))

    end-hit : (y : ℕ) → Joins (get_or ls k (0, 0)) v y → links k (children ls v j 1 n) ≡ 1
    end-hit y e =
        let s = (child T v j y k l d e).site in
        hit y 1 n s.0 (omega arith) (between_is T v y k l e) (λ x z. same_end x (rw z at (between-joins ls v x (omega arith))) e)
      where
        same_end : (x : ℕ) → Joins (get_or ls k (0, 0)) v x → Joins (get_or ls k (0, 0)) v y → x ≡ y
        same_end x (inl a) (inl b) = sym a.1 ∙ b.1
        same_end x (inr a) (inr b) = sym a.0 ∙ b.0
        same_end x (inl a) (inr b) = sym a.1 ∙ b.1 ∙ sym a.0 ∙ b.0
        same_end x (inr a) (inl b) = sym a.0 ∙ b.0 ∙ sym a.1 ∙ b.1

    at-hit : links k (children ls v j 1 n) ≡ at ls v k
    at-hit = same? (at ls v k) 1 (λ a. hits (at-end ls k a) ∙ sym a)
        (λ a. miss 1 n (λ x p e. none x (rw e at (between-joins ls v x (omega arith))) a) ∙ omega (arith, at-le ls v k))
      where
        hits : (one ls k ≡ v) ⊎ (two ls k ≡ v) → links k (children ls v j 1 n) ≡ 1
        hits (inl e) = end-hit (two ls k) (inl (e, refl))
        hits (inr e) = end-hit (one ls k) (inr (refl, e))

        none : (x : ℕ) → Joins (get_or ls k (0, 0)) v x → at ls v k ≢ 1 → ⊥
        none x (inl e) a = a (at_first ls k e.0)
        none x (inr e) a = a (at_second ls k e.1)

  -- each link at v but the parent's leads to a child just once, and no other link does
  pub children-links : (k : ℕ) → k < length ls → links k (children ls v j 1 n) ≡ pick k j 0 (at ls v k)
  children-links k l = same? k j
      (λ e. tally-eq (λ e. is e.1 k) (λ e. 0) (children ls v j 1 n)
      (each_map (λ e. Child ls n v j e.0 e.1) (λ e. is e.1 k ≡ 0) (λ b h. is-other (λ z. h.down.new (z ∙ e))) (children ls v j 1 n)
      (children_are 1 n))
      ∙ tally-none (children ls v j 1 n) ∙ sym (pick_same e 0 (at ls v k)))
      (λ d. at-hit k l d ∙ sym (pick_other d 0 (at ls v k)))

-- ---- sums over the children

sum_is : (n j : ℕ) (g : ℕ → ℕ) → j < n → sum n (λ i. is j i * g i) ≡ g j
sum_is n j g l = omega (
  arith,
  sum-none n,
  rw (is_same {u = j} refl) at (sum_eq_but n j (λ i. is j i * g i) (λ i. 0) l (λ i k d. rw (is-other {u = j} {v = i} (λ e. d (sym e))) (omega arith))),
)

tally-sum : (m : ℕ) (g : ℕ → ℕ) (ks : List (ℕ × ℕ)) → Each (λ e. e.1 < m) ks → tally (λ e. g e.1) ks ≡ sum m (λ i. links i ks * g i)
unfolding tally
tally-sum m g [] p = omega (arith, sum-none m, sum-eq m (λ i. 0 * g i) (λ i. 0) (λ i l. omega arith))
tally-sum m g (e ∷ ks) p = omega (
  arith,
  tally-sum m g ks p.1,
  sum_is m e.1 g p.0,
  sum-add m (λ i. is e.1 i * g i) (λ i. links i ks * g i),
  sum-eq m (λ i. (is e.1 i + links i ks) * g i) (λ i. is e.1 i * g i + links i ks * g i) (λ i l. omega arith),
)

pub over_none : (us : List ℕ) → over us (λ x. 0) ≡ 0
unfolding over
over_none [] = refl
over_none (u ∷ us) = omega (arith, over_none us)

pub over-tally : (us : List ℕ) (ks : List (ℕ × ℕ)) (h : ℕ × ℕ → ℕ → ℕ) → over us (λ x. tally (λ e. h e x) ks) ≡ tally (λ e. over us (h e)) ks
unfolding tally
over-tally us [] h = over_none us
over-tally us (e ∷ ks) h = omega (arith, over-tally us ks h, over_add us (h e) (λ x. tally (λ e. h e x) ks))

-- ---- the sites below a site

-- 1 if x lies in the subtree at v below link j, 0 if not
unfoldable pub inside : Links → ℕ → ℕ → ℕ → ℕ
inside ls j v x = 1 - separates ls j v x

-- the number of sites of the subtree
unfoldable pub size : Links → ℕ → ℕ → ℕ → ℕ
size ls n j v = over (sites n) (λ x. inside ls j v x)

-- the sites of the subtrees of children
abbrev pub sizes : Links → ℕ → List (ℕ × ℕ) → ℕ
sizes ls n ks = tally (λ e. size ls n e.1 e.0) ks

module _ {ls : Links} {n : ℕ} (T : Tree ls n) (v j : ℕ) where
  abbrev ks : List (ℕ × ℕ)
  ks = children ls v j 1 n

  -- a sum over the children's links is one over the links at v but the parent's
  pub children-others : (g : ℕ → ℕ) → tally (λ e. g e.1) ks ≡ others ls v j g
  unfolding others
  children-others g =
      tally-sum (length ls) g ks (each_map (λ e. Child ls n v j e.0 e.1) (λ e. e.1 < length ls) (λ e h. h.up.bound) ks (children_are T v j 1 n))
      ∙ sum-eq (length ls) (λ i. links i ks * g i) (λ i. pick i j 0 (at ls v i * g i)) (λ i l. rw (children-links T v j i l)
      (same? i j (λ e. simp (pick_same {A = ℕ} e) (omega arith)) (λ d. simp (pick_other {A = ℕ} d))))

  -- a subtree is its first site and the subtrees of the children
  pub inside-children : (x : ℕ) → Entered ls j v → Site n v → Site n x → inside ls j v x ≡ is x v * 1 + tally (λ e. inside ls e.1 e.0 x) ks
  unfolding inside
  inside-children x en p q = omega (
    arith,
    node T j v x en p q,
    separates-le ls j v x,
    tally-eq (λ e. inside ls e.1 e.0 x) (λ e. separates ls e.1 v x) ks
        (each_map (λ e. Child ls n v j e.0 e.1) (λ e. inside ls e.1 e.0 x ≡ separates ls e.1 v x)
        (λ e h. omega (arith, three T e.1 v e.0 x h.up.bound p h.site q, h.beyond, separates-le ls e.1 v x, separates-le ls e.1 e.0 x))
        ks (children_are T v j 1 n)),
    children-others (λ k. separates ls k v x),
  )

  pub size-children : Entered ls j v → Site n v → size ls n j v ≡ 1 + sizes ls n ks
  unfolding size
  size-children en p = omega (
    arith,
    over-is (sites n) v (λ x. 1),
    sites_once n v p,
    over-tally (sites n) ks (λ e x. inside ls e.1 e.0 x),
    over_add (sites n) (λ x. is x v * 1) (λ x. tally (λ e. inside ls e.1 e.0 x) ks),
    over-eq (sites n) (λ x. inside ls j v x) (λ x. is x v * 1 + tally (λ e. inside ls e.1 e.0 x) ks)
        (λ x m. inside-children x en p (sites-site n x m)),
  )

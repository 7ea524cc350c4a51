-- Subtrees: the sites on v's side of link j, and the links among them.
-- The one tool: what a link separates from another link stands on one side of that one (`far-side`).
use Rattle.std.specs.Prelude.{◌≡◌, refl, ◌≢◌, ◌⊎◌, [], ◌∷◌, ℕ, zero, suc, ◌+◌, ◌*◌, ◌≤◌, ◌<◌, length, get_or}
use Rattle.std.proofs.Math.Path.{sym}
use Rattle.std.proofs.Common.{ap, ◌∙◌, inl, inr, arith}
use Rattle.lists.specs.Numbers.{pick, is}
use Rattle.model.specs.Flows.{Links, Site, one, two, at, sum_at, others, Tree, without, side, separates}
use Rattle.lists.specs.Sums.{pick_same, pick_other, pick_const, same?, differ_same, differ_triangle, sum-eq}
use Rattle.theory_trees.specs.Trees.{separates-one, separates-le, separates_comm, separates_self, separates_triple, side-link, all_agree, bridge, at_first}
use Rattle.theory_trees.specs.Trees.{at_second, at-end, others-add, local, local_one}

-- of three sites x, y, z a link separates none or two of the three couples: a of x and y, b of y and z, c of x and z
pub record Three (a b c : ℕ) : Type 0 where
  pub xz : c ≤ a + b
  pub xy : a ≤ b + c
  pub yz : b ≤ a + c
  pub two : a + b + c ≤ 2

-- seen from x, the link separates y and z if one of them is beyond it, and not if both are
pub either_side : (a b c : ℕ) → Three a c b → a ≤ 1 → b ≤ 1 → c + 2 * (a * b) ≡ a + b
either_side a b c h p q = same? a 0
    (λ e. rw e (omega (arith, h, e)))
    (λ d. let e : a ≡ 1 = omega arith in rw e (omega (arith, h, e)))

-- link k is a link at v
pub record LinkAt (ls : Links) (v k : ℕ) : Type 0 where
  pub bound : k < length ls
  pub here : at ls v k ≡ 1

-- link j is v's link to its parent, or v is the root and j the number of links
abbrev pub Entered : Links → ℕ → ℕ → Type 0
Entered ls j v = LinkAt ls v j ⊎ (j ≡ length ls)

-- link k goes from v to a child
pub record Down (ls : Links) (v j k : ℕ) : Type 0 where
  pub link : LinkAt ls v k
  pub new : k ≢ j

-- that child is c
pub record Child (ls : Links) (n v j c k : ℕ) : Type 0 where
  pub down : Down ls v j k
  pub up : LinkAt ls c k
  pub site : Site n c
  pub beyond : separates ls k v c ≡ 1

-- link i lies in the subtree at v, link j counted in
abbrev pub Within : Links → ℕ → ℕ → ℕ → Type 0
Within ls j v i = (i ≡ j) ⊎ (separates ls j v (one ls i) ≡ 0)

-- link i is link k or lies beyond it, seen from v
abbrev pub Branch : Links → ℕ → ℕ → ℕ → Type 0
Branch ls k v i = (i ≡ k) ⊎ (separates ls k v (one ls i) ≡ 1)

-- w lies outside the subtree; at the root, where nothing does, w is the root
abbrev pub Outside : Links → ℕ → ℕ → ℕ → Type 0
Outside ls j v w = (separates ls j v w ≡ 1) ⊎ ((j ≡ length ls) × (w ≡ v))

-- link l has the ends v and c
abbrev pub Joins : ℕ × ℕ → ℕ → ℕ → Type 0
Joins l v c = ((l.0 ≡ v) × (l.1 ≡ c)) ⊎ ((l.0 ≡ c) × (l.1 ≡ v))

module _ (ls : Links) where
  separates-none : (j x y : ℕ) → separates ls j x y ≡ 0 → side ls j x ≡ side ls j y
  separates-none j x y e = same? (side ls j x) (side ls j y) (λ p. p) (λ d. absurd (omega (arith, (separates-one ls j x y).1 d)))

  separates-same : (j x y : ℕ) → side ls j x ≡ side ls j y → separates ls j x y ≡ 0
  unfolding separates
  separates-same j x y e = differ_same e

without-none : (ls : Links) (j : ℕ) → length ls ≤ j → without j ls ≡ ls
unfolding without
without-none [] j p = refl
without-none (a ∷ ls) zero p = absurd (omega arith)
without-none (a ∷ ls) (suc j) p = ap (λ r. a ∷ r) (without-none ls j (omega arith))

-- past the last link there is no link to leave out
pub others-all : (ls : Links) (v j : ℕ) (f : ℕ → ℕ) → length ls ≤ j → others ls v j f ≡ sum_at ls v f
unfolding others sum_at
others-all ls v j f p = sum-eq (length ls) (λ i. pick i j 0 (at ls v i * f i)) (λ i. at ls v i * f i)
    (λ i l. pick_other (λ e. omega arith) 0 (at ls v i * f i))

module _ {ls : Links} {n : ℕ} (T : Tree ls n) where
  pub separates-nothing : (x y : ℕ) → Site n x → Site n y → separates ls (length ls) x y ≡ 0
  unfolding side
  separates-nothing x y p q = separates-same ls (length ls) x y (rw (without-none ls (length ls) (omega arith)) (T.whole x p ∙ sym (T.whole y q)))

  pub separates-ends : (k : ℕ) → k < length ls → separates ls k (one ls k) (two ls k) ≡ 1
  separates-ends k l = (separates-one ls k (one ls k) (two ls k)).1 (bridge T k l)

  pub three : (k x y z : ℕ) → k < length ls → Site n x → Site n y → Site n z → Three (separates ls k x y) (separates ls k y z) (separates ls k x z)
  three k x y z l p q r = record {
    xz = triangle x y z;
    xy = omega (arith, triangle x z y, separates_comm ls k y z);
    yz = omega (arith, triangle y x z, separates_comm ls k x y);
    two = separates_triple T k x y z l p q r;
  }
    where
      triangle : (x y z : ℕ) → separates ls k x z ≤ separates ls k x y + separates ls k y z
      triangle x y z = unfold separates in (differ_triangle (side ls k x) (side ls k y) (side ls k z))

  -- links i and k: what k separates from i stands on one side of i
  far-side : (i k x y : ℕ) → i < length ls → k < length ls → i ≢ k → Site n x → Site n y
      → side ls k x ≢ side ls k (one ls i) → side ls k y ≢ side ls k (one ls i) → side ls i x ≡ side ls i y
  far-side i k x y l lk d p q dx dy = sym (pick_other dx S (side ls i x)) ∙ all_agree T f steps x y p q ∙ pick_other dy S (side ls i y)
    where
      S : ℕ
      S = side ls i (one ls k)

      f : ℕ → ℕ
      f z = pick (side ls k z) (side ls k (one ls i)) S (side ls i z)

      steps : (m : ℕ) → m < length ls → f (one ls m) ≡ f (two ls m)
      steps m lm = same? m k
          (λ e. rw (e, ← (side-link ls k i lk (λ z. d (sym z))))
          (pick_const (side ls k (one ls k)) (side ls k (one ls i)) S ∙ sym (pick_const (side ls k (two ls k)) (side ls k (one ls i)) S)))
          (λ e. same? m i
          (λ z. rw z (pick_same refl S (side ls i (one ls i)) ∙ sym (pick_same (sym (side-link ls i k l d)) S (side ls i (two ls i)))))
          (λ z. rw (side-link ls m k lm e, side-link ls m i lm z)))

  -- so a link beyond link k at v separates no two sites on v's side of k
  pub far : (i k v x y : ℕ) → i < length ls → k < length ls → Site n v → Site n x → Site n y
      → Branch ls k v i → separates ls k v x ≡ 0 → separates ls k v y ≡ 0 → separates ls i x y ≡ 0
  far i k v x y li lk pv px py (inl e) a b = rw e (omega (arith, three k v x y lk pv px py))
  far i k v x y li lk pv px py (inr e) a b = same? i k
      (λ o. rw o (omega (arith, three k v x y lk pv px py)))
      (λ o. let d = (separates-one ls k v (one ls i)).0 e in separates-same ls i x y (far-side i k x y li lk o px py
      (λ z. d (separates-none ls k v x a ∙ z)) (λ z. d (separates-none ls k v y b ∙ z))))

  -- and neither does a link at a site beyond k
  pub aside : (i k v x y z : ℕ) → i < length ls → k < length ls → Site n v → Site n y → Site n z
      → at ls x i ≡ 1 → separates ls k v x ≡ 1 → separates ls k v y ≡ 0 → separates ls k v z ≡ 0 → separates ls i y z ≡ 0
  aside i k v x y z li lk pv py pz a c = far i k v y z li lk pv py pz (same? i k inl (λ d. inr (there d (at-end ls i a))))
    where
      there : i ≢ k → (one ls i ≡ x) ⊎ (two ls i ≡ x) → separates ls k v (one ls i) ≡ 1
      there d (inl e) = rw e c
      there d (inr e) = (separates-one ls k v (one ls i)).1 (λ z. (separates-one ls k v x).0 c (z ∙ side-link ls i k li d ∙ ap (side ls k) e))

  -- a site beyond one link at v is beyond no other
  pub single : (v k m x : ℕ) → Site n v → Site n x → LinkAt ls v k → separates ls k v x ≡ 1 → LinkAt ls v m → k ≢ m → separates ls m v x ≡ 0
  single v k m x pv px ak ck am d =
      let r = local_one T v x pv px (λ e. omega (arith, rw e at ck, separates_self ls k v)) in
      same? (separates ls m v x) 1
      (λ cm. absurd (d (r.4 k ak.bound ak.here ck ∙ sym (r.4 m am.bound am.here cm))))
      (λ o. omega (arith, separates-le ls m v x))

  pub one_way : (v x i k : ℕ) → Site n v → Site n x → LinkAt ls v i → LinkAt ls v k → separates ls i v x ≡ 1 → separates ls k v x ≡ 1 → i ≡ k
  one_way v x i k pv px ai ak ci ck = same? i k (λ e. e) (λ d. absurd (omega (arith, single v i k x pv px ai ci ak d)))

  -- each site is v itself, beyond one link to a child, or beyond the link to the parent
  pub node : (j v x : ℕ) → Entered ls j v → Site n v → Site n x → is x v + others ls v j (λ k. separates ls k v x) + separates ls j v x ≡ 1
  node j v x (inl e) p q = omega (arith, local T v x p q, others-add ls v j (λ k. separates ls k v x) e.bound e.here)
  node j v x (inr e) p q = rw e (omega (
    arith,
    local T v x p q,
    others-all ls v (length ls) (λ k. separates ls k v x) (omega arith),
    separates-nothing v x p q,
  ))

  -- what is beyond a child's link is in the subtree
  pub not_parent : (v j k x : ℕ) → Entered ls j v → Site n v → Site n x → Down ls v j k → separates ls k v x ≡ 1 → separates ls j v x ≡ 0
  not_parent v j k x (inl e) pv px b c = single v k j x pv px b.link c e b.new
  not_parent v j k x (inr e) pv px b c = rw e (separates-nothing v x pv px)

  -- seen from outside the subtree at v, no child's link is crossed
  pub outside : (v j k w : ℕ) → Entered ls j v → Site n v → Site n w → Outside ls j v w → Down ls v j k → separates ls k v w ≡ 0
  outside v j k w en pv pw (inl b) d = same? (separates ls k v w) 1
      (λ c. absurd (omega (arith, not_parent v j k w en pv pw d c)))
      (λ c. omega (arith, separates-le ls k v w))
  outside v j k w en pv pw (inr b) d = rw b.1 (separates_self ls k v)

  -- the child's link beyond which a site stands, and a link lies
  pub branch_site : (v j x : ℕ) → Site n v → Site n x → x ≢ v → separates ls j v x ≡ 0 → (k : ℕ) × Down ls v j k × (separates ls k v x ≡ 1)
  branch_site v j x pv px d c =
      let r = local_one T v x pv px d in
      (r.0, record { link = record { bound = r.1; here = r.2 }; new = λ e. omega (arith, rw e at r.3) }, r.3)

  pub branch_link : (v j i : ℕ) → Site n v → i < length ls → i ≢ j → Within ls j v i → (m : ℕ) × Down ls v j m × Branch ls m v i
  branch_link v j i pv l d (inl e) = absurd (d e)
  branch_link v j i pv l d (inr c) = same? (one ls i) v
      (λ e. (i, record { link = record { bound = l; here = at_first ls i e }; new = d }, inl refl))
      (λ e. let r = branch_site v j (one ls i) pv (T.ends i l).0 e c in (r.0, r.1, inr r.2))

  -- the other end of a link at v, but for the link to the parent, is a child
  pub child : (v j c k : ℕ) → k < length ls → k ≢ j → Joins (get_or ls k (0, 0)) v c → Child ls n v j c k
  child v j c k l d (inl e) = record {
    down = record { link = record { bound = l; here = at_first ls k e.0 }; new = d };
    up = record { bound = l; here = at_second ls k e.1 };
    site = rw e.1 at (T.ends k l).1;
    beyond = rw (e.0, e.1) at (separates-ends k l);
  }
  child v j c k l d (inr e) = record {
    down = record { link = record { bound = l; here = at_second ls k e.1 }; new = d };
    up = record { bound = l; here = at_first ls k e.0 };
    site = rw e.0 at (T.ends k l).0;
    beyond = separates_comm ls k v c ∙ (rw (e.0, e.1) at (separates-ends k l));
  }

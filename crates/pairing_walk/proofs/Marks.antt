-- Which sites are done: those that a walk has entered. An inner site that a link joins to one that is done is done too, or a child to come. So when a walk
-- has ended, the lowest inner site that is not done is the root of its part, and the sites passed over on the way to it are no roots.
use mathlib.Core.Path.{◌≡◌, refl, sym, ap, ◌∙◌}
use mathlib.Core.Logic.{◌≢◌, ◌⊎◌, inl, inr}
use mathlib.Core.List.{List, [], ◌∷◌, ◌++◌, flat_map, append-nil}
use Prim.Native.Nat.{ℕ, zero, suc, ◌+◌, ◌-◌, ◌≤◌, ◌<◌}
use native.Mathlib.Omega.{arith}
use native.Mathlib.Nat.{add-zero, add-suc}
use native.Mathlib.Decide.{dec_lt}
use lib.ListN.{length, set, get_or, length-set, length-replicate}
use lib.Seq.{get_or-set_same, get_or-set_other}
use Rattle.model.specs.Limits.{PLACES}
use Rattle.lists.specs.Numbers.{look, upfrom, Each}
use Rattle.lists.specs.Sums.{same?, cases, pick_same, pick_other}
use Rattle.lists.specs.Tallies.{each_map}
use Rattle.lists.specs.Places.{look-zeros}
use Rattle.model.specs.Flows.{Links, Site, sites, one, two, at, Tree}
use Rattle.model.specs.Pairing.{between, pairs_from, lowest_inner}
use Rattle.model.specs.Parts.{within, region, root, pairs_of_part}
use Rattle.model.specs.declared.Pair.{Pair}
use Rattle.theory_trees.specs.Trees.{at_first, at_second, at-end}
use Rattle.theory_trees.specs.Sites.{at-site}
use Rattle.theory_trees.specs.TerminalCuts.{kept_induct}
use Rattle.theory_walk.specs.Subtrees.{Joins}
use Rattle.theory_walk.specs.Children.{between_is, between-joins}
use Rattle.theory_walk.specs.Lowest.{lowest-none, lowest-some}
use Rattle.theory_walk.proofs.Lowest.{lowest_least}
use Rattle.theory_walk.specs.Regions.{region-ends, not_within, root_inner}
use Rattle.theory_walk.proofs.PartsMeaning.{root_iff_lowest}
use Rattle.theory_walk.specs.PartsLoops.{flat-next}
use Rattle.pairing_children.specs.Neighbours.{NoChild}
use Rattle.pairing_halves.specs.declared.Tops.{Tops}
use Rattle.pairing_walk.specs.declared.Frame.{Frame}
use Rattle.pairing_walk.specs.Frames.{Entered, Passed}
use Rattle.pairing_walk.specs.Visits.{covered, untouched}

-- y is a child to come of x, by a frame, and by one of the frames fs
abbrev DueBy : Links → Frame → ℕ → ℕ → Type 0
DueBy ls f x y = (f.site ≡ x) × (¬ NoChild ls f.site f.link y) × (f.next ≤ y)

unfoldable pub Due : Links → List Frame → ℕ → ℕ → Type 0
Due ls [] x y = ⊥
Due ls (f ∷ fs) x y = DueBy ls f x y ⊎ Due ls fs x y

module _ (ls : Links) (n : ℕ) (terminal : ℕ → ℕ) where
  -- x is of the part of a root that is not above r
  abbrev pub Rooted : ℕ → ℕ → Type 0
  Rooted r x = (q : ℕ) × Site n q × (root ls terminal n q ≡ 1) × (q ≤ r) × (region ls terminal x ≡ region ls terminal q)

  -- what is done while the part of root r is walked, with the sites of fs entered and not left
  pub record Marked (fs : List Frame) (r : ℕ) (done : List ℕ) : Type 0 where
    pub closed : (i x y : ℕ) → i < length ls → within ls terminal i ≡ 1 → at ls x i ≡ 1 → at ls y i ≡ 1 → look done x ≡ 1 → (look done y ≡ 1) ⊎ Due ls fs x y
    pub stacked : Each (λ f. look done f.site ≡ 1) fs
    pub rooted : (x : ℕ) → look done x ≡ 1 → Rooted r x
    pub passed : (x : ℕ) → 1 ≤ x → x ≤ r → terminal x ≢ 1 → look done x ≡ 1
    pub places : length done ≡ PLACES

-- before the first walk none is done
pub marked-starts : (ls : Links) (n : ℕ) (terminal : ℕ → ℕ) → Marked ls n terminal [] 0 untouched
marked-starts ls n terminal = record {
  closed = λ i x y l w p q e. absurd (omega (arith, e, look-zeros PLACES x));
  stacked = tt;
  rooted = λ x e. absurd (omega (arith, e, look-zeros PLACES x));
  passed = λ x p q. absurd (omega arith);
  places = length-replicate {A = ℕ} PLACES 0;
}

-- ---- a site that is entered

module _ {ls : Links} {n : ℕ} (T : Tree ls n) {terminal : ℕ → ℕ} {fs : List Frame} {r : ℕ} {done : List ℕ} (M : Marked ls n terminal fs r done) where
  module _ {s₀ v j down : ℕ} {base : Tops} {h : Frame} (E : Entered ls s₀ v j down base h) (inside : v < PLACES) where
    abbrev after : List ℕ
    after = set done v 1

    here : look after v ≡ 1
    here = get_or-set_same done v 1 0 (omega (arith, M.places))

    grown : (x : ℕ) → look done x ≡ 1 → look after x ≡ 1
    grown x e = same? x v (λ o. rw o here) (λ d. get_or-set_other done v x 1 0 d ∙ e)

    before : (x : ℕ) → x ≢ v → look after x ≡ 1 → look done x ≡ 1
    before x d e = sym (get_or-set_other done v x 1 0 d) ∙ e

    -- a site that a link joins to it is its parent, or a child to come
    neighbour : (i y : ℕ) → i < length ls → at ls v i ≡ 1 → at ls y i ≡ 1 → y ≢ v → (i ≡ j) ⊎ DueBy ls h v y
    neighbour i y l p q d = same? i j inl (λ o.
        let b = between_is T v y i l (joins (at-end ls i p) (at-end ls i q)) in
        let y₁ = (at-site ls T.ends i l q).0 in
        let m : ¬ NoChild ls v j y = λ no. elim no [ inl z ↦ o (sym b ∙ z) | inr z ↦ omega (arith, b, z) ] in
        inr (E.site, rw (E.site, E.link) m, cases (dec_lt y h.next) (λ k. absurd (m (E.first.miss y y₁ k))) (λ k. omega arith)))
      where
        joins : (one ls i ≡ v) ⊎ (two ls i ≡ v) → (one ls i ≡ y) ⊎ (two ls i ≡ y) → Joins (get_or ls i (0, 0)) v y
        joins (inl e) (inl f) = absurd (d (sym f ∙ e))
        joins (inl e) (inr f) = inl (e, f)
        joins (inr e) (inl f) = inr (f, e)
        joins (inr e) (inr f) = absurd (d (sym f ∙ e))

    module _ {gs : List Frame} {s : ℕ} (parent : (y : ℕ) → j < length ls → at ls y j ≡ 1 → y ≢ v → look done y ≡ 1)
        (stays : (x y : ℕ) → Due ls fs x y → y ≢ v → Due ls gs x y) (stack : Each (λ f. look done f.site ≡ 1) gs) (its : Rooted ls n terminal s v)
        (up : r ≤ s) (past : (x : ℕ) → 1 ≤ x → x ≤ s → x ≢ v → terminal x ≢ 1 → look done x ≡ 1) where
      pub marked_enters : Marked ls n terminal (h ∷ gs) s after
      unfolding Due
      marked_enters = record {
        closed = λ i x y l w p q e. same? y v (λ o. inl (rw o here)) (λ d. same? x v
            (λ o. elim (neighbour i y l (rw o at p) q d) [ inl z ↦ inl (grown y (parent y (rw z at l) (rw z at q) d)) | inr z ↦ inr (inl (rw o z)) ])
            (λ o. elim (M.closed i x y l w p q (before x o e)) [ inl z ↦ inl (grown y z) | inr z ↦ inr (inr (stays x y z d)) ]));
        stacked = (
          rw E.site here,
          each_map (λ f. look done f.site ≡ 1) (λ f. look after f.site ≡ 1) (λ f e. grown f.site e) gs stack,
        );
        rooted = λ x e. same? x v (λ o. rw o its) (λ o. let q = M.rooted x (before x o e) in (q.0, q.1, q.2, omega (arith, q.3), q.4));
        passed = λ x p q d. same? x v (λ o. rw o here) (λ o. grown x (past x p q o d));
        places = length-set done v 1 ∙ M.places;
      }

-- ---- a child to come

module _ {ls : Links} {n : ℕ} (T : Tree ls n) {terminal : ℕ → ℕ} {f : Frame} {fs : List Frame} {r : ℕ} {done : List ℕ}
    (M : Marked ls n terminal (f ∷ fs) r done) where
  module _ {up : ℕ} {g : Frame} (P : Passed ls f up g) where
    -- other children are still to come
    due-passed : (x y : ℕ) → Due ls (f ∷ fs) x y → y ≢ f.next → Due ls (g ∷ fs) x y
    unfolding Due
    due-passed x y (inl d) o = inl (
      P.site ∙ d.0,
      rw (P.site, P.link) d.1,
      cases (dec_lt y g.next) (λ k. absurd (d.1 (P.next.miss y (omega (arith, d.2)) k))) (λ k. omega arith),
    )
    due-passed x y (inr d) o = inr d

    -- a terminal: nothing more is done
    pub marked_adds : terminal f.next ≡ 1 → Marked ls n terminal (g ∷ fs) r done
    marked_adds e = record {
      closed = λ i x y l w p q o. elim (M.closed i x y l w p q o) [
        | inl z ↦ inl z
        | inr z ↦ inr (due-passed x y z (λ c. not_within ls terminal i y q (rw c e) w))
      ];
      stacked = (rw P.site M.stacked.0, M.stacked.1);
      rooted = M.rooted;
      passed = M.passed;
      places = M.places;
    }

    -- an inner site, which is done now
    pub marked-child : terminal f.site ≢ 1 → terminal f.next ≢ 1 → f.next < PLACES → between ls f.site f.next < length ls
        → {s₀ down : ℕ} {base : Tops} {h : Frame} → Entered ls s₀ f.next (between ls f.site f.next) down base h
        → Marked ls n terminal (h ∷ g ∷ fs) r (set done f.next 1)
    marked-child inner inner' inside l E =
        let k = between ls f.site f.next in
        let ends = between-joins ls f.site f.next l in
        let q = M.rooted f.site M.stacked.0 in
        let same = region-ends ls terminal k f.next f.site l (child ends) (parent ends) inner' inner in
        marked_enters T M E inside (λ y m a d. rw (other y ends a d) M.stacked.0) due-passed (rw P.site M.stacked.0, M.stacked.1)
        (q.0, q.1, q.2, q.3, same ∙ q.4) (omega arith) (λ x p m d. M.passed x p m)
      where
        parent : Joins (get_or ls (between ls f.site f.next) (0, 0)) f.site f.next → at ls f.site (between ls f.site f.next) ≡ 1
        parent (inl e) = at_first ls (between ls f.site f.next) e.0
        parent (inr e) = at_second ls (between ls f.site f.next) e.1

        child : Joins (get_or ls (between ls f.site f.next) (0, 0)) f.site f.next → at ls f.next (between ls f.site f.next) ≡ 1
        child (inl e) = at_second ls (between ls f.site f.next) e.1
        child (inr e) = at_first ls (between ls f.site f.next) e.0

        other : (y : ℕ) → Joins (get_or ls (between ls f.site f.next) (0, 0)) f.site f.next → at ls y (between ls f.site f.next) ≡ 1
            → y ≢ f.next → y ≡ f.site
        other y (inl e) a d = elim (at-end ls (between ls f.site f.next) a) [ inl z ↦ sym z ∙ e.0 | inr z ↦ absurd (d (sym z ∙ e.1)) ]
        other y (inr e) a d = elim (at-end ls (between ls f.site f.next) a) [ inl z ↦ absurd (d (sym z ∙ e.0)) | inr z ↦ sym z ∙ e.1 ]

  -- no child to come: the site is left
  pub marked-leaves : n < f.next → Marked ls n terminal fs r done
  unfolding Due
  marked-leaves none = record {
    closed = λ i x y l w p q o. elim (M.closed i x y l w p q o) [
      | inl z ↦ inl z
      | inr z ↦ elim z [ inl d ↦ absurd (omega (arith, d.2, (at-site ls T.ends i l q).1)) | inr d ↦ inr d ]
    ];
    stacked = M.stacked.1;
    rooted = M.rooted;
    passed = M.passed;
    places = M.places;
  }

-- ---- the next root

-- numbers that add nothing
flat_pass : (f : ℕ → List Pair) (b m k : ℕ) → ((x : ℕ) → b + m ≤ x → x < b + m + k → f x ≡ []) → flat_map f (upfrom b (m + k)) ≡ flat_map f (upfrom b m)
flat_pass f b m zero h = rw (add-zero m)
flat_pass f b m (suc k) h = rw (add-suc m k) (flat-next f b (m + k)
    ∙ rw (h (b + (m + k)) (omega arith) (omega arith)) (append-nil (flat_map f (upfrom b (m + k))))
    ∙ flat_pass f b m k (λ x p q. h x p (omega arith)))

module _ {ls : Links} {n : ℕ} (T : Tree ls n) {terminal : ℕ → ℕ} {r : ℕ} {done : List ℕ} (M : Marked ls n terminal [] r done) where
  -- what is done is done in its whole region
  whole-region : (x y : ℕ) → region ls terminal x ≡ region ls terminal y → look done x ≡ 1 → look done y ≡ 1
  unfolding region
  whole-region x y e = kept_induct (within ls terminal) ls (λ z. look done z ≡ 1)
      (λ i l w. (
        step i l w (one ls i) (two ls i) (at_first ls i refl) (at_second ls i refl),
        step i l w (two ls i) (one ls i) (at_second ls i refl) (at_first ls i refl),
      ))
      x y e
    where
      step : (i : ℕ) → i < length ls → within ls terminal i ≡ 1 → (x y : ℕ) → at ls x i ≡ 1 → at ls y i ≡ 1 → look done x ≡ 1 → look done y ≡ 1
      step i l w x y p q o = unfold Due in (elim (M.closed i x y l w p q o) [ inl z ↦ z | inr z ↦ absurd z ])

  covered_inner : (x : ℕ) → terminal x ≢ 1 → covered terminal done x ≡ 1 → look done x ≡ 1
  unfolding covered
  covered_inner x d e = sym (pick_other d 1 (look done x)) ∙ e

  -- a site above r that is done is no root
  no_root : (x : ℕ) → Site n x → r < x → look done x ≡ 1 → root ls terminal n x ≢ 1
  no_root x p l e z =
      let q = M.rooted x e in
      let low = ((root_iff_lowest ls terminal n x p).0 z).1 q.0 q.1 (root_inner ls terminal n q.0 q.2) (sym q.4) in
      omega (arith, low, q.3)

  module _ (t : ℕ → ℕ) where
    abbrev of_part : ℕ → List Pair
    of_part = pairs_of_part ls n t terminal

    none_here : (x : ℕ) → Site n x → r < x → covered terminal done x ≡ 1 → of_part x ≡ []
    unfolding pairs_of_part
    none_here x p l e = pick_other {u = root ls terminal n x} {v = 1}
        (λ z. no_root x p l (covered_inner x (root_inner ls terminal n x z) e) z) (pairs_from ls n t terminal x) []

    -- no root above r: its pairs are the last
    pub no_more : 0 ≡ lowest_inner (covered terminal done) (suc r) (n - r) → r ≤ n → flat_map of_part (sites n) ≡ flat_map of_part (sites r)
    no_more e l =
        let all : r + (n - r) ≡ n = omega arith in
        rw all at (flat_pass of_part 1 r (n - r) (λ x p q. none_here x (omega arith, omega arith) (omega arith)
        (lowest-none (covered terminal done) (suc r) (n - r) (omega arith) (sym e) x (omega arith) (omega arith))))

  module _ {q : ℕ} (low : q ≡ lowest_inner (covered terminal done) (suc r) (n - r)) (some : q ≢ 0) where
    found : (r < q) × (q ≤ n) × (covered terminal done q ≢ 1)
    found =
        let s = rw (← low) at (lowest-some (covered terminal done) (suc r) (n - r) (λ z. some (low ∙ z))) in
        (omega (arith, s.0), omega (arith, s.0, s.1), s.2)

    -- the sites from r up to it are covered
    passed_over : (x : ℕ) → r < x → x < q → covered terminal done x ≡ 1
    passed_over x a b = same? (covered terminal done x) 1 (λ e. e)
        (λ d. absurd (omega (arith, low, found, lowest_least (covered terminal done) (suc r) (n - r) x a (omega (arith, found)) d)))

    below : (x : ℕ) → 1 ≤ x → x ≤ q → x ≢ q → terminal x ≢ 1 → look done x ≡ 1
    below x p l d i = cases (dec_lt r x) (λ m. covered_inner x i (passed_over x m (omega arith))) (λ m. M.passed x p (omega arith) i)

    pub next-site : (1 ≤ q) × (q ≤ n) × (r < q)
    next-site = (omega (arith, found), found.1, found.0)

    pub next_inner : terminal q ≢ 1
    unfolding covered
    next_inner e = found.2 (pick_same e 1 (look done q))

    not_done : look done q ≢ 1
    unfolding covered
    not_done e = found.2 (pick_other next_inner 1 (look done q) ∙ e)

    -- the lowest inner site that is not done is a root
    pub next-is-root : root ls terminal n q ≡ 1
    next-is-root = (root_iff_lowest ls terminal n q (next-site.0, next-site.1)).1 (
      next_inner,
      λ y p d e. cases (dec_lt y q) (λ l. absurd (not_done (whole-region y q e (below y p.0 (omega arith) (λ z. omega arith) d)))) (λ l. omega arith),
    )

    -- so the pairs of the parts up to its own are those up to r, and its own
    pub one_more : (t : ℕ → ℕ)
        → flat_map (pairs_of_part ls n t terminal) (sites q) ≡ flat_map (pairs_of_part ls n t terminal) (sites r) ++ pairs_from ls n t terminal q
    unfolding pairs_of_part
    one_more t =
        let f = pairs_of_part ls n t terminal in
        let s = next-site in
        let more : q ≡ suc (r + (q - 1 - r)) = omega (arith, s) in
        let here : 1 + (r + (q - 1 - r)) ≡ q = omega (arith, s) in
        ap (λ m. flat_map f (sites m)) more
        ∙ flat-next f 1 (r + (q - 1 - r))
        ∙ rw (
          here,
          flat_pass f 1 r (q - 1 - r) (λ x a b. none_here t x (omega arith, omega (arith, s)) (omega arith) (passed_over x (omega arith) (omega (arith, s)))),
          pick_same next-is-root (pairs_from ls n t terminal q) [],
        )

    -- and it is done now
    pub marked-root : {s₀ j down : ℕ} {base : Tops} {h : Frame} → length ls ≤ j → q < PLACES → Entered ls s₀ q j down base h
        → Marked ls n terminal (h ∷ []) q (set done q 1)
    marked-root l inside E =
        let s = next-site in
        marked_enters T M E inside (λ y k. absurd (omega arith)) (λ x y d o. d) tt (q, (s.0, s.1), next-is-root, omega arith, refl)
        (omega (arith, s)) below

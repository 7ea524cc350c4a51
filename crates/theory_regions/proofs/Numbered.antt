-- The joined tree as it is numbered through is a joined tree: the first region keeps its numbers, the second's own sites and links follow in their order.
use Rattle.std.specs.Prelude.{◌≡◌, ◌≢◌, ◌⊎◌, map}
use Rattle.std.proofs.Math.Path.{refl, ap}
use Rattle.std.proofs.Common.{sym, ◌∙◌, inl, inr, get_or-append-add}
use Rattle.std.proofs.Math.Logic.{if_pos, if_neg}
use Prim.Native.Nat.{ℕ, zero, suc, ◌+◌, ◌-◌, ◌≤◌, ◌<◌, min, max}
use native.Mathlib.Omega.{arith}
use Rattle.std.proofs.Math.Decide.{dec_lt, dec_le}
use Rattle.std.proofs.Math.ListN.{length, get_or, length-map, length-append, get_or-append}
use Rattle.lists.specs.Numbers.{look}
use Rattle.lists.specs.Sums.{pick_same, pick_other, same?, cases}
use Rattle.lists.specs.Places.{look-from}
use Rattle.model.specs.Flows.{Site, one, two, mark, sites}
use Rattle.theory_regions.specs.Regions.{Region}
use Rattle.theory_regions.specs.JoinedTree.{Between, Border, Bordered, Lies, Joins, down, up, left_out, rank, ranked, place}
use Rattle.theory_regions.specs.JoinedTree.{glued, moved, joined_tree}
use Rattle.theory_regions.specs.Meeting.{near-site, far-site, near-is-not-far}
use Rattle.theory_regions.specs.Numbers.{up-down, down-up, up-is-other, down-below, up-below, two_down, two_up}
use Rattle.theory_regions.specs.Numbers.{left_out_at, length_left_out, map_at}
use Rattle.theory_regions.specs.Numbered.{to, link-to, place-near, place-far, position_shared, position-own}

-- ---- the own sites of a region
module _ {b : Region} {q : Border} (B : Bordered b q) where
  -- an own site, neither near nor far, with its number
  record Own (y : ℕ) : Type 0 where
    not-near : y ≢ q.near
    not-far : y ≢ q.far
    low : 1 ≤ rank q y
    high : rank q y + 2 ≤ b.sites
    again : ranked q (rank q y) ≡ y

  abbrev lower : ℕ
  lower = min q.near q.far

  abbrev higher : ℕ
  higher = max q.near q.far

  own-site : (y : ℕ) → Site b.sites y → y ≢ q.near → y ≢ q.far → Own y
  unfolding rank ranked
  own-site y s dn df =
      let near = near-site B in
      let far = far-site B in
      let r = two_down lower higher y b.sites (omega (arith, near-is-not-far B)) (omega arith) (omega arith) s (omega arith) (omega arith) in
      record { not-near = dn; not-far = df; low = r.0; high = r.1; again = r.2 }

  ranked-site : (r : ℕ) → 1 ≤ r → r + 2 ≤ b.sites → Site b.sites (ranked q r) × Own (ranked q r) × (rank q (ranked q r) ≡ r)
  unfolding rank ranked
  ranked-site r l h =
      let w = two_up lower higher r b.sites (omega (arith, near-is-not-far B)) l h in
      (w.0, own-site (ranked q r) w.0 (omega (arith, w.1, w.2)) (omega (arith, w.1, w.2)), w.3)

  which : (y : ℕ) → Site b.sites y → (y ≡ q.near) ⊎ ((y ≡ q.far) ⊎ Own y)
  which y s = same? y q.near inl (λ dn. inr (same? y q.far inl (λ df. inr (own-site y s dn df))))

-- ---- the numbers of the second region's sites and links
module _ {a : Region} {p : Border} {b : Region} {q : Border} (A : Bordered a p) (B : Bordered b q) where
  place-own : (y : ℕ) → Own B y → to A B y ≡ a.sites + rank q y
  unfolding place
  place-own y o = pick_other o.not-near _ _ ∙ pick_other o.not-far _ _

  -- what is said of the sites of both regions
  pub glued-first : {W : Type 0} (f g : ℕ → W) (x : ℕ) → Site a.sites x → x ≢ p.far → glued a p b q f g x ≡ f x
  unfolding glued
  glued-first f g x s d = pick_other d _ _ ∙ if_pos (dec_le x a.sites) s.1 _ _

  pub glued-far : {W : Type 0} (f g : ℕ → W) → glued a p b q f g p.far ≡ g q.near
  unfolding glued
  glued-far f g = pick_same refl _ _

  glued-own : {W : Type 0} (f g : ℕ → W) (y : ℕ) → Own B y → glued a p b q f g (to A B y) ≡ g y
  unfolding glued
  glued-own f g y o =
      let z = a.sites + rank q y in
      let back : z - a.sites ≡ rank q y = omega arith in
      let far = far-site A in
      rw (place-own y o) (pick_other (λ e. omega (arith, o.low)) _ _ ∙ if_neg (dec_le z a.sites) (λ h. omega (arith, o.low)) _ _
      ∙ ap (λ r. g (ranked q r)) back ∙ ap g o.again)

  pub glued-second : {W : Type 0} (f g : ℕ → W) (y : ℕ) → Site b.sites y → y ≢ q.far → glued a p b q f g (to A B y) ≡ g y
  glued-second f g y s d = elim (which B y s) [
    | inl e ↦ rw (e, place-near A B) (glued-far f g)
    | inr w ↦ elim w [ inl e ↦ absurd (d e) | inr o ↦ glued-own f g y o ]
  ]

  -- ---- each its own

  -- what the number of a site of the second region tells of it
  place_cases : (y : ℕ) → Site b.sites y
      → ((y ≡ q.near) × (to A B y ≡ p.far)) ⊎ (((y ≡ q.far) × (to A B y ≡ p.near))
      ⊎ ((a.sites < to A B y) × (to A B y + 2 ≤ a.sites + b.sites) × (ranked q (to A B y - a.sites) ≡ y)))
  place_cases y s = elim (which B y s) [
    | inl e ↦ inl (e, ap (to A B) e ∙ place-near A B)
    | inr w ↦ inr (elim w [
      | inl e ↦ inl (e, ap (to A B) e ∙ place-far A B)
      | inr o ↦
          let z = place-own y o in
          let back : to A B y - a.sites ≡ rank q y = omega arith in
          inr (omega (arith, o.low), omega (arith, o.high), ap (ranked q) back ∙ o.again)
    ])
  ]

  place_once : (x y : ℕ) → Site b.sites x → Site b.sites y → to A B x ≡ to A B y → x ≡ y
  place_once x y r s e =
      let near = near-site A in
      let far = far-site A in
      let apart = near-is-not-far A in
      elim (place_cases x r) [
        | inl f ↦ elim (place_cases y s) [
          | inl g ↦ f.0 ∙ sym g.0
          | inr h ↦ elim h [ inl g ↦ absurd (apart (sym g.1 ∙ sym e ∙ f.1)) | inr g ↦ absurd (omega (arith, f.1, g.0)) ]
        ]
        | inr w ↦ elim w [
          | inl f ↦ elim (place_cases y s) [
            | inl g ↦ absurd (apart (sym f.1 ∙ e ∙ g.1))
            | inr h ↦ elim h [ inl g ↦ f.0 ∙ sym g.0 | inr g ↦ absurd (omega (arith, f.1, g.0)) ]
          ]
          | inr f ↦ elim (place_cases y s) [
            | inl g ↦ absurd (omega (arith, g.1, f.0))
            | inr h ↦ elim h [ inl g ↦ absurd (omega (arith, g.1, f.0)) | inr g ↦ sym f.2 ∙ ap (λ z. ranked q (z - a.sites)) e ∙ g.2 ]
          ]
        ]
      ]

  position_once : (i k : ℕ) → i < length b.links → k < length b.links → link-to A B i ≡ link-to A B k → i ≡ k
  position_once i k l m e =
      let s = q.shared in
      let here = A.here in
      same? i s
      (λ ei. same? k s
      (λ ek. ei ∙ sym ek)
      (λ dk. absurd (omega (arith, rw ei at e, position_shared A B, position-own A B k dk))))
      (λ di. same? k s
      (λ ek. absurd (omega (arith, rw ek at e, position_shared A B, position-own A B i di)))
      (λ dk.
      let r : down s i ≡ down s k = omega (arith, position-own A B i di, position-own A B k dk) in
      sym (up-down s i di) ∙ ap (up s) r ∙ up-down s k dk))

  -- ---- the links, the capacities and the marks

  abbrev tree : Region
  tree = joined_tree a p b q

  pub joined_length : suc (length tree.links) ≡ length a.links + length b.links
  unfolding joined_tree
  joined_length =
      let rest = left_out q.shared b.links in
      omega (
        arith,
        length-append a.links (map (moved a p b q) rest),
        length-map rest (moved a p b q),
        length_left_out q.shared b.links B.here,
      )

  pub joined_sized : length tree.capacities ≡ length tree.links
  joined_sized = omega (arith, joined_length, capacities-there, A.sized, B.sized)
    where
      capacities-there : suc (length tree.capacities) ≡ length a.capacities + length b.capacities
      capacities-there = unfold joined_tree in omega (
        arith,
        length-append a.capacities (left_out q.shared b.capacities),
        length_left_out q.shared b.capacities (omega (arith, B.sized, B.here)),
      )

  link-first : (i : ℕ) → i < length a.links → get_or tree.links i (0, 0) ≡ get_or a.links i (0, 0)
  unfolding joined_tree
  link-first i l = get_or-append a.links (map (moved a p b q) (left_out q.shared b.links)) (0, 0) i l

  link-second : (k : ℕ) → k < length b.links → k ≢ q.shared → get_or tree.links (link-to A B k) (0, 0) ≡ moved a p b q (get_or b.links k (0, 0))
  unfolding joined_tree
  link-second k l d =
      let s = q.shared in
      let rest = left_out s b.links in
      let r = down s k in
      let short : r < length rest = omega (arith, down-below s k (length b.links) B.here l d, length_left_out s b.links B.here) in
      rw (position-own A B k d) (get_or-append-add a.links (map (moved a p b q) rest) r (0, 0) ∙ map_at (moved a p b q) rest r (0, 0) (0, 0) short
      ∙ ap (moved a p b q) (left_out_at s b.links r (0, 0) ∙ ap (λ i. get_or b.links i (0, 0)) (up-down s k d)))

  size-first : (i : ℕ) → i < length a.links → look tree.capacities i ≡ look a.capacities i
  unfolding joined_tree
  size-first i l = get_or-append a.capacities (left_out q.shared b.capacities) 0 i (omega (arith, A.sized))

  size-second : look a.capacities p.shared ≡ look b.capacities q.shared → (k : ℕ) → look tree.capacities (link-to A B k) ≡ look b.capacities k
  unfolding joined_tree
  size-second same k = same? k q.shared
      (λ e. rw (e, position_shared A B) (size-first p.shared A.here ∙ same))
      (λ d. rw (position-own A B k d, ← A.sized) (get_or-append-add a.capacities (left_out q.shared b.capacities) (down q.shared k) 0
      ∙ left_out_at q.shared b.capacities (down q.shared k) 0 ∙ ap (look b.capacities) (up-down q.shared k d)))

  mark-there : (z : ℕ) → Site tree.sites z → mark tree.marks z ≡ glued a p b q (mark a.marks) (mark b.marks) z
  unfolding joined_tree
  mark-there zero s = absurd (omega arith)
  mark-there (suc z) s = look-from (glued a p b q (mark a.marks) (mark b.marks)) 1 (a.sites + b.sites - 2) z (omega arith)
      ∙ ap (glued a p b q (mark a.marks) (mark b.marks)) (omega arith)

  sites-there : tree.sites + 2 ≡ a.sites + b.sites
  unfolding joined_tree
  sites-there = omega (arith, A.tree.big, B.tree.big)

  -- ---- each region lies there

  first-inside : (x : ℕ) → Site a.sites x → Site tree.sites x
  first-inside x s = omega (arith, sites-there, B.tree.big)

  pub the_first_region_lies_there : Lies a p tree (λ x. x) (λ i. i)
  the_first_region_lies_there = record {
    inside = first-inside;
    within = λ i l. omega (arith, joined_length, B.here);
    carried = λ i l. inl (ap (λ w. w.0) (link-first i l), ap (λ w. w.1) (link-first i l));
    site_once = λ x y r s e. e;
    link_once = λ i k l m e. e;
    size = size-first;
    same-mark = λ x s d. mark-there x (first-inside x s) ∙ glued-first (mark a.marks) (mark b.marks) x s d;
  }

  second-inside : (y : ℕ) → Site b.sites y → Site tree.sites (to A B y)
  second-inside y s =
      let n = sites-there in
      elim (place_cases y s) [
        | inl h ↦ rw h.1 (first-inside p.far (far-site A))
        | inr w ↦ elim w [
          | inl h ↦ rw h.1 (first-inside p.near (near-site A))
          | inr h ↦ omega (arith, h.0, h.1)
        ]
      ]

  shared_carried : Between tree.links p.shared (to A B (one b.links q.shared)) (to A B (two b.links q.shared))
  shared_carried =
      let e0 : one tree.links p.shared ≡ one a.links p.shared = ap (λ w. w.0) (link-first p.shared A.here) in
      let e1 : two tree.links p.shared ≡ two a.links p.shared = ap (λ w. w.1) (link-first p.shared A.here) in
      elim B.between [
        | inl h ↦ rw (h.0, h.1, place-near A B, place-far A B) (elim A.between [
          | inl g ↦ inr (e0 ∙ g.0, e1 ∙ g.1)
          | inr g ↦ inl (e0 ∙ g.0, e1 ∙ g.1)
        ])
        | inr h ↦ rw (h.0, h.1, place-near A B, place-far A B) (elim A.between [
          | inl g ↦ inl (e0 ∙ g.0, e1 ∙ g.1)
          | inr g ↦ inr (e0 ∙ g.0, e1 ∙ g.1)
        ])
      ]

  module _ (same : look a.capacities p.shared ≡ look b.capacities q.shared) where
    pub the_second_region_lies_there : Lies b q tree (to A B) (link-to A B)
    the_second_region_lies_there = record {
      inside = second-inside;
      within = λ k l. same? k q.shared
          (λ e. rw (e, position_shared A B) (omega (arith, joined_length, A.here, B.here)))
          (λ d. rw (position-own A B k d) (omega (arith, joined_length, down-below q.shared k (length b.links) B.here l d)));
      carried = λ k l. same? k q.shared
          (λ e. rw (e, position_shared A B) shared_carried)
          (λ d. inl (ap (λ w. w.0) (link-second k l d), ap (λ w. w.1) (link-second k l d)));
      site_once = place_once;
      link_once = position_once;
      size = λ k l. size-second same k;
      same-mark = λ y s d. mark-there (to A B y) (second-inside y s) ∙ glued-second (mark a.marks) (mark b.marks) y s d;
    }

    each-site-of-one : (z : ℕ) → Site tree.sites z
        → ((x : ℕ) × Site a.sites x × (x ≡ z)) ⊎ ((y : ℕ) × Site b.sites y × (to A B y ≡ z))
    each-site-of-one z s = cases (dec_le z a.sites)
        (λ h. inl (z, (s.0, h), refl))
        (λ h.
        let r = z - a.sites in
        let w = ranked-site B r (omega arith) (omega (arith, sites-there)) in
        inr (ranked q r, w.0, place-own (ranked q r) w.1 ∙ ap (λ x. a.sites + x) w.2 ∙ omega arith))

    each-link-of-one : (j : ℕ) → j < length tree.links
        → ((i : ℕ) × (i < length a.links) × (i ≡ j)) ⊎ ((k : ℕ) × (k < length b.links) × (link-to A B k ≡ j))
    each-link-of-one j l = cases (dec_lt j (length a.links))
        (λ h. inl (j, h, refl))
        (λ h.
        let s = q.shared in
        let r = j - length a.links in
        inr (
          up s r,
          up-below s r (length b.links) (omega (arith, joined_length)),
          (position-own A B) (up s r) (up-is-other s r) ∙ ap (λ w. length a.links + w) (down-up s r) ∙ omega arith,
        ))

    pub the_joined_tree_joins : Joins a p b q tree (λ x. x) (λ i. i) (to A B) (link-to A B)
    the_joined_tree_joins = record {
      first = the_first_region_lies_there;
      second = the_second_region_lies_there;
      near-far = sym (place-far A B);
      far-near = sym (place-near A B);
      common = λ x y r s e. elim (place_cases y s) [
        | inl h ↦ inr (e ∙ h.1, h.0)
        | inr w ↦ elim w [ inl h ↦ inl (e ∙ h.1, h.0) | inr h ↦ absurd (omega (arith, h.0)) ]
      ];
      each-site = each-site-of-one;
      sites_once = sites-there;
      one_link = sym (position_shared A B);
      only = λ i k l m e. same? k q.shared
          (λ z. (e ∙ ap (link-to A B) z ∙ position_shared A B, z))
          (λ d. absurd (omega (arith, position-own A B k d)));
      each-link = each-link-of-one;
    }

-- Odd pieces are counted at their first sites, seen from the root: B and c there have the parity of the links that leave the piece. By adding up B over the
-- sites of a piece: below a site in no set, the high b of a child has the parity of its B or of its c. Letters as in Loads.
use Rattle.std.specs.Prelude.{◌≡◌, ◌≢◌, ◌⊎◌}
use Rattle.std.proofs.Math.Path.{refl, sym, ap}
use Rattle.std.proofs.Common.{◌∙◌, inl, inr}
use mathlib.Core.List.{List, [], ◌∷◌}
use Prim.Native.Nat.{ℕ, ◌+◌, ◌*◌, ◌%◌, ◌≤◌}
use native.Mathlib.Omega.{arith}
use Rattle.std.proofs.Math.Decide.{dec_le}
use Rattle.lists.specs.Numbers.{is, differ, count, over}
use Rattle.lists.specs.Sums.{is_same, is-other, is_iff, same?, cases, differ_same, differ-other}
use Rattle.lists.specs.Places.{over_add, over-eq, over-is}
use Rattle.theory_whole.specs.Sums.{over_none, over_even}
use Rattle.theory_whole.specs.Numbers.{interval_open, interval_whole, interval_closed}
use Rattle.theory_whole.specs.Rooted.{children, Child, Rooted}
use Rattle.theory_whole.specs.Loads.{Inwards, fine}
use Rattle.theory_whole.specs.Sets.{Choice, path, Chains, Owners, on_yes, on_end, goal_end, path_off, site-zero}
use Rattle.theory_whole.specs.Counting.{odd_at}
use Rattle.theory_whole.proofs.Counting.{odd_owned, odd_up, odd_zero, odd_more}
use Rattle.theory_whole.specs.Pieces.{Firsts, member, leaving, joins, firsts}

module _ {us : List ℕ} {par pos : ℕ → ℕ} (R : Rooted us par pos) {c term A B a b top : ℕ → ℕ} (I : Inwards us par c term A B a b top)
    {goal owner on : ℕ → ℕ} (D : Chains us par c term A top goal) (O : Owners us par c term A B top goal owner on)
    {rep : ℕ → ℕ} (F : Firsts us par c owner rep) where
  -- ---- Lemma 9: below a site in no set, b has the parity of B, or of c
  module _ (v w : ℕ) (k : Child us par v w) (p : 1 ≤ count us v) (n : owner v ≡ 0) where
    child-path : path us par c term top on w ≡ 0
    child-path = path_off R I D O w (λ e. let o = rw k.parent at e in
        site-zero R I D (goal_end R I D v p).0 (sym (on_yes R I D O v p o).1 ∙ n))

    child-parity : (owner w ≡ 0 → c w ≢ 0 → (b w + B w) % 2 ≡ 0) × ((owner w ≢ 0) ⊎ (c w ≡ 0) → (b w + c w) % 2 ≡ 0)
    child-parity = look (O.rule w k.site)
      where
        inner : on w ≡ 0 → term w ≢ 1
        inner o m = omega (arith, on_end R I D O w k.site m)

        wide : (2 ≤ A w → (A w ≤ c w) × (path us par c term top on w ≡ 0)) → c w ≢ 0 → A w ≤ c w
        wide h d = cases (dec_le 2 (A w)) (λ j. (h j).0) (λ j. omega arith)

        look : Choice (A w) (B w) (c w) (path us par c term top on w) (owner (par w)) (goal w) (owner w) (on w)
            → (owner w ≡ 0 → c w ≢ 0 → (b w + B w) % 2 ≡ 0) × ((owner w ≢ 0) ⊎ (c w ≡ 0) → (b w + c w) % 2 ≡ 0)
        look (Choice.head h l o q) =
            ((λ e. absurd (site-zero R I D (goal_end R I D w k.site).0 (sym q ∙ e))), λ _. omega (arith, interval_closed (I.link w k.site) l))
        look (Choice.chain h l o q) = absurd (omega (arith, child-path))
        look (Choice.kept h l o q) =
            let f = fine R I w k.site in
            let s = interval_whole (I.link w k.site) (f.site_order (inner o)) (f.site_parity (inner o)) l in
            let e : owner w ≡ 0 = q ∙ ap owner k.parent ∙ n in
            ((λ _ d. omega arith), λ z. elim z [ inl d ↦ absurd (d e) | inr y ↦ omega arith ])
        look (Choice.free h l o q) =
            let f = fine R I w k.site in (
              (λ _ d. (interval_open (I.link w k.site) (f.site_order (inner o)) (f.site_parity (inner o)) (wide h d)).1),
              λ z. elim z [ inl d ↦ absurd (d q) | inr y ↦ omega (arith, f.capacity) ],
            )

  -- ---- the links that leave a piece

  exchange : (g b : ℕ → ℕ) → g 0 ≡ 0 → (ws : List ℕ) → ((w : ℕ) → 1 ≤ count ws w → 1 ≤ count us w)
      → over us (λ v. g v * over ws (λ w. is (par w) v * b w)) ≡ over ws (λ w. g (par w) * b w)
  unfolding over count
  exchange g b z [] h = omega (arith, over_none us, over-eq us (λ v. g v * 0) (λ v. 0) (λ v p. omega arith))
  exchange g b z (w ∷ ws) h =
      let home : count us (par w) * (g (par w) * b w) ≡ g (par w) * b w = same? (par w) 0
      (λ e. rw (e, z) (omega arith))
      (λ d. let o : count us (par w) ≡ 1 = omega (arith, R.once (par w), R.home w (h w (omega (arith, is_same {u = w} refl))) d) in
      rw o (omega arith)) in
      omega (
        arith,
        exchange g b z ws (λ x p. h x (omega arith)),
        over-eq us (λ v. g v * (is (par w) v * b w + over ws (λ w. is (par w) v * b w)))
            (λ v. is v (par w) * (g v * b w) + g v * over ws (λ w. is (par w) v * b w)) (λ v p. rw (is_iff (par w) v v (par w) sym sym) (omega arith)),
        over_add us (λ v. is v (par w) * (g v * b w)) (λ v. g v * over ws (λ w. is (par w) v * b w)),
        over-is us (par w) (λ v. g v * b w),
      )

  module _ (r : ℕ) (p : 1 ≤ count us r) (n : owner r ≡ 0) (e : rep r ≡ r) where
    abbrev inside : ℕ → ℕ
    inside v = member us par c owner rep r v

    inside-yes : (v : ℕ) → owner v ≡ 0 → rep v ≡ r → inside v ≡ 1
    unfolding member
    inside-yes v o q = rw (is_same o, is_same q) refl

    inside-no : (v : ℕ) → rep v ≢ r → inside v ≡ 0
    unfolding member
    inside-no v d = rw (is-other d) (omega arith)

    inside-set : (v : ℕ) → owner v ≢ 0 → inside v ≡ 0
    unfolding member
    inside-set v d = rw (is-other d) (omega arith)

    inside-zero : inside 0 ≡ 0
    inside-zero = inside-no 0 (λ q. site-zero R I D p (sym q ∙ F.nowhere))

    -- a site is inside, or not
    inside? : {C : Type 0} (v : ℕ) → (owner v ≡ 0 → rep v ≡ r → inside v ≡ 1 → C) → (inside v ≡ 0 → C) → C
    inside? v f g = same? (owner v) 0
        (λ o. same? (rep v) r (λ q. f o q (inside-yes v o q)) (λ q. g (inside-no v q)))
        (λ o. g (inside-set v o))

    -- no site above r is inside
    above-out : inside (par r) ≡ 0
    above-out = same? (par r) 0
        (λ z. rw z inside-zero)
        (λ d. inside-no (par r) (λ q. omega (arith, R.later r p, (firsts R I D O F (par r) (R.home r p d)).above, ap pos q)))

    each : (w : ℕ) → 1 ≤ count us w
        → (inside (par w) * b w + is w r * (B w + c w) + differ (inside w) (inside (par w)) * c w + inside w * B w) % 2 ≡ 0
    each w q = same? w r
        (λ z. rw (z, above-out, inside-yes r n e, is_same {u = r} refl, differ-other {u = 1} {v = 0} (λ y. omega arith)) (omega arith))
        (λ z. inside? (par w)
        (λ o f i. let d : par w ≢ 0 = λ y. omega (arith, i, inside-zero, ap inside y) in
        let parity = child-parity (par w) w (record { site = q; parent = refl }) (R.home w q d) o in
        (joins R I D O F) w q
        (λ ow _ cw rw'. rw (i, inside-yes w ow (rw' ∙ f), is-other z, differ_same {u = 1} refl) (omega (arith, parity.0 ow cw)))
        (λ own. let out : inside w ≡ 0 = inside-no w (λ y. z (sym own ∙ y)) in
        let even : (b w + c w) % 2 ≡ 0 = parity.1 (same? (owner w) 0
        (λ ow. same? (c w) 0 inr (λ cw. absurd (omega (arith, i, out, inside-yes w ow (F.joined w q ow o cw ∙ f)))))
        inl) in
        rw (i, out, is-other z, differ-other {u = 0} {v = 1} (λ y. omega arith)) (omega arith)))
        (λ i. let out : inside w ≡ 0 = inside? w
        (λ ow f y. joins R I D O F w q
        (λ _ ou cw rw'. absurd (omega (arith, inside-yes (par w) ou (sym rw' ∙ f))))
        (λ own. absurd (z (sym own ∙ f))))
        (λ y. y) in
        rw (i, out, is-other z, differ_same {u = 0} refl) (omega arith)))

    leaving-odd : leaving us par c owner rep r % 2 ≡ (B r + c r) % 2
    unfolding leaving children
    leaving-odd =
        let t1 : ℕ → ℕ = λ w. inside (par w) * b w in
        let t2 : ℕ → ℕ = λ w. is w r * (B w + c w) in
        let t3 : ℕ → ℕ = λ w. differ (inside w) (inside (par w)) * c w in
        let t4 : ℕ → ℕ = λ w. inside w * B w in
        let one : count us r ≡ 1 = omega (arith, R.once r, p) in
        omega (
          arith,
          over_even us (λ w. t1 w + t2 w + t3 w + t4 w) each,
          over_add us (λ w. t1 w + t2 w + t3 w) t4,
          over_add us (λ w. t1 w + t2 w) t3,
          over_add us t1 t2,
          rw one at (over-is us r (λ w. B w + c w)),
          over-eq us t4 (λ w. inside w * children us par w b) (λ w q. ap (λ y. inside w * y) (I.sum w q)),
          exchange inside b inside-zero us (λ x q. q),
        )

  -- part 5 of the theorem: the odd pieces, by their first sites
  pub odd_pieces_lem : over us (odd_at par c B owner) ≡ over us (λ r. is (owner r) 0 * (is (rep r) r * (leaving us par c owner rep r % 2)))
  odd_pieces_lem = over-eq us (odd_at par c B owner) (λ r. is (owner r) 0 * (is (rep r) r * (leaving us par c owner rep r % 2))) (λ r p. same? (owner r) 0
      (λ n. rw (is_same n) (same? (rep r) r
      (λ e. rw (is_same e, leaving-odd r p n e) (same? (owner (par r)) 0
      (λ u. same? (c r) 0
      (λ z. rw (odd_zero par c B owner r n u z, z) (omega arith))
      (λ d. absurd (omega (arith, R.later r p, (firsts R I D O F (par r) (R.home r p (λ y. d (I.bare r p y)))).above, ap pos (sym (F.joined r p n u d) ∙ e)))))
      (λ u. rw (odd_up par c B owner r n u) (omega arith))))
      (λ d. same? (owner (par r)) 0
      (λ u. same? (c r) 0 (λ z. absurd (d (F.at_none r p z))) (λ z. rw (is-other d, odd_more par c B owner r n u z) (omega arith)))
      (λ u. absurd (d (F.at_set r p u))))))
      (λ n. rw (is-other n, odd_owned par c B owner r n) (omega arith)))

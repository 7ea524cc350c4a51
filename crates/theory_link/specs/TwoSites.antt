-- A tree of two sites: one link, and both sites are ends (01, "Pairing": with two sites only). The link carries all of its capacity, each site is in the
-- set of its own, and the pair list is one pair of twice the capacity, or none for capacity 0; in halves and in whole circuits.
use Rattle.std.specs.Prelude.{◌≡◌, ◌≢◌, ◌⊎◌, length}
use Rattle.std.proofs.Math.Path.{refl, fun_ext}
use Rattle.std.proofs.Common.{sym, ap, ◌∙◌, zero-mul}
use Rattle.std.proofs.Math.Logic.{inl, inr}
use mathlib.Core.List.{List, [], ◌∷◌, ◌++◌, flat_map, append-nil}
use Prim.Native.Nat.{ℕ, zero, suc, ◌+◌, ◌*◌}
use Rattle.std.proofs.Math.Decide.{ℕ_discrete, dec_lt}
use native.Mathlib.Omega.{arith}
use Rattle.lists.specs.Numbers.{pick, is, differ, less, sum, over, upfrom, look}
use Rattle.lists.specs.Sums.{contradiction, pick_other, pick_const, same?, is_same, is_one, differ_same, less_none}
use Rattle.model.specs.Flows.{Links, Tree, sites, mark, end_at, ends, at, sum_at, leaf, label, without, side, separates, load, total, at_terminals}
use Rattle.model.specs.Trimming.{Balanced, balanced}
use Rattle.model.specs.Cuts.{kept, group, in_cut, cut_size, cut_count, owner_among, owner}
use Rattle.model.specs.Pairing.{put, give, lower_first, insert, ordered}
use Rattle.model.specs.Parts.{region, lowest, single, root, pairs_of_part, pair_of_link, pairs_of_parts, pair_list_of_parts}
use Rattle.model.specs.Whole.{WholePlan, LargestWhole, set_size, set_count, in_piece, odd_pieces}
use Rattle.model.specs.declared.Pair.{Pair}
use Rattle.theory_trees.proofs.Greatest.{balanced_is_its_own_greatest, greatest_is_balanced}

-- the pair list of a link of capacity c between the sites 1 and 2
unfoldable pub link_pairs : ℕ → List Pair
link_pairs c = give 1 (put 2 (2 * c) [])

put_some : (x a : ℕ) → a ≢ 0 → put x a [] ≡ (x, a) ∷ []
unfolding put
put_some x zero d = absurd (d refl)
put_some x (suc a) d = refl

pub one-pair : (c : ℕ) → c ≢ 0 → link_pairs c ≡ record { first = 1; second = 2; amount = 2 * c } ∷ []
unfolding link_pairs give
one-pair c d = rw (put_some 2 (2 * c) (λ e. d (omega arith)))

-- ---- computed

-- the first of the ends 1 and 2 that is x
unfoldable among : ℕ → ℕ
among x = pick (is 1 1 * is x 1) 1 1 (pick (is 1 1 * is x 2) 1 2 0)

each_is_found : (among 1 ≡ 1) × (among 2 ≡ 2)
unfolding among is pick ℕ_discrete
each_is_found = (refl, refl)

-- 1 if just one of a and b is x
unfoldable leaving : ℕ → ℕ → ℕ → ℕ
leaving a b x = differ (is a x) (is b x)

each-is-left : (leaving 1 2 1 ≡ 1) × (leaving 1 2 2 ≡ 1) × (leaving 2 1 1 ≡ 1) × (leaving 2 1 2 ≡ 1)
unfolding leaving differ is pick ℕ_discrete
each-is-left = (refl, refl, refl, refl)

each_is_there_once : (is 1 1 + (is 2 1 + 0) ≡ 1) × (is 1 2 + (is 2 2 + 0) ≡ 1)
unfolding is pick ℕ_discrete
each_is_there_once = (refl, refl)

none_is_site_0 : (is 1 0 ≡ 0) × (is 2 0 ≡ 0)
unfolding is pick ℕ_discrete
none_is_site_0 = (refl, refl)

both_are_ends : (l : List Pair) → pick (is 1 1 * is 1 1) 1 l [] ++ [] ≡ l
unfolding is pick ℕ_discrete
both_are_ends l = append-nil l

-- ---- its link

-- the link joins site 1 and site 2, in either order
abbrev pub Shape : Links → Type 0
Shape ls = (ls ≡ (1, 2) ∷ []) ⊎ (ls ≡ (2, 1) ∷ [])

module _ {ls : Links} (shape : Shape ls) where
  pub one_link : length ls ≡ 1
  one_link = elim shape [ inl e ↦ ap length e | inr e ↦ ap length e ]

  -- both sites have just one link, and there is no site 0
  pub the_first_site_is_a_leaf : leaf ls 1 ≡ 1
  unfolding leaf sum_at sum at pick is ℕ_discrete
  the_first_site_is_a_leaf = elim shape [ inl e ↦ rw e refl | inr e ↦ rw e refl ]

  pub the_second_site_is_a_leaf : leaf ls 2 ≡ 1
  unfolding leaf sum_at sum at pick is ℕ_discrete
  the_second_site_is_a_leaf = elim shape [ inl e ↦ rw e refl | inr e ↦ rw e refl ]

  pub no_site_is_no_leaf : leaf ls 0 ≡ 0
  unfolding leaf sum_at sum at pick is ℕ_discrete
  no_site_is_no_leaf = elim shape [ inl e ↦ rw e refl | inr e ↦ rw e refl ]

  -- so both are ends, whatever their marks
  pub both_sites_are_ends : (marks : List ℕ) → ends ls 2 marks ≡ 0 ∷ 1 ∷ 1 ∷ []
  unfolding ends end_at upfrom
  both_sites_are_ends marks =
      rw (
        no_site_is_no_leaf,
        the_first_site_is_a_leaf,
        the_second_site_is_a_leaf,
        pick_const {A = ℕ} (mark marks 1) 1 1,
        pick_const {A = ℕ} (mark marks 2) 1 1,
        pick_other {A = ℕ} {u = 0} {v = 1} (λ e. contradiction e) 1 0,
      ) refl

  by_names : (a b v : ℕ) → pick a v 1 (is b v) ≡ 1 → (v ≡ a) ⊎ (v ≡ b)
  by_names a b v h = same? a v (λ e. inl (sym e)) (λ d. inr (sym (is_one (sym (pick_other d 1 (is b v)) ∙ h))))

  the_sites_of_the_link : (v : ℕ) → at ls v 0 ≡ 1 → (v ≡ 1) ⊎ (v ≡ 2)
  unfolding at
  the_sites_of_the_link v h = elim shape [
    | inl e ↦ by_names 1 2 v (rw e at h)
    | inr e ↦ elim (by_names 2 1 v (rw e at h)) [ inl p ↦ inr p | inr p ↦ inl p ]
  ]

  -- ---- both sites are ends

  module _ (terminal : ℕ → ℕ) (first : terminal 1 ≡ 1) (second : terminal 2 ≡ 1) where
    -- there is no inner site, so whatever the link has is balanced
    no-inner-site : (t : ℕ → ℕ) → Balanced ls terminal t
    no-inner-site t v d j l h =
        let e : j ≡ 0 = omega (arith, one_link) in
        elim (the_sites_of_the_link v (rw e at h)) [ inl p ↦ absurd (d (rw p first)) | inr p ↦ absurd (d (rw p second)) ]

    -- the link carries all of its capacity
    pub the_capacity_is_kept : Tree ls 2 → (c : ℕ) → balanced ls 2 terminal (c ∷ []) ≡ c ∷ []
    the_capacity_is_kept T c =
        sym (greatest_is_balanced T terminal (c ∷ []) (c ∷ []) (sym one_link)
        (balanced_is_its_own_greatest ls terminal (no-inner-site (look (c ∷ [])))))

    module _ (t : ℕ → ℕ) where
      -- ---- end sets

      -- no link is below its capacity, so each site is a group of its own
      alone : (x : ℕ) → group ls t t x ≡ x
      unfolding group kept label pick ℕ_discrete
      alone x =
          let none : less (t 0) (t 0) ≡ 0 = less_none (λ l. omega arith) in
          elim shape [ inl e ↦ rw (e, none) refl | inr e ↦ rw (e, none) refl ]

      -- so the cut of a holds a alone
      sets : in_cut ls t t ≡ (λ a x. is x a)
      unfolding in_cut
      sets = fun_ext (λ a. fun_ext (λ x. rw (alone x, alone a) refl))

      -- each site is in the set of its own
      pub each_owns_itself : (owner ls t t terminal 2 1 ≡ 1) × (owner ls t t terminal 2 2 ≡ 2)
      unfolding owner owner_among upfrom among
      each_owns_itself = rw (sets, first, second) each_is_found

      -- whose size is the capacity, and whose count is 1
      pub each_set_has_the_link : (cut_size ls t t 1 ≡ t 0) × (cut_size ls t t 2 ≡ t 0)
      unfolding cut_size sum leaving
      each_set_has_the_link =
          let left = each-is-left in
          rw sets (elim shape [
            | inl e ↦ rw e (rw left.0 (omega arith), rw left.1 (omega arith))
            | inr e ↦ rw e (rw left.2 (omega arith), rw left.3 (omega arith))
          ])

      pub each_set_has_one_site : (cut_count ls t t 2 1 ≡ 1) × (cut_count ls t t 2 2 ≡ 1)
      unfolding cut_count over upfrom
      each_set_has_one_site = rw sets each_is_there_once

      -- ---- pairs

      no_part : (v : ℕ) → terminal v ≡ 1 → pairs_of_part ls 2 t terminal v ≡ []
      unfolding pairs_of_part root
      no_part v e =
          let below = is (lowest ls terminal 2 (region ls terminal v)) v in
          let none : differ (terminal v) 1 * below ≡ 0 = rw (differ_same e) (zero-mul below) in
          rw none (pick_other (λ h. contradiction h) _ _)

      no-parts : flat_map (pairs_of_part ls 2 t terminal) (sites 2) ≡ []
      unfolding flat_map upfrom
      no-parts = rw (no_part 1 first, no_part 2 second) refl

      -- the pair of the link, its lower site first
      lower-first : (c a b : ℕ) → ((a ≡ 1) × (b ≡ 2)) ⊎ ((a ≡ 2) × (b ≡ 1)) → ordered (give a (put b c [])) ≡ give 1 (put 2 c [])
      unfolding ordered insert give put lower_first less pick ℕ_discrete dec_lt
      lower-first zero a b h = refl
      lower-first (suc c) a b h = elim h [ inl p ↦ rw (p.0, p.1) refl | inr p ↦ rw (p.0, p.1) refl ]

      pub the_pair_list_is_one_pair : pair_list_of_parts ls 2 t terminal ≡ link_pairs (t 0)
      unfolding pair_list_of_parts pairs_of_parts pair_of_link single link_pairs upfrom flat_map
      the_pair_list_is_one_pair = rw no-parts (elim shape [
        | inl e ↦ rw (e, first, second) (ap ordered (both_are_ends (give 1 (put 2 (2 * t 0) []))) ∙ lower-first (2 * t 0) 1 2 (inl (refl, refl)))
        | inr e ↦ rw (e, first, second) (ap ordered (both_are_ends (give 2 (put 1 (2 * t 0) []))) ∙ lower-first (2 * t 0) 2 1 (inr (refl, refl)))
      ])

    -- ---- in whole circuits

    -- the plan of one pair of twice the capacity fits
    abbrev pair_of : ℕ → Pair
    pair_of c = record { first = 1; second = 2; amount = 2 * c }

    the-link-is-at-each : (f : ℕ → ℕ) → (sum_at ls 1 f ≡ f 0) × (sum_at ls 2 f ≡ f 0)
    unfolding sum_at sum at is pick ℕ_discrete
    the-link-is-at-each f = elim shape [ inl e ↦ rw e (omega arith, omega arith) | inr e ↦ rw e (omega arith, omega arith) ]

    the-link-is-between : separates ls 0 1 2 ≡ 1
    unfolding separates side without label differ pick ℕ_discrete
    the-link-is-between = elim shape [ inl e ↦ rw e refl | inr e ↦ rw e refl ]

    the-pair-fits : (c : ℕ → ℕ) → WholePlan ls 2 terminal c (pair_of (c 0) ∷ [])
    unfolding load
    the-pair-fits c = record {
      routes = (
        record {
          first-site = (omega arith, omega arith);
          second-site = (omega arith, omega arith);
          first-terminal = first;
          second-terminal = second;
          different = λ e. contradiction (omega (arith, e));
          free = λ w j p e d g. absurd (omega (arith, p.0, p.1, d, g));
        },
        tt,
      );
      even = ((c 0, refl), tt);
      fits = λ j l. let e : j ≡ 0 = omega (arith, one_link) in rw (e, the-link-is-between) (omega arith);
    }

    module _ (c x own : ℕ → ℕ) (taken : LargestWhole ls 2 terminal c x own) where
      at-both-ends : at_terminals ls 2 terminal x ≡ 2 * x 0
      unfolding at_terminals over upfrom
      at-both-ends = let at_each = the-link-is-at-each x in rw (first, second, at_each.0, at_each.1, is_same {u = 1} refl) (omega arith)

      -- the link is filled
      pub the_load_is_the_capacity : x 0 ≡ c 0
      unfolding total
      the_load_is_the_capacity =
          omega (arith, taken.largest (pair_of (c 0) ∷ []) (the-pair-fits c), at-both-ends, taken.loads.below 0 (omega (arith, one_link)))

      pub each_owns_itself_whole : (own 1 ≡ 1) × (own 2 ≡ 2)
      each_owns_itself_whole = (taken.sets.own 1 (omega arith, omega arith) first, taken.sets.own 2 (omega arith, omega arith) second)

      pub each_whole_set_has_the_link : (set_size ls c own 1 ≡ c 0) × (set_size ls c own 2 ≡ c 0)
      unfolding set_size sum leaving
      each_whole_set_has_the_link =
          let left = each-is-left in
          let o = each_owns_itself_whole in
          elim shape [
            | inl e ↦ rw (e, o.0, o.1) (rw left.0 (omega arith), rw left.1 (omega arith))
            | inr e ↦ rw (e, o.0, o.1) (rw left.2 (omega arith), rw left.3 (omega arith))
          ]

      pub each_whole_set_has_one_site : (set_count 2 own 1 ≡ 1) × (set_count 2 own 2 ≡ 1)
      unfolding set_count over upfrom
      each_whole_set_has_one_site = let o = each_owns_itself_whole in rw (o.0, o.1) each_is_there_once

      pub there_is_no_piece : odd_pieces ls 2 c own ≡ 0
      unfolding odd_pieces in_piece over upfrom
      there_is_no_piece = let o = each_owns_itself_whole in rw (o.0, o.1, none_is_site_0.0, none_is_site_0.1) (omega arith)

-- The printed end sets. The owners told for the sites are the owners (`look-site`), so the `X` lines tell the size and count of the printed sets.
-- In halves the sites of an end are its terminal cut, since each site of a cut is owned by the cut's end and no other; `-` stands where no cut holds the site.
use Rattle.std.specs.Prelude.{◌≡◌, refl, ◌≢◌, ◌↔◌, ◌⊎◌, List, [], ◌∷◌, map, ℕ, ◌+◌, ◌-◌, ◌*◌, length}
use Rattle.std.proofs.Math.Path.{sym}
use Rattle.std.proofs.Common.{ap, ◌∙◌, inl, inr, arith}
use Rattle.std.proofs.lemmas.List.{length-map}
use Rattle.lists.specs.Numbers.{is, differ, over, count, look, Each}
use Rattle.model.specs.Flows.{Links, Site, Tree, sites, one, two}
use Rattle.model.specs.Trimming.{Greatest}
use Rattle.model.specs.Cuts.{group, in_cut, cut_size, cut_count, owner, in_stopped_cut}
use Rattle.model.specs.Whole.{set_size, set_count}
use Rattle.lists.specs.Sums.{same?, pick_same, pick_other, is_same, is-other, is_one, is_iff, sum-eq}
use Rattle.lists.specs.Places.{over-eq, length-upfrom}
use Rattle.theory_trees.proofs.Sites.{look-site}
use Rattle.theory_trees.specs.Owners.{owner-or-none, without_owner_in_no_cut}
use Rattle.theory_trees.proofs.Owners.{owner_iff_in_cut}
use Rattle.theory_trees.proofs.Stopping.{stopping_changes_nothing}
use Rattle.planner.specs.Figures.{Figures}
use Rattle.demands.specs.Printed.{EndSet, size_sum, ends_among}
use Rattle.demands.specs.Lists.{each-site}
use Rattle.demands.specs.Agree.{set_sizes_agree}

-- ---- lists of the ends

-- what holds of the ends among sites
each-end : (terminal : ℕ → ℕ) (P : ℕ → Type 0) (us : List ℕ) → Each (λ a. terminal a ≡ 1 → P a) us → Each P (ends_among terminal us)
unfolding ends_among
each-end terminal P [] h = tt
each-end terminal P (u ∷ us) h = same? (terminal u) 1
    (λ e. rw (pick_same e) (h.0 e, each-end terminal P us h.1))
    (λ d. rw (pick_other d) (each-end terminal P us h.1))

each_mapped : {A B : Type 0} (P : B → Type 0) (f : A → B) (l : List A) → Each (λ a. P (f a)) l → Each P (map f l)
each_mapped P f [] h = tt
each_mapped P f (a ∷ l) h = (h.0, each_mapped P f l h.1)

count_mapped : (f : ℕ → ℕ) (us : List ℕ) (a : ℕ) → count (map f us) a ≡ over us (λ x. is (f x) a)
unfolding count over
count_mapped f [] a = refl
count_mapped f (u ∷ us) a = ap (λ y. is (f u) a + y) (count_mapped f us a)

-- the sizes told, summed
pub sizes_summed : (terminal : ℕ → ℕ) (f : ℕ → EndSet) (us : List ℕ) → size_sum (map f (ends_among terminal us)) ≡ over us (λ a. is (terminal a) 1 * (f a).size)
unfolding size_sum ends_among over
sizes_summed terminal f [] = refl
sizes_summed terminal f (u ∷ us) = same? (terminal u) 1
    (λ e. rw (pick_same {A = List ℕ} e, is_same e) (omega (arith, sizes_summed terminal f us)))
    (λ d. rw (pick_other {A = List ℕ} d, is-other d) (omega (arith, sizes_summed terminal f us)))

-- ---- the owners told

module _ (n : ℕ) (own : ℕ → ℕ) where
  abbrev owners : List ℕ
  owners = map own (sites n)

  abbrev dashes : List ℕ
  dashes = map (λ x. is (own x) 0) (sites n)

  -- there is one for each site
  pub an_owner_is_told_for_each_site : length owners ≡ n
  an_owner_is_told_for_each_site = length-map (sites n) own ∙ length-upfrom 1 n

  module _ (x : ℕ) (q : Site n x) where
    pub the_owner_told_is_the_owner : look owners (x - 1) ≡ own x
    the_owner_told_is_the_owner = look-site own n x q

    pub a_dash_tells_no_owner : (look dashes (x - 1) ≡ 1) ↔ (look owners (x - 1) ≡ 0)
    a_dash_tells_no_owner = rw (look-site (λ x. is (own x) 0) n x q, the_owner_told_is_the_owner) (is_one, is_same)

    -- 0, for `-`, or an end
    pub owners_are_told_or_dashes : (terminal : ℕ → ℕ) → (own x ≡ 0) ⊎ (Site n (own x) × (terminal (own x) ≡ 1))
        → (look dashes (x - 1) ≡ 1) ⊎ (Site n (look owners (x - 1)) × (terminal (look owners (x - 1)) ≡ 1))
    owners_are_told_or_dashes terminal h = rw (look-site (λ x. is (own x) 0) n x q, the_owner_told_is_the_owner)
        (elim h [ inl r ↦ inl (is_same r) | inr r ↦ inr r ])

-- ---- the sets told

-- the set of a in figures
abbrev pub set_by : Figures → ℕ → EndSet
set_by f a = record { end = a; size = f.size a; count = f.count a }

-- figures that tell of each end the size and the count of the set of the sites that it owns
pub record TellsSets (ls : Links) (n : ℕ) (terminal c : ℕ → ℕ) (f : Figures) : Type 0 where
  pub sized : (a : ℕ) → Site n a → terminal a ≡ 1 → f.size a ≡ set_size ls c f.owner a
  pub counted : (a : ℕ) → Site n a → terminal a ≡ 1 → f.count a ≡ set_count n f.owner a

module _ {ls : Links} {n : ℕ} (T : Tree ls n) (terminal c : ℕ → ℕ) (f : Figures) (tells : TellsSets ls n terminal c f) where
  -- the owner told for a site
  abbrev told : ℕ → ℕ
  told v = look (owners n f.owner) (v - 1)

  -- the sets told are those of the owners told
  pub told_sets_are_owned : Each (λ x. (x.size ≡ set_size ls c told x.end) × (x.count ≡ count (owners n f.owner) x.end))
      (map (set_by f) (ends_among terminal (sites n)))
  unfolding set_count
  told_sets_are_owned = each_mapped _ (set_by f) (ends_among terminal (sites n)) (each-end terminal _ (sites n)
      (each-site _ n (λ a p e. (
        tells.sized a p e ∙ sym (set_sizes_agree T c f.owner told (the_owner_told_is_the_owner n f.owner) a),
        tells.counted a p e ∙ sym (count_mapped f.owner (sites n) a),
      ))))

-- ---- in halves

module _ {ls : Links} {n : ℕ} (T : Tree ls n) (terminal : ℕ → ℕ) {c t : ℕ → ℕ} (g : Greatest ls terminal c t) where
  abbrev own : ℕ → ℕ
  own = owner ls c t terminal n

  -- an end owns just the sites of its cut
  owned : (a x : ℕ) → Site n a → terminal a ≡ 1 → is (own x) a ≡ in_cut ls c t a x
  unfolding in_cut
  owned a x p e =
      let w = owner_iff_in_cut T terminal g a p e x in
      is_iff (own x) a (group ls c t x) (group ls c t a) (λ o. is_one (w.0 o)) (λ i. w.1 (is_same i))

  -- so the owners told say what is in a cut; cuts stop at other ends of themselves
  pub owners_tell_the_cuts : (a x : ℕ) → Site n a → terminal a ≡ 1 → Site n x → (look (owners n own) (x - 1) ≡ a) ↔ (in_stopped_cut ls c t terminal a x ≡ 1)
  owners_tell_the_cuts a x p e q = rw (the_owner_told_is_the_owner n own x q, stopping_changes_nothing T terminal g a p e x)
      (owner_iff_in_cut T terminal g a p e x)

  -- `-` just where no cut holds the site
  pub a_dash_tells_that_no_cut_holds_the_site : (x : ℕ) → Site n x
      → (look (dashes n own) (x - 1) ≡ 1) ↔ ((a : ℕ) → Site n a → terminal a ≡ 1 → in_stopped_cut ls c t terminal a x ≢ 1)
  a_dash_tells_that_no_cut_holds_the_site x q = rw (look-site (λ x. is (own x) 0) n x q) (
    λ none a p e i. absurd (omega (arith, without_owner_in_no_cut ls c t terminal x n (is_one none) a p e, stopping_changes_nothing T terminal g a p e x)),
    λ none. elim (owner-or-none ls c t terminal x n) [
      | inl r ↦ is_same r.0
      | inr r ↦ absurd (none _ r.0 r.1 (stopping_changes_nothing T terminal g _ r.0 r.1 x ∙ r.2))
    ],
  )

  -- the size and the count of the sites that an end owns are those of its cut
  pub cut_sizes_are_set_sizes : (a : ℕ) → Site n a → terminal a ≡ 1 → cut_size ls c t a ≡ set_size ls c own a
  unfolding cut_size set_size
  cut_sizes_are_set_sizes a p e = sum-eq (length ls) (λ j. differ (in_cut ls c t a (one ls j)) (in_cut ls c t a (two ls j)) * c j)
      (λ j. differ (is (own (one ls j)) a) (is (own (two ls j)) a) * c j)
      (λ j l. rw (owned a (one ls j) p e, owned a (two ls j) p e))

  pub cut_counts_are_set_counts : (a : ℕ) → Site n a → terminal a ≡ 1 → cut_count ls c t n a ≡ set_count n own a
  unfolding cut_count set_count
  cut_counts_are_set_counts a p e = over-eq (sites n) (λ x. in_cut ls c t a x) (λ x. is (own x) a) (λ x q. sym (owned a x p e))

-- The cuts by the tally of a network are the cuts of its terminals: place by place, the owners terminal by terminal.
use mathlib.Core.Path.{◌≡◌, refl, sym, ap, ◌∙◌}
use mathlib.Core.Logic.{◌≢◌}
use mathlib.Core.List.{List, map}
use Prim.Native.Nat.{ℕ, zero, suc, ◌+◌, ◌-◌, ◌≤◌, ◌<◌}
use native.Mathlib.Nat.{one-mul}
use native.Mathlib.Numerals.{add-one, one-add}
use native.Mathlib.Omega.{arith}
use lib.ListN.{replicate, length-map}
use Rattle.model.specs.Limits.{SITES}
use Rattle.lists.specs.Numbers.{sum, look, upfrom}
use Rattle.model.specs.Flows.{Links, sites}
use Rattle.model.specs.Cuts.{in_cut, cut_size, cut_count, owner_among, owner}
use Rattle.lists.specs.Sums.{pick_same, pick_other, same?, less_one, less_none, sum-eq}
use Rattle.lists.specs.Places.{length-upfrom, look_values}
use Rattle.lists.specs.Parts.{sum_past, over-upfrom}
use Rattle.cuts_groups.specs.Groups.{Tallied, labelled}
use Rattle.cuts_groups.specs.Places.{places, of_terminal, of_inner, of_terminal_lem, look-places, past_places, places_is, places_same, places_upto}
use Rattle.cuts_groups.specs.Places.{places-zero}
use Rattle.cuts_groups.specs.Steps.{members, claim, owners_to, cuts_by, owned}
use Rattle.cuts_groups.proofs.Owners.{claims_same, owner-terminal, owner_inner}

-- ---- one site more

module _ (cut : ℕ → ℕ → ℕ) (labels start ends : List ℕ) where
  pub owners-none : owners_to cut labels start ends 0 ≡ start
  unfolding owners_to
  owners-none = refl

  -- a terminal claims the places of its cut, any other site none
  pub owners_more : (k : ℕ) → look ends (suc k) ≡ 1
      → owners_to cut labels start ends (suc k) ≡ map (claim (owners_to cut labels start ends k) (cut (look labels (suc k))) (suc k)) (upfrom 0 SITES)
  unfolding owners_to
  owners_more k e = pick_same e _ _

  pub owners-same : (k : ℕ) → look ends (suc k) ≢ 1 → owners_to cut labels start ends (suc k) ≡ owners_to cut labels start ends k
  unfolding owners_to
  owners-same k d = pick_other d _ _

  -- the same as the steps of a loop
  module _ {now : List ℕ} (k : ℕ) (e : now ≡ owners_to cut labels start ends k) where
    pub owners-next : look ends (k + 1) ≡ 1 → map (claim now (cut (look labels (k + 1))) (k + 1)) (upfrom 0 SITES) ≡ owners_to cut labels start ends (k + 1)
    owners-next = rw (add-one k, e) (λ o. sym (owners_more k o))

    pub owners_pass : look ends (k + 1) ≢ 1 → now ≡ owners_to cut labels start ends (k + 1)
    owners_pass = rw (add-one k) (λ d. e ∙ sym (owners-same k d))

-- cuts with the same places have the same members and owners
module _ (cut cut' : ℕ → ℕ → ℕ) (labels : List ℕ) (e : (l i : ℕ) → cut l i ≡ cut' l i) where
  pub members_alike : (a : ℕ) → members cut labels a ≡ members cut' labels a
  unfolding members
  members_alike a = sum-eq SITES (cut (look labels a)) (cut' (look labels a)) (λ i h. e (look labels a) i)

  pub owners-alike : (start ends : List ℕ) (k : ℕ) → owners_to cut labels start ends k ≡ owners_to cut' labels start ends k
  owners-alike start ends zero = owners-none cut labels start ends ∙ sym (owners-none cut' labels start ends)
  owners-alike start ends (suc k) = same? (look ends (suc k)) 1
      (λ o. owners_more cut labels start ends k o
      ∙ rw (owners-alike start ends k) (claims_same (owners_to cut' labels start ends k) (cut (look labels (suc k))) (cut' (look labels (suc k))) (suc k)
      (e (look labels (suc k))))
      ∙ sym (owners_more cut' labels start ends k o))
      (λ d. owners-same cut labels start ends k d ∙ owners-alike start ends k ∙ sym (owners-same cut' labels start ends k d))

-- what is the same at a terminal is the same of terminals
pub of_terminals : (terminal f g : ℕ → ℕ) (x : ℕ) → (terminal x ≡ 1 → f x ≡ g x) → of_terminal terminal f x ≡ of_terminal terminal g x
of_terminals terminal f g x e = same? (terminal x) 1
    (λ o. of_terminal_lem terminal f x o ∙ e o ∙ sym (of_terminal_lem terminal g x o))
    (λ d. of_inner terminal f x d ∙ sym (of_inner terminal g x d))

-- no place past the sites has a label
pub labelled_past : (n : ℕ) (labels : List ℕ) (l k : ℕ) → n ≤ k → labelled n labels l k ≡ 0
unfolding labelled
labelled_past n labels l k h = rw (less_none {a = k} {b = n} (λ l. omega arith)) (omega arith)

-- ---- the tally of a network

module _ (ls : Links) (n : ℕ) (c t : ℕ → ℕ) (few : n ≤ SITES) {labels leaving : List ℕ} (ends : List ℕ) (made : Tallied ls c t labels leaving) where
  abbrev owners : ℕ → ℕ → ℕ
  owners k = owner_among ls c t (look ends) (sites k)

  -- the places of a cut
  module _ (i : ℕ) (lt : i < n) where
    abbrev cut : ℕ → ℕ
    cut = labelled n labels (look labels (suc i))

    cut_in : (k : ℕ) → k < n → cut k ≡ in_cut ls c t (suc i) (suc k)
    unfolding labelled
    cut_in k h = rw (less_one h, one-mul, add-one) (made.grouped (suc i) (suc k) (omega arith) (omega arith))

    cut-past : (k : ℕ) → n ≤ k → cut k ≡ 0
    cut-past = labelled_past n labels (look labels (suc i))

    members-count : members (labelled n labels) labels (suc i) ≡ cut_count ls c t n (suc i)
    unfolding members cut_count
    members-count =
        let all : SITES ≡ n + (SITES - n) = omega arith in
        ap (λ m. sum m cut) all ∙ sum_past cut n (SITES - n) cut-past
        ∙ sum-eq n cut (λ k. in_cut ls c t (suc i) (1 + k)) (λ k h. cut_in k h ∙ ap (in_cut ls c t (suc i)) (sym (one-add k)))
        ∙ sym (over-upfrom (in_cut ls c t (suc i)) 1 n)

    claimed : look ends (suc i) ≡ 1 → map (claim (places n (owners i)) cut (suc i)) (upfrom 0 SITES) ≡ places n (owners (suc i))
    unfolding claim
    claimed m =
        let claims = claim (places n (owners i)) cut (suc i) in
        places_is (owners (suc i)) n (map claims (upfrom 0 SITES)) few (length-map (upfrom 0 SITES) claims ∙ length-upfrom 0 SITES)
        (λ k h. look_values claims SITES k (omega arith) ∙ rw (look-places (owners i) n k h, cut_in k h) (sym (owner-terminal ls c t (look ends) (suc k) i m)))
        (λ k le h. look_values claims SITES k h
        ∙ rw (past_places (owners i) n k le, cut-past k le) (pick_same {u = 0} refl _ _ ∙ pick_other {u = 0} {v = 1} (λ z. omega arith) _ _))

  no_owner : (x : ℕ) → owners 0 x ≡ 0
  unfolding owner_among upfrom
  no_owner x = refl

  owners_are : (k : ℕ) → k ≤ n → owners_to (labelled n labels) labels (replicate SITES 0) ends k ≡ places n (owners k)
  owners_are zero h = owners-none (labelled n labels) labels (replicate SITES 0) ends ∙ places-zero (owners 0) n few no_owner
  owners_are (suc k) h = same? (look ends (suc k)) 1
      (λ o. owners_more (labelled n labels) labels (replicate SITES 0) ends k o ∙ rw (owners_are k (omega arith)) (claimed k h o))
      (λ d. owners-same (labelled n labels) labels (replicate SITES 0) ends k d ∙ owners_are k (omega arith)
      ∙ places_same (owners k) (owners (suc k)) n few (λ x. owner_inner ls c t (look ends) x k d))

  pub cuts_by_tally : cuts_by n labels ends leaving ≡ owned ls n (look ends) c t
  unfolding cuts_by owned owner
  cuts_by_tally =
      let size : ℕ → ℕ = λ a. look leaving (look labels a) in
      rw (
        owners_are n (omega arith),
        places_upto (of_terminal (look ends) size) (of_terminal (look ends) (cut_size ls c t)) n few
            (λ i h. of_terminals (look ends) size (cut_size ls c t) (suc i) (λ o. made.sizes (suc i) (omega arith))),
        places_upto (of_terminal (look ends) (members (labelled n labels) labels)) (of_terminal (look ends) (cut_count ls c t n)) n few
            (λ i h. of_terminals (look ends) (members (labelled n labels) labels) (cut_count ls c t n) (suc i) (λ o. members-count i h)),
      ) refl

-- Sets told by owners: with the owner of each site as its label, the cuts by the labels are the sets. Place by place, the owners terminal by terminal:
-- after the terminals up to k a site has its owner, if that is among them.
use mathlib.Core.Path.{◌≡◌, refl, sym, ap, ap₂, ◌∙◌}
use mathlib.Core.Logic.{◌≢◌, inl, inr, ite, if_pos, if_neg}
use mathlib.Core.List.{List, map}
use Prim.Native.Nat.{ℕ, zero, suc, ◌+◌, ◌-◌, ◌*◌, ◌≤◌, ◌<◌}
use native.Mathlib.Decide.{dec_le}
use native.Mathlib.Nat.{one-mul}
use native.Mathlib.Numerals.{add-one, one-add}
use native.Mathlib.Omega.{arith}
use lib.ListN.{length, replicate, length-map}
use Rattle.model.specs.Limits.{SITES}
use Rattle.lists.specs.Numbers.{is, differ, sum, look, upfrom}
use Rattle.model.specs.Flows.{one, two}
use Rattle.model.specs.Whole.{EndSets, set_size, set_count}
use Rattle.lists.specs.Sums.{pick_same, pick_other, is_same, is-other, same?, cases, less_one, sum-eq}
use Rattle.lists.specs.Places.{length-upfrom, look_values}
use Rattle.lists.specs.Parts.{sum_past, over-upfrom}
use Rattle.tree.specs.Offer.{links}
use Rattle.tree.specs.Links.{length-links, links-one, links-two}
use Rattle.tree_links.specs.Chains.{Placed}
use Rattle.cuts_groups.specs.Groups.{labelled, leaves, leaving}
use Rattle.cuts_groups.specs.Places.{places, of_terminal, look-places, past_places, places_is, places_upto, places-zero}
use Rattle.cuts_groups.specs.Steps.{members, claim, owners_to, cuts_by, sets_of}
use Rattle.cuts_groups.proofs.ByTally.{owners-none, owners_more, owners-same, of_terminals, labelled_past}

-- the capacities that leave the sites of a label are those that leave a set
pub leaving-is-set-size : {a b : List ℕ} → Placed a b → (labels c : List ℕ) (l : ℕ) → leaving labels a b c l ≡ set_size (links a b) (look c) (look labels) l
unfolding leaving leaves set_size
leaving-is-set-size {a} {b} k labels c l = rw (length-links a b (sym k.seconds)) (sum-eq (length a)
    (λ j. differ (is (look labels (look a j)) l) (is (look labels (look b j)) l) * look c j)
    (λ j. differ (is (look labels (one (links a b) j)) l) (is (look labels (two (links a b) j)) l) * look c j)
    (λ j p. rw (links-one a b j p (omega (arith, k.seconds)), links-two a b j p (omega (arith, k.seconds))) refl))

module _ (n : ℕ) (few : n ≤ SITES) (labels ends : List ℕ) (sets : EndSets n (look ends) (look labels)) where
  abbrev owner : ℕ → ℕ
  owner = look labels

  -- the owner of a site, if it is at most k
  upto : ℕ → ℕ → ℕ
  upto k x = ite (dec_le (owner x) k) (owner x) 0

  owner_found : (k x : ℕ) → owner x ≤ k → upto k x ≡ owner x
  unfolding upto
  owner_found k x h = if_pos (dec_le (owner x) k) h (owner x) 0

  owner_missed : (k x : ℕ) → k < owner x → upto k x ≡ 0
  unfolding upto
  owner_missed k x h = if_neg (dec_le (owner x) k) (λ l. omega arith) (owner x) 0

  owner-none : (x : ℕ) → upto 0 x ≡ 0
  owner-none x = cases (dec_le (owner x) 0)
      (λ h. owner_found 0 x h ∙ omega arith)
      (λ h. owner_missed 0 x (omega arith))

  -- an owner other than k + 1
  owner_past : (k x : ℕ) → owner x ≢ suc k → upto k x ≡ upto (suc k) x
  owner_past k x d = cases (dec_le (owner x) k)
      (λ h. owner_found k x h ∙ sym (owner_found (suc k) x (omega arith)))
      (λ h. owner_missed k x (omega arith) ∙ sym (owner_missed (suc k) x (omega arith)))

  -- a site has the label l
  labelled-is : (l k : ℕ) → k < n → labelled n labels l k ≡ is (owner (suc k)) l
  unfolding labelled
  labelled-is l k h = rw (less_one h, one-mul, add-one) refl

  -- terminal k + 1 claims the places of its set
  claimed : (k : ℕ) → k < n → look ends (suc k) ≡ 1
      → map (claim (places n (upto k)) (labelled n labels (owner (suc k))) (suc k)) (upfrom 0 SITES) ≡ places n (upto (suc k))
  unfolding claim
  claimed k lt m =
      let claims = claim (places n (upto k)) (labelled n labels (owner (suc k))) (suc k) in
      let own : owner (suc k) ≡ suc k = sets.own (suc k) (omega arith, lt) m in
      places_is (upto (suc k)) n (map claims (upfrom 0 SITES)) few (length-map (upfrom 0 SITES) claims ∙ length-upfrom 0 SITES)
      (λ i h. look_values claims SITES i (omega arith) ∙ rw (look-places (upto k) n i h, labelled-is (owner (suc k)) i h, own) (same? (owner (suc i)) (suc k)
      (λ e. rw (is_same e, owner_missed k (suc i) (omega (arith, e)), owner_found (suc k) (suc i) (omega (arith, e)))
      (pick_same {u = 0} refl _ _ ∙ pick_same {u = 1} refl _ _ ∙ sym e))
      (λ d. rw (is-other d, pick_other {u = 0} {v = 1} (λ z. omega arith), owner_past k (suc i) d)
      (same? (upto (suc k) (suc i)) 0 (λ e. rw (pick_same e) (sym e)) (λ z. pick_other z _ _)))))
      (λ i le h. look_values claims SITES i h
      ∙ rw (past_places (upto k) n i le, labelled_past n labels (owner (suc k)) i le)
      (pick_same {u = 0} refl _ _ ∙ pick_other {u = 0} {v = 1} (λ z. omega arith) _ _))

  owners_are : (k : ℕ) → k ≤ n → owners_to (labelled n labels) labels (replicate SITES 0) ends k ≡ places n (upto k)
  owners_are zero h = owners-none (labelled n labels) labels (replicate SITES 0) ends ∙ places-zero (upto 0) n few owner-none
  owners_are (suc k) h = same? (look ends (suc k)) 1
      (λ o. owners_more (labelled n labels) labels (replicate SITES 0) ends k o ∙ rw (owners_are k (omega arith)) (claimed k h o))
      (λ d. owners-same (labelled n labels) labels (replicate SITES 0) ends k d ∙ owners_are k (omega arith)
      ∙ places_upto (upto k) (upto (suc k)) n few (λ i lt. owner_past k (suc i) (λ e. elim (sets.owned (suc i) (omega arith, lt)) [
        | inl z ↦ omega (arith, e, z)
        | inr r ↦ d (ap (look ends) (sym e) ∙ r.1)
      ])))

  -- the sites with the label of a terminal are counted
  members_are : (i : ℕ) → i < n → look ends (suc i) ≡ 1 → members (labelled n labels) labels (suc i) ≡ set_count n owner (suc i)
  unfolding members set_count
  members_are i lt m =
      let own : owner (suc i) ≡ suc i = sets.own (suc i) (omega arith, lt) m in
      let all : SITES ≡ n + (SITES - n) = omega arith in
      let cut = labelled n labels (owner (suc i)) in
      ap (λ m. sum m cut) all ∙ sum_past cut n (SITES - n) (labelled_past n labels (owner (suc i)))
      ∙ sum-eq n cut (λ k. is (owner (1 + k)) (suc i)) (λ k h. labelled-is (owner (suc i)) k h ∙ ap₂ (λ y z. is (owner y) z) (sym (one-add k)) own)
      ∙ sym (over-upfrom (λ x. is (owner x) (suc i)) 1 n)

  pub cuts_by_owners : {a b : List ℕ} → Placed a b → (c sums : List ℕ) → ((l : ℕ) → look sums l ≡ leaving labels a b c l)
      → cuts_by n labels ends sums ≡ sets_of (links a b) n (look ends) (look c) owner
  unfolding cuts_by sets_of
  cuts_by_owners {a} {b} k c sums summed =
      let size : ℕ → ℕ = λ x. look sums (owner x) in
      let sized : ℕ → ℕ = set_size (links a b) (look c) owner in
      rw (
        owners_are n (omega arith) ∙ places_upto (upto n) owner n few (λ i lt. owner_found n (suc i) (elim (sets.owned (suc i) (omega arith, lt)) [
          | inl z ↦ omega (arith, z)
          | inr r ↦ r.0.1
        ])),
        places_upto (of_terminal (look ends) size) (of_terminal (look ends) sized) n few (λ i lt. of_terminals (look ends) size sized (suc i)
            (λ m. summed (owner (suc i)) ∙ leaving-is-set-size k labels c (owner (suc i)) ∙ ap sized (sets.own (suc i) (omega arith, lt) m))),
        places_upto (of_terminal (look ends) (members (labelled n labels) labels)) (of_terminal (look ends) (set_count n owner)) n few
            (λ i lt. of_terminals (look ends) (members (labelled n labels) labels) (set_count n owner) (suc i) (members_are i lt)),
      ) refl

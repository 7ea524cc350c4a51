-- The first place where a test is 1, as a loop over the places finds it, and tests as the code makes them.
use Rattle.std.specs.Prelude.{true, false, not, ◌≡◌, ◌≢◌, List, eqb, length}
use Rattle.std.proofs.Math.Path.{refl, sym}
use Rattle.std.proofs.Common.{ap, ◌∙◌, add-one, eq-eqb, ne_eqb}
use Prim.Native.Nat.{ℕ, suc, ◌+◌, ◌-◌, ◌*◌, ◌≤◌, ◌<◌}
use native.Mathlib.Omega.{arith}
use Rattle.lists.specs.Numbers.{pick, is, differ, look}
use Rattle.lists.specs.Sums.{same?, pick_same, pick_other, pick_cases, is_same, is-other, is_le, differ_same, differ-other, product_one}
use Rattle.theory_regions.specs.Sharing.{first_from}
use Rattle.tree.specs.Links.{links-one, links-two, links-at-site}
use Rattle.tree.specs.Offer.{links}
use Rattle.region_links.specs.Partners.{both_in, joining}

module _ (test : ℕ → ℕ) (m j : ℕ) where
  -- with the places from j on still to be tested
  first-here : j < m → first_from test j (m - j) ≡ pick (test j) 1 j (first_from test (j + 1) (m - (j + 1)))
  unfolding first_from
  first-here h = let more : m - j ≡ suc (m - (j + 1)) = omega arith in rw (more, add-one) refl

  -- a place where the test is 1 is the first, any other leaves it to the places behind
  pub it_is_here : j < m → first_from test 0 m ≡ first_from test j (m - j) → test j ≡ 1 → j ≡ first_from test 0 m
  it_is_here h e t = sym (e ∙ first-here h ∙ pick_same t _ _)

  pub it_is_behind : j < m → first_from test 0 m ≡ first_from test j (m - j) → test j ≢ 1 → first_from test 0 m ≡ first_from test (j + 1) (m - (j + 1))
  it_is_behind h e t = e ∙ first-here h ∙ pick_other t _ _

  -- with all places tested there is none
  pub it_is_nowhere : j ≡ m → first_from test 0 m ≡ first_from test j (m - j) → m ≡ first_from test 0 m
  unfolding first_from
  it_is_nowhere all e = let none : m - j ≡ 0 = omega arith in sym (e ∙ rw (none, all) refl)

-- at first no place is tested
pub it_may_be_anywhere : (test : ℕ → ℕ) (m : ℕ) → first_from test 0 m ≡ first_from test 0 (m - 0)
it_may_be_anywhere test m = let all : m ≡ m - 0 = omega arith in ap (first_from test 0) all

-- ---- tests

-- v at a link, by its two sites
pub at_the_first : (first second v : ℕ) → first ≡ v → true ≡ eqb (pick first v 1 (is second v)) 1
at_the_first first second v e = sym (eq-eqb _ 1 (pick_same e 1 (is second v)))

pub at_the_second : (first second v : ℕ) → first ≢ v → eqb second v ≡ eqb (pick first v 1 (is second v)) 1
at_the_second first second v d = same? second v
    (λ e. eq-eqb second v e ∙ sym (eq-eqb _ 1 (pick_other d 1 (is second v) ∙ is_same e)))
    (λ f. ne_eqb second v f ∙ sym (ne_eqb (pick first v 1 (is second v)) 1 (λ o. omega (arith, o, pick_other d 1 (is second v), is-other f))))

pub not_at_it : (first second v b : ℕ) → pick first v 1 (is second v) ≢ 1 → false ≡ eqb (pick first v 1 (is second v) * b) 1
not_at_it first second v b d =
    let few = pick_cases (λ r. r ≤ 1) first v 1 (is second v) (λ e. omega arith) (λ f. is_le second v) in
    sym (ne_eqb (pick first v 1 (is second v) * b) 1 (λ o. d (product_one (pick first v 1 (is second v)) b few o).0))

-- a product of two tests
pub the_other_decides : (a b : ℕ) → a ≡ 1 → eqb b 1 ≡ eqb (a * b) 1
the_other_decides a b e = let once : b ≡ a * b = rw e (omega arith) in ap (λ k. eqb k 1) once

-- a test with a partner
pub no_partner : (p q : ℕ) → p ≡ 0 → false ≡ eqb (differ p 0 * differ q 0) 1
no_partner p q e = sym (ne_eqb (differ p 0 * differ q 0) 1 (λ o. omega (arith, rw (differ_same e) at o)))

pub the_other_has_a_partner : (p q : ℕ) → p ≢ 0 → not (eqb q 0) ≡ eqb (differ p 0 * differ q 0) 1
the_other_has_a_partner p q d = same? q 0
    (λ e. rw (differ-other d, eq-eqb q 0 e, differ_same e) refl)
    (λ f. rw (differ-other d, ne_eqb q 0 f, differ-other f) refl)

-- at a link of two lists
pub both_at : (partner : ℕ → ℕ) (a b : List ℕ) (j : ℕ) → j < length a → j < length b
    → differ (partner (look a j)) 0 * differ (partner (look b j)) 0 ≡ both_in partner (links a b) j
both_at partner a b j h k = rw (links-one a b j h k, links-two a b j h k) refl

pub joining-at : (a b : List ℕ) (x y k : ℕ) → k < length a → k < length b
    → pick (look a k) x 1 (is (look b k) x) * pick (look a k) y 1 (is (look b k) y) ≡ joining (links a b) x y k
joining-at a b x y k h l = rw (links-at-site a b x k h l, links-at-site a b y k h l) refl

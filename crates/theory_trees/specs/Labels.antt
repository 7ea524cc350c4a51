-- Labels are what they should be: equal just for sites joined by links; and each link costs at most one label.
-- The one tool: what the sites of every link share, sites of one label share.
use Rattle.std.specs.Prelude.{◌≡◌, refl, ◌≢◌, ◌↔◌, [], ◌∷◌, ℕ, zero, suc, ◌+◌, ◌-◌, ◌≤◌, ◌<◌, length}
use Rattle.std.proofs.Common.{sym, ap, ◌∙◌, arith}
use mathlib.Core.Logic.Iff
use Rattle.lists.specs.Numbers.{pick, is, sum}
use Rattle.model.specs.Flows.{Links, Site, one, two, relabel, label, Joined, same, link, back, chain}
use Rattle.lists.specs.Sums.{pick_same, pick_other, pick_cases, pick_const, is_same, is-other, is_le, is_mono, sum_one, sum-none, sum-eq}
use Rattle.lists.specs.Sums.{sum-le-suc}

-- ---- labels and what is joined

-- relabelling makes its two labels one
pub relabel-both : (p q : ℕ) → relabel p q p ≡ relabel p q q
unfolding relabel
relabel-both p q = pick_const p q p ∙ sym (pick_same refl p q)

-- the sites of a link have one label
pub linked : (ls : Links) (i : ℕ) → i < length ls → label ls (one ls i) ≡ label ls (two ls i)
unfolding label
linked [] i l = omega arith
linked (a ∷ ls) zero l = relabel-both (label ls a.0) (label ls a.1)
linked (a ∷ ls) (suc i) l = ap (relabel (label ls a.0) (label ls a.1)) (linked ls i (omega arith))

-- what the ends of every link share, a site and its label share
pub along : (ls : Links) (P : ℕ → Type 0) → ((i : ℕ) → i < length ls → P (one ls i) ↔ P (two ls i)) → (x : ℕ) → P (label ls x) ↔ P x
unfolding label relabel
along [] P h x = Iff.rfl
along (a ∷ ls) P h x =
    let ih = along ls P (λ i l. h (suc i) (omega arith)) in
    pick_cases (λ r. P r ↔ P x) (label ls x) (label ls a.1) (label ls a.0) (label ls x)
    (λ e. Iff.trans (ih a.0) (Iff.trans (h zero (omega arith)) (Iff.trans (Iff.symm (ih a.1)) (rw (← e) (ih x)))))
    (λ d. ih x)

-- what the ends of every link share, sites of one label share
pub induct : (ls : Links) (P : ℕ → Type 0) → ((i : ℕ) → i < length ls → P (one ls i) ↔ P (two ls i)) → (x y : ℕ) → label ls x ≡ label ls y → P x → P y
induct ls P h x y e p = (along ls P h y).0 (rw e at ((along ls P h x).1 p))

-- the same for a function: equal at the ends of every link, equal at sites of one label
pub agree : (ls : Links) (f : ℕ → ℕ) → ((i : ℕ) → i < length ls → f (one ls i) ≡ f (two ls i)) → (x y : ℕ) → label ls x ≡ label ls y → f x ≡ f y
agree ls f h x y e = induct ls (λ z. f x ≡ f z) (λ i l. rw (h i l) Iff.rfl) x y e refl

-- joined sites have one label
pub joined-label : (ls : Links) {a b : ℕ} → Joined ls a b → label ls a ≡ label ls b
joined-label ls same = refl
joined-label ls (link i l) = linked ls i l
joined-label ls (back j) = sym (joined-label ls j)
joined-label ls (chain i j) = joined-label ls i ∙ joined-label ls j

-- sites of one label are joined
pub label-joined : (ls : Links) (a b : ℕ) → label ls a ≡ label ls b → Joined ls a b
label-joined ls a b e = induct ls (Joined ls a) (λ i l. (λ j. chain j (link i l), λ j. chain j (back (link i l)))) a b e same

-- ---- counting

-- the sites 1 .. n that have their own number for a label
unfoldable pub reps : Links → ℕ → ℕ
reps ls n = sum n (λ i. is (label ls (suc i)) (suc i))

-- relabelling takes away at most one of them
pub fewer : (f : ℕ → ℕ) (p q n : ℕ) → sum n (λ i. is (f (suc i)) (suc i)) ≤ suc (sum n (λ i. is (relabel p q (f (suc i))) (suc i)))
unfolding relabel
fewer f p q n = sum-le-suc n (q - 1) (λ i. is (f (suc i)) (suc i)) (λ i. is (relabel p q (f (suc i))) (suc i))
    (omega (arith, is_le (f (suc (q - 1))) (suc (q - 1))))
    (λ i l d. is_mono (f (suc i)) (suc i) (pick (f (suc i)) q p (f (suc i))) (suc i)
    (λ e. rw (pick_other {u = f (suc i)} {v = q} (λ e'. d (omega arith))) e))

-- so each link takes away at most one
pub reps_ge : (ls : Links) (n : ℕ) → n ≤ reps ls n + length ls
unfolding reps label
reps_ge [] n = omega (arith, sum_one n, sum-eq n (λ i. 1) (λ i. is (suc i) (suc i)) (λ i l. sym (is_same refl)))
reps_ge (a ∷ ls) n = omega (arith, reps_ge ls n, fewer (label ls) (label ls a.0) (label ls a.1) n)

-- where all sites are joined, one is left at most
pub reps-whole : (ls : Links) (n r : ℕ) → ((x : ℕ) → Site n x → label ls x ≡ r) → reps ls n ≤ 1
unfolding reps
reps-whole ls n r h = omega (
  arith,
  sum-none n,
  sum-le-suc n (r - 1) (λ i. is (label ls (suc i)) (suc i)) (λ i. 0)
      (is_le (label ls (suc (r - 1))) (suc (r - 1)))
      (λ i l d. omega (arith, is-other {u = label ls (suc i)} {v = suc i} (λ e. d (omega (arith, h (suc i) (omega arith, l)))))),
)

-- to join n sites takes n - 1 links or more
pub whole-links : (ls : Links) (n r : ℕ) → ((x : ℕ) → Site n x → label ls x ≡ r) → n ≤ 1 + length ls
whole-links ls n r h = omega (arith, reps_ge ls n, reps-whole ls n r h)

-- ---- the exact count

-- each link joined two sites that those behind it did not
abbrev pub Fresh : Links → Type 0
Fresh [] = Unit {0}
Fresh (a ∷ ls) = (label ls a.0 ≢ label ls a.1) × Fresh ls

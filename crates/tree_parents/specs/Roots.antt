-- Parents and roots: the parents before the first link, a way made shorter, a root put under another, and labels read off the roots.
use Rattle.std.specs.Prelude.{List, ◌≢◌, ◌⊎◌, ◌≡◌, refl, ℕ, ◌+◌, ◌≤◌, ◌<◌, length, set}
use Rattle.std.proofs.Math.Logic.{inl, inr, ⊎_elim}
use mathlib.Core.Logic.Iff
use Rattle.std.proofs.Math.Path.{sym, ap}
use Rattle.std.proofs.Common.{◌∙◌, arith, get_or-set_same, get_or-set_other}
use Rattle.std.proofs.Math.Decide.{dec_lt}
use Rattle.std.proofs.Math.ListN.{length-set, get_or-eq_default}
use Rattle.lists.specs.Numbers.{look, upfrom, is}
use Rattle.lists.specs.Sums.{pick_same, pick_other, pick_const, cases, same?, is_iff}
use Rattle.lists.specs.Places.{length-upfrom, look-upfrom}
use Rattle.model.specs.Flows.{relabel}
use Rattle.tree_parents.specs.Parents.{Lower, Tells, Root, Shorter, linked, Joins, Settled}

-- ---- before the first link every site is its own parent

pub own-lower : (n : ℕ) → Lower (upfrom 0 n)
own-lower n x = cases (dec_lt x n)
    (λ l. omega (arith, look-upfrom 0 n x l))
    (λ l. omega (arith, get_or-eq_default (upfrom 0 n) 0 {n = x} (omega (arith, length-upfrom 0 n))))

pub own-tells : (n : ℕ) (label : ℕ → ℕ) → ((x : ℕ) → label x ≡ x) → Tells (upfrom 0 n) label
own-tells n label e = record {
  along = λ x l. ap label (omega (arith, look-upfrom 0 n x (omega (arith, length-upfrom 0 n))));
  apart = λ x y p q s. sym (e x) ∙ s ∙ e y;
}

-- ---- a parent and its site have the same root

module _ {parents : List ℕ} {x : ℕ} where
  pub root-own : look parents x ≡ x → Root parents x x
  root-own e = record { low = omega arith; own = e; same = λ label t. refl }

  pub root_of_parent : Lower parents → x < length parents → {r : ℕ} → Root parents (look parents x) r → Root parents x r
  root_of_parent lower l w = record {
    low = omega (arith, w.low, lower x);
    own = w.own;
    same = λ label t. w.same label t ∙ t.along x l;
  }

-- ---- a site gets the parent of its parent

pub shorter_none : {p : List ℕ} → Lower p → Shorter p p
shorter_none h = record { long = refl; lower = h; roots = λ x. Iff.rfl; tells = λ label t. t }

pub shorter_more : {p q r : List ℕ} → Shorter p q → Shorter q r → Shorter p r
shorter_more s t = record {
  long = t.long ∙ s.long;
  lower = t.lower;
  roots = λ x. Iff.trans (s.roots x) (t.roots x);
  tells = λ label w. t.tells label (s.tells label w);
}

module _ (p : List ℕ) (x : ℕ) (lower : Lower p) (l : x < length p) where
  abbrev up : List ℕ
  up = set p x (look p (look p x))

  at-site : look up x ≡ look p (look p x)
  at-site = get_or-set_same p x (look p (look p x)) 0 l

  at_other : (y : ℕ) → y ≢ x → look up y ≡ look p y
  at_other y d = get_or-set_other p x y (look p (look p x)) 0 d

  root_before : (y : ℕ) → look up y ≡ y → look p y ≡ y
  root_before y e = same? y x
      (λ s. let u : look p (look p x) ≡ x = sym at-site ∙ ap (look up) (sym s) ∙ e ∙ s in ap (look p) s ∙ omega (arith, lower x, lower (look p x)))
      (λ d. sym (at_other y d) ∙ e)

  root-after : (y : ℕ) → look p y ≡ y → look up y ≡ y
  root-after y e = same? y x
      (λ s. ap (look up) s ∙ at-site ∙ ap (look p) (ap (look p) (sym s) ∙ e) ∙ e)
      (λ d. at_other y d ∙ e)

  pub shorter_step : Shorter p up
  shorter_step = record {
    long = length-set p x (look p (look p x));
    lower = λ y. same? y x (λ s. rw s (omega (arith, at-site, lower x, lower (look p x)))) (λ d. omega (arith, at_other y d, lower y));
    roots = λ y. (root-after y, root_before y);
    tells = λ label t. record {
      along = λ y b. same? y x
          (λ s. ap label (ap (look up) s ∙ at-site) ∙ t.along (look p x) (omega (arith, lower x)) ∙ t.along x l ∙ ap label (sym s))
          (λ d. ap label (at_other y d) ∙ t.along y (omega (arith, length-set p x (look p (look p x)))));
      apart = λ y z e f. t.apart y z (root_before y e) (root_before z f);
    };
  }

-- ---- the higher of two roots gets the lower one for its parent

-- labels that a link makes the same are the same, or each is one of its two labels
merged : (p q u v : ℕ) → relabel p q u ≡ relabel p q v → (u ≡ v) ⊎ (((u ≡ p) ⊎ (u ≡ q)) × ((v ≡ p) ⊎ (v ≡ q)))
unfolding relabel
merged p q u v e = same? u q
    (λ a. same? v q
    (λ b. inl (a ∙ sym b))
    (λ b. inr (inr a, inl (sym (pick_other b p v) ∙ sym e ∙ pick_same a p u))))
    (λ a. same? v q
    (λ b. inr (inl (sym (pick_other a p u) ∙ e ∙ pick_same b p v), inr b))
    (λ b. inl (sym (pick_other a p u) ∙ e ∙ pick_other b p v)))

-- a label that is one of the two becomes the first
taken : (p q u : ℕ) → (u ≡ p) ⊎ (u ≡ q) → relabel p q u ≡ p
unfolding relabel
taken p q u (inl e) = rw e (pick_const p q p)
taken p q u (inr e) = pick_same e p u

-- lo and hi are the roots of the two sites of a link, in some order
abbrev pub RootsOf : (ℕ → ℕ) → ℕ → ℕ → ℕ → ℕ → Type 0
RootsOf label one two lo hi = ((label lo ≡ label one) × (label hi ≡ label two)) ⊎ ((label lo ≡ label two) × (label hi ≡ label one))

module _ (p : List ℕ) (lo hi : ℕ) (l : hi < length p) (low : look p lo ≡ lo) (high : look p hi ≡ hi) where
  abbrev under : List ℕ
  under = set p hi lo

  at_high : look under hi ≡ lo
  at_high = get_or-set_same p hi lo 0 l

  at_rest : (y : ℕ) → y ≢ hi → look under y ≡ look p y
  at_rest y d = get_or-set_other p hi y lo 0 d

  pub lower-joined : Lower p → lo ≤ hi → Lower under
  lower-joined lower h y = same? y hi (λ s. rw s (omega (arith, at_high))) (λ d. omega (arith, at_rest y d, lower y))

  root_kept : (y : ℕ) → look under y ≡ y → look p y ≡ y
  root_kept y e = same? y hi (λ s. rw s high) (λ d. sym (at_rest y d) ∙ e)

  pub tells-joined : (label : ℕ → ℕ) (one two : ℕ) → RootsOf label one two lo hi → Tells p label → Tells under (linked label one two)
  unfolding linked
  tells-joined label one two pair t = record {
    along = λ y b. same? y hi
        (λ s. rw (s, at_high) (taken (label one) (label two) (label lo) of_low ∙ sym (taken (label one) (label two) (label hi) of-high)))
        (λ d. ap (relabel (label one) (label two)) (ap label (at_rest y d) ∙ t.along y (omega (arith, length-set p hi lo))));
    apart = λ y z e f s. ⊎_elim
        (t.apart y z (root_kept y e) (root_kept z f))
        (λ w. is-low y e w.0 ∙ sym (is-low z f w.1))
        (merged (label one) (label two) (label y) (label z) s);
  }
    where
      of_low : (label lo ≡ label one) ⊎ (label lo ≡ label two)
      of_low = ⊎_elim (λ w. inl w.0) (λ w. inr w.0) pair

      of-high : (label hi ≡ label one) ⊎ (label hi ≡ label two)
      of-high = ⊎_elim (λ w. inr w.1) (λ w. inl w.1) pair

      -- a root that is left, with one of the two labels, is the lower one
      by-low : (y : ℕ) → look under y ≡ y → label y ≡ label lo → y ≡ lo
      by-low y e s = t.apart y lo (root_kept y e) low s

      by_high : (y : ℕ) → look under y ≡ y → label y ≡ label hi → y ≡ lo
      by_high y e s = let same = t.apart y hi (root_kept y e) high s in sym e ∙ ap (look under) same ∙ at_high

      is-low : (y : ℕ) → look under y ≡ y → (label y ≡ label one) ⊎ (label y ≡ label two) → y ≡ lo
      is-low y e = ⊎_elim
          (λ a. ⊎_elim (λ w. by-low y e (a ∙ sym w.0)) (λ w. by_high y e (a ∙ sym w.1)) pair)
          (λ a. ⊎_elim (λ w. by_high y e (a ∙ sym w.1)) (λ w. by-low y e (a ∙ sym w.0)) pair)

-- the two roots found one after the other, the ways made shorter each time
module _ {p q r : List ℕ} {one two a b : ℕ} (A : Root p one a) (s : Shorter p q) (B : Root q two b) (t : Shorter q r)
    (first : one < length p) (second : two < length p) where
  pub roots_placed : (a < length r) × (b < length r) × (length r ≡ length p)
  roots_placed = omega (arith, A.low, B.low, s.long, t.long)

  first-own : look r a ≡ a
  first-own = (t.roots a).0 ((s.roots a).0 A.own)

  second-own : look r b ≡ b
  second-own = (t.roots b).0 B.own

  -- the labels are those that the first parents hold
  by_first : (label : ℕ → ℕ) → Tells p label → Tells r label × (label a ≡ label one) × (label b ≡ label two)
  by_first label h = let k = s.tells label h in (t.tells label k, A.same label h, B.same label k)

  pub joined-first : a ≤ b → Joins p (set r b (look r a)) one two
  joined-first h = rw first-own (record {
    long = length-set r b a ∙ roots_placed.2;
    lower = lower-joined r a b roots_placed.1 first-own second-own t.lower h;
    tells = λ label k. let w = by_first label k in tells-joined r a b roots_placed.1 first-own second-own label one two (inl (w.1, w.2)) w.0;
  })

  pub joined-second : b ≤ a → Joins p (set r a (look r b)) one two
  joined-second h = rw second-own (record {
    long = length-set r a b ∙ roots_placed.2;
    lower = lower-joined r b a roots_placed.0 second-own first-own t.lower h;
    tells = λ label k. let w = by_first label k in tells-joined r b a roots_placed.0 second-own first-own label one two (inr (w.2, w.1)) w.0;
  })

-- ---- labels read off the roots

-- the places below x hold their roots, the others their parents
pub record Settling (parents : List ℕ) (x : ℕ) (now : List ℕ) : Type 0 where
  pub long : length now ≡ length parents
  pub done : (y : ℕ) → y < x → Root parents y (look now y)
  pub left : (y : ℕ) → x ≤ y → look now y ≡ look parents y

pub settling_start : (parents : List ℕ) → Settling parents 0 parents
settling_start parents = record { long = refl; done = λ y l. absurd (omega arith); left = λ y l. refl }

module _ {parents now : List ℕ} {x : ℕ} (lower : Lower parents) (s : Settling parents x now) where
  pub settling_low : look now x ≤ x
  settling_low = omega (arith, s.left x (omega arith), lower x)

  -- the root of x is that of its parent, which has its own, or is x
  root-here : x < length parents → Root parents x (look now (look now x))
  root-here l = rw (s.left x (omega arith)) (same? (look parents x) x
      (λ e. rw (e, s.left x (omega arith), e) (root-own e))
      (λ d. root_of_parent lower l (s.done (look parents x) (omega (arith, lower x)))))

  pub settling_step : x < length parents → Settling parents (x + 1) (set now x (look now (look now x)))
  settling_step l = record {
    long = length-set now x (look now (look now x)) ∙ s.long;
    done = λ y b. same? y x
        (λ e. rw (e, get_or-set_same now x (look now (look now x)) 0 (omega (arith, s.long))) (root-here l))
        (λ d. rw (get_or-set_other now x y (look now (look now x)) 0 d) (s.done y (omega arith)));
    left = λ y b. get_or-set_other now x y (look now (look now x)) 0 (λ e. omega arith) ∙ s.left y (omega arith);
  }

  pub settling_end : length parents ≤ x → Settled parents now
  settling_end h = record { long = s.long; roots = λ y l. s.done y (omega arith) }

module _ {parents labels : List ℕ} (s : Settled parents labels) where
  -- they are those that the parents hold, by other numbers
  pub labels_same : (label : ℕ → ℕ) → Tells parents label → (x y : ℕ) → x < length parents → y < length parents
      → is (look labels x) (look labels y) ≡ is (label x) (label y)
  labels_same label t x y a b = is_iff (look labels x) (look labels y) (label x) (label y)
      (λ e. sym ((s.roots x a).same label t) ∙ ap label e ∙ (s.roots y b).same label t)
      (λ e. t.apart (look labels x) (look labels y) (s.roots x a).own (s.roots y b).own
      ((s.roots x a).same label t ∙ e ∙ sym ((s.roots y b).same label t)))

  -- and no label is above its site
  pub labels_low : Lower labels
  labels_low x = cases (dec_lt x (length parents))
      (λ l. (s.roots x l).low)
      (λ l. omega (arith, get_or-eq_default labels 0 {n = x} (omega (arith, s.long))))

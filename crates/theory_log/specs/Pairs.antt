-- Laws of the list of open pairs: loads, places of a pair, entries and lengths as a pair grows and shrinks. By induction along the list.
use Rattle.std.specs.Prelude.{◌≡◌, ◌≢◌, length}
use Rattle.std.proofs.Math.Path.{refl, ap}
use mathlib.Core.List.{List, [], ◌∷◌}
use Prim.Native.Nat.{ℕ, suc, ◌+◌, ◌-◌, ◌*◌, ◌≤◌, ◌<◌}
use native.Mathlib.Omega.{arith}
use Rattle.lists.specs.Numbers.{is, Each}
use Rattle.model.specs.Flows.{Links, separates, load}
use Rattle.model.specs.declared.Pair.{Pair}
use Rattle.lists.specs.Sums.{pick_same, pick_other, same?, is_same, is-other, is_one, is_le, product_one}
use Rattle.model.specs.Booking.{pair, same, open_of, places_of, grow, last_of, front_of, moved, shrink, Entry}

-- ---- the test

pub same-one : (a b : ℕ) (e : Pair) → same a b e ≡ 1 → (e.first ≡ a) × (e.second ≡ b)
unfolding same
same-one a b e s =
    let t = product_one (is e.first a) (is e.second b) (is_le e.first a) s in
    (is_one t.0, is_one t.1)

pub same-le : (a b : ℕ) (e : Pair) → same a b e ≤ 1
unfolding same
same-le a b e = same? e.first a
    (λ h. rw (is_same h) (omega (arith, is_le e.second b)))
    (λ h. rw (is-other h) (omega arith))

pub same-other : (a b : ℕ) (e : Pair) → same a b e ≢ 1 → same a b e ≡ 0
same-other a b e d = omega (arith, same-le a b e)

-- the test sees the two sites only
pub same-sites : (p q : ℕ) (e : Pair) (a b x : ℕ) → e.first ≡ a → e.second ≡ b → same p q (pair a b x) ≡ same p q e
unfolding same
same-sites p q e a b x h k = rw (h, k) refl

-- ---- no entry

pub open_none : (a b : ℕ) (es : List Pair) → places_of a b es ≡ 0 → open_of a b es ≡ 0
unfolding open_of places_of
open_none a b [] z = refl
open_none a b (e ∷ es) z =
    let s : same a b e ≡ 0 = omega arith in
    rw s (omega (arith, open_none a b es (omega arith)))

-- ---- x more

module _ (a b x : ℕ) where
  pub grow-load : (ls : Links) (j : ℕ) (es : List Pair) → load ls (grow a b x es) j ≡ load ls es j + x * separates ls j a b
  unfolding grow load
  grow-load ls j [] = omega arith
  grow-load ls j (e ∷ es) = same? (same a b e) 1
      (λ s. let q = same-one a b e s in rw (pick_same s, q.0, q.1) (omega arith))
      (λ d. rw (pick_other d) (omega (arith, grow-load ls j es)))

  pub grow-places : (p q : ℕ) (es : List Pair) → places_of p q (grow a b x es) ≡ places_of p q es + same p q (pair a b x) * is (places_of a b es) 0
  unfolding grow places_of
  grow-places p q [] = rw (is_same {u = 0} refl) (omega arith)
  grow-places p q (e ∷ es) = same? (same a b e) 1
      (λ s. let k = same-one a b e s in
      rw (pick_same s, is-other {u = same a b e + places_of a b es} {v = 0} (λ z. omega arith))
      (omega (arith, same-sites p q e a b (e.amount + x) k.0 k.1)))
      (λ d. let z : same a b e + places_of a b es ≡ places_of a b es = omega (arith, same-other a b e d) in
      rw (pick_other d, z) (omega (arith, grow-places p q es)))

  pub grow-length : (es : List Pair) → length (grow a b x es) ≡ length es + is (places_of a b es) 0
  unfolding grow places_of
  grow-length [] = rw (is_same {u = 0} refl) refl
  grow-length (e ∷ es) = same? (same a b e) 1
      (λ s. rw (pick_same s, is-other {u = same a b e + places_of a b es} {v = 0} (λ z. omega arith)) (omega arith))
      (λ d. let z : same a b e + places_of a b es ≡ places_of a b es = omega (arith, same-other a b e d) in
      rw (pick_other d, z) (omega (arith, grow-length es)))

  pub grow-entries : {n : ℕ} (es : List Pair) → Entry n (pair a b x) → Each (Entry n) es → Each (Entry n) (grow a b x es)
  unfolding grow
  grow-entries [] p h = (p, tt)
  grow-entries (e ∷ es) p h = same? (same a b e) 1
      (λ s. rw (pick_same s) (
        record { first-site = p.first-site; second-site = p.second-site; lower-first = p.lower-first; some = omega (arith, p.some) },
        h.1,
      ))
      (λ d. rw (pick_other d) (h.0, grow-entries es p h.1))

  -- entries stand once
  pub grow_once : (es : List Pair) → ((p q : ℕ) → places_of p q es ≤ 1) → (p q : ℕ) → places_of p q (grow a b x es) ≤ 1
  grow_once es h p q = same? (same p q (pair a b x)) 1
      (λ s. let k = same-one p q (pair a b x) s in
      let z = rw s at (grow-places p q es) in
      let t : places_of a b es ≡ places_of p q es = rw (k.0, k.1) refl in
      same? (places_of a b es) 0 (λ y. omega (arith, is_same y)) (λ y. omega (arith, is-other y, h p q)))
      (λ d. let z = rw (same-other p q (pair a b x) d) at (grow-places p q es) in omega (arith, h p q))

-- ---- the last entry moved

pub moved-load : (ls : Links) (j : ℕ) (es : List Pair) → load ls (moved es) j ≡ load ls es j
unfolding moved load last_of front_of
moved-load ls j [] = refl
moved-load ls j (e ∷ es) = go e es
  where
    go : (e : Pair) (es : List Pair) → load ls (last_of e es ∷ front_of e es) j ≡ load ls (e ∷ es) j
    go e [] = refl
    go e (f ∷ es) = omega (arith, go f es)

pub moved-places : (p q : ℕ) (es : List Pair) → places_of p q (moved es) ≡ places_of p q es
unfolding moved places_of last_of front_of
moved-places p q [] = refl
moved-places p q (e ∷ es) = go e es
  where
    go : (e : Pair) (es : List Pair) → places_of p q (last_of e es ∷ front_of e es) ≡ places_of p q (e ∷ es)
    go e [] = refl
    go e (f ∷ es) = omega (arith, go f es)

pub moved_open : (p q : ℕ) (es : List Pair) → open_of p q (moved es) ≡ open_of p q es
unfolding moved open_of last_of front_of
moved_open p q [] = refl
moved_open p q (e ∷ es) = go e es
  where
    go : (e : Pair) (es : List Pair) → open_of p q (last_of e es ∷ front_of e es) ≡ open_of p q (e ∷ es)
    go e [] = refl
    go e (f ∷ es) = omega (arith, go f es)

pub moved_length : (es : List Pair) → length (moved es) ≡ length es
unfolding moved last_of front_of
moved_length [] = refl
moved_length (e ∷ es) = ap suc (go e es)
  where
    go : (e : Pair) (es : List Pair) → length (front_of e es) ≡ length es
    go e [] = refl
    go e (f ∷ es) = ap suc (go f es)

pub moved-each : (P : Pair → Type 0) (es : List Pair) → Each P es → Each P (moved es)
unfolding moved last_of front_of
moved-each P [] h = tt
moved-each P (e ∷ es) h = go e es h
  where
    go : (e : Pair) (es : List Pair) → Each P (e ∷ es) → Each P (last_of e es ∷ front_of e es)
    go e [] h = h
    go e (f ∷ es) h = let r = go f es h.1 in (r.0, (h.0, r.1))

-- ---- x less

module _ (a b x : ℕ) where
  pub shrink-load : (ls : Links) (j : ℕ) (es : List Pair) → places_of a b es ≤ 1 → 1 ≤ x → x ≤ open_of a b es
      → load ls (shrink a b x es) j + x * separates ls j a b ≡ load ls es j
  unfolding shrink load places_of open_of
  shrink-load ls j [] o l h = absurd (omega arith)
  shrink-load ls j (e ∷ es) o l h = same? (same a b e) 1
      (λ s. let q = same-one a b e s in
      let none = open_none a b es (omega arith) in
      let enough : x ≤ e.amount = omega (arith, rw s at h) in
      rw (pick_same s, q.0, q.1) (same? e.amount x
      (λ y. rw (pick_same y, y) (omega (arith, moved-load ls j es)))
      (λ y. let whole : (e.amount - x) + x ≡ e.amount = omega arith in
      rw (pick_other y) (omega (arith, ap (λ k. k * separates ls j a b) whole)))))
      (λ d. let z = same-other a b e d in
      rw (pick_other d) (omega (arith, shrink-load ls j es (omega arith) l (omega (arith, rw z at h)))))

  pub shrink-places : (p q : ℕ) (es : List Pair) → places_of p q (shrink a b x es) ≤ places_of p q es
  unfolding shrink places_of
  shrink-places p q [] = omega arith
  shrink-places p q (e ∷ es) = same? (same a b e) 1
      (λ s. let k = same-one a b e s in
      rw (pick_same s) (same? e.amount x
      (λ y. rw (pick_same y) (omega (arith, moved-places p q es)))
      (λ y. rw (pick_other y) (omega (arith, same-sites p q e a b (e.amount - x) k.0 k.1)))))
      (λ d. rw (pick_other d) (omega (arith, shrink-places p q es)))

  pub shrink-length : (es : List Pair) → length (shrink a b x es) ≤ length es
  unfolding shrink
  shrink-length [] = omega arith
  shrink-length (e ∷ es) = same? (same a b e) 1
      (λ s. rw (pick_same s) (same? e.amount x
      (λ y. rw (pick_same y) (omega (arith, moved_length es)))
      (λ y. rw (pick_other y) (omega arith))))
      (λ d. rw (pick_other d) (omega (arith, shrink-length es)))

  pub shrink-entries : (n : ℕ) (es : List Pair) → places_of a b es ≤ 1 → x ≤ open_of a b es → Each (Entry n) es → Each (Entry n) (shrink a b x es)
  unfolding shrink places_of open_of
  shrink-entries n [] o h t = tt
  shrink-entries n (e ∷ es) o h t = same? (same a b e) 1
      (λ s. let k = same-one a b e s in
      let none = open_none a b es (omega arith) in
      let enough : x ≤ e.amount = omega (arith, rw s at h) in
      rw (pick_same s) (same? e.amount x
      (λ y. rw (pick_same y) (moved-each (Entry n) es t.1))
      (λ y. rw (pick_other y) (
        record {
          first-site = rw k.0 at t.0.first-site;
          second-site = rw k.1 at t.0.second-site;
          lower-first = rw (k.0, k.1) at t.0.lower-first;
          some = omega arith;
        },
        t.1,
      ))))
      (λ d. let z = same-other a b e d in
      rw (pick_other d) (t.0, shrink-entries n es (omega arith) (omega (arith, rw z at h)) t.1))

-- ---- what is said of the two sites of each entry

-- P holds of the sites of an entry
abbrev pub Sites : (ℕ → ℕ → Type 0) → Pair → Type 0
Sites P e = P e.first e.second

module _ (a b x : ℕ) (P : ℕ → ℕ → Type 0) where
  pub grow-sites : (es : List Pair) → P a b → Each (Sites P) es → Each (Sites P) (grow a b x es)
  unfolding grow
  grow-sites [] p h = (p, tt)
  grow-sites (e ∷ es) p h = same? (same a b e) 1 (λ s. rw (pick_same s) (p, h.1)) (λ d. rw (pick_other d) (h.0, grow-sites es p h.1))

  pub shrink-sites : (es : List Pair) → Each (Sites P) es → Each (Sites P) (shrink a b x es)
  unfolding shrink
  shrink-sites [] h = tt
  shrink-sites (e ∷ es) h = same? (same a b e) 1
      (λ s. let k = same-one a b e s in
      rw (pick_same s) (same? e.amount x
      (λ y. rw (pick_same y) (moved-each (Sites P) es h.1))
      (λ y. rw (pick_other y) (rw (k.0, k.1) at h.0, h.1))))
      (λ d. rw (pick_other d) (h.0, shrink-sites es h.1))

-- ---- what a pair has open

module _ (a b x : ℕ) where
  pub grow_open : (p q : ℕ) (es : List Pair) → open_of p q (grow a b x es) ≡ open_of p q es + same p q (pair a b x) * x
  unfolding grow open_of
  grow_open p q [] = omega arith
  grow_open p q (e ∷ es) = same? (same a b e) 1
      (λ s. let k = same-one a b e s in
      rw (pick_same s, same-sites p q e a b (e.amount + x) k.0 k.1, same-sites p q e a b x k.0 k.1) (omega arith))
      (λ d. rw (pick_other d) (omega (arith, grow_open p q es)))

  pub shrink_open : (p q : ℕ) (es : List Pair) → places_of a b es ≤ 1 → 1 ≤ x → x ≤ open_of a b es
      → open_of p q (shrink a b x es) + same p q (pair a b x) * x ≡ open_of p q es
  unfolding shrink places_of open_of
  shrink_open p q [] o l h = absurd (omega arith)
  shrink_open p q (e ∷ es) o l h = same? (same a b e) 1
      (λ s. let k = same-one a b e s in
      let none = open_none a b es (omega arith) in
      let enough : x ≤ e.amount = omega (arith, rw s at h) in
      rw (pick_same s, same-sites p q e a b x k.0 k.1) (same? e.amount x
      (λ y. rw (pick_same y, y) (omega (arith, moved_open p q es)))
      (λ y. let whole : (e.amount - x) + x ≡ e.amount = omega arith in
      rw (pick_other y, same-sites p q e a b (e.amount - x) k.0 k.1) (omega (arith, ap (λ z. same p q e * z) whole)))))
      (λ d. let z = same-other a b e d in
      rw (pick_other d) (omega (arith, shrink_open p q es (omega arith) l (omega (arith, rw z at h)))))

-- ---- a pair that falls to nothing gives its place back

module _ (a b x : ℕ) where
  pub nothing_left : (es : List Pair) → places_of a b es ≤ 1 → 1 ≤ x → open_of a b es ≡ x
      → (places_of a b (shrink a b x es) ≡ 0) × (suc (length (shrink a b x es)) ≡ length es)
  unfolding shrink places_of open_of
  nothing_left [] o l h = absurd (omega arith)
  nothing_left (e ∷ es) o l h = same? (same a b e) 1
      (λ s. let y : e.amount ≡ x = omega (arith, open_none a b es (omega arith), rw s at h) in
      rw (pick_same s, pick_same y) (omega (arith, moved-places a b es), omega (arith, moved_length es)))
      (λ d. let z = same-other a b e d in
      let r = nothing_left es (omega arith) l (omega (arith, rw z at h)) in
      rw (pick_other d) (omega (arith, r.0), omega (arith, r.1)))

  -- one of which something is left keeps it
  pub something_left : (es : List Pair) → places_of a b es ≤ 1 → x < open_of a b es → length (shrink a b x es) ≡ length es
  unfolding shrink places_of open_of
  something_left [] o h = absurd (omega arith)
  something_left (e ∷ es) o h = same? (same a b e) 1
      (λ s. let y : e.amount ≢ x = λ q. omega (arith, open_none a b es (omega arith), rw s at h) in
      rw (pick_same s, pick_other y) refl)
      (λ d. let z = same-other a b e d in
      rw (pick_other d) (ap suc (something_left es (omega arith) (omega (arith, rw z at h)))))

-- Laws for callers of a set: a member is 0 or 1, a set is told by its members, and what the first member from p up, and the list of the members from p up, say of those before it.
use Rattle.std.specs.Prelude.{◌≡◌, ◌≢◌, refl, List, [], ◌∷◌, Some, None, length, get_or}
use Rattle.std.proofs.Common.{sym, ◌∙◌, zero-add, add-zero, suc-add, add-suc, add-one, one-add, arith, shr-shr, shr_lt, ext_get_or}
use Rattle.std.proofs.Math.Path.{ap}
use Prim.Native.Nat.{ℕ, zero, suc, ◌+◌, ◌-◌, ◌*◌, ◌/◌, ◌%◌, ◌^◌, ◌≤◌, ◌<◌}
use Rattle.model.specs.Limits.{SITES, WORDS}
use Rattle.lists.specs.Sums.{pick_same, pick_other, same?, contradiction}
use Rattle.tree_sets.specs.Members.{bit, member, first_from, members_from}
use Rattle.tree_sets.specs.declared.Set.{Set}

pub member-le : (s : Set) (m : ℕ) → member s m ≤ 1
unfolding member
member-le s m = omega arith

-- bit r of word q
pub member-bit : (s : Set) (q r : ℕ) → r < 64 → member s (q * 64 + r) ≡ bit (get_or s.words q 0) r
unfolding member
member-bit s q r h =
    let a : (q * 64 + r) / 64 ≡ q = omega arith in
    let b : (q * 64 + r) % 64 ≡ r = omega arith in
    rw (a, b)

-- ---- a set is told by its members

pub bit-low : (x : ℕ) → bit x 0 ≡ x % 2
bit-low x = omega arith

pub bit_up : (x k : ℕ) → bit x (suc k) ≡ bit (x / 2) k
bit_up x k = ap (λ n. n % 2) (sym (rw (one-add k) at (shr-shr x 1 k)))

told_by_bits : (k x y : ℕ) → x < 2 ^ k → y < 2 ^ k → ((j : ℕ) → j < k → bit x j ≡ bit y j) → x ≡ y
told_by_bits zero x y hx hy h = omega arith
told_by_bits (suc k) x y hx hy h =
    let half = told_by_bits k (x / 2) (y / 2) (shr_lt k 1 (rw (add-one k) hx)) (shr_lt k 1 (rw (add-one k) hy))
    (λ j l. sym (bit_up x j) ∙ h (suc j) (omega arith) ∙ bit_up y j) in
    omega (arith, half, bit-low x, bit-low y, h 0 (omega arith))

-- words of 64 bits, as the type has them
pub record Fits (s : Set) : Type 0 where
  pub full : length s.words ≡ WORDS
  pub each : (q : ℕ) → get_or s.words q 0 < 2 ^ 64

pub a_set_is_told_by_its_members : (s s' : Set) → Fits s → Fits s' → ((m : ℕ) → member s m ≡ member s' m) → s ≡ s'
a_set_is_told_by_its_members s s' f f' h = ap (λ ws. record { words = ws }) (ext_get_or 0 s.words s'.words (f.full ∙ sym f'.full)
    (λ q l. told_by_bits 64 (get_or s.words q 0) (get_or s'.words q 0) (f.each q) (f'.each q)
    (λ r k. sym (member-bit s q r k) ∙ h (q * 64 + r) ∙ member-bit s' q r k)))

-- ---- the first member from p up

module _ (f : ℕ → ℕ) where
  -- numbers that are none are passed over
  pub first_skip : (p d k : ℕ) → ((j : ℕ) → j < d → f (p + j) ≢ 1) → first_from f p (d + k) ≡ first_from f (p + d) k
  unfolding first_from
  first_skip p zero k h = rw (zero-add, add-zero)
  first_skip p (suc d) k h = rw (suc-add, add-suc) (
      pick_other (λ e. h 0 (omega arith) (ap f (add-zero p) ∙ e)) _ _
      ∙ first_skip (suc p) d k (λ j l e. h (suc j) (omega arith) (ap f (omega arith) ∙ e))
      ∙ ap (λ q. first_from f q k) (suc-add p d))

  pub first_hit : (p k : ℕ) → f p ≡ 1 → first_from f p (suc k) ≡ Some p
  unfolding first_from
  first_hit p k e = pick_same e _ _

  -- m is the first of the k numbers from p up
  pub record First (p k m : ℕ) : Type 0 where
    pub from : p ≤ m
    pub to : m < p + k
    pub hit : f m ≡ 1
    pub miss : (j : ℕ) → p ≤ j → j < m → f j ≢ 1

  pub first-at : (p k m : ℕ) → first_from f p k ≡ Some m → First p k m
  unfolding first_from
  first-at p zero m e = contradiction cc
  first-at p (suc k) m e = same? (f p) 1
      (λ h. let q : p ≡ m = (let g = pick_same h (Some p) (first_from f (suc p) k) in cc) in
      record { from = omega arith; to = omega arith; hit = ap f (omega arith) ∙ h; miss = λ j a b. absurd (omega arith) })
      (λ d. let r = first-at (suc p) k m (rw (pick_other d) at e) in
      record {
        from = omega (arith, r.from);
        to = omega (arith, r.to);
        hit = r.hit;
        miss = λ j a b. same? j p (λ g h. d (ap f (omega arith) ∙ h)) (λ g. r.miss j (omega arith) b);
      })

  pub first_absent : (p k : ℕ) → first_from f p k ≡ None → (j : ℕ) → p ≤ j → j < p + k → f j ≢ 1
  unfolding first_from
  first_absent p zero e j a b = absurd (omega arith)
  first_absent p (suc k) e j a b = same? (f p) 1
      (λ h. contradiction (let g = pick_same h (Some p) (first_from f (suc p) k) in cc))
      (λ d. same? j p (λ g h. d (ap f (omega arith) ∙ h)) (λ g. first_absent (suc p) k (rw (pick_other d) at e) j (omega arith) (omega arith)))

  -- ---- the list of the members from p up

  -- numbers that are none are passed over
  pub members_skip : (p d k : ℕ) → ((j : ℕ) → j < d → f (p + j) ≢ 1) → members_from f p (d + k) ≡ members_from f (p + d) k
  unfolding members_from
  members_skip p zero k h = rw (zero-add, add-zero)
  members_skip p (suc d) k h = rw (suc-add, add-suc) (
      pick_other (λ e. h 0 (omega arith) (ap f (add-zero p) ∙ e)) _ _
      ∙ members_skip (suc p) d k (λ j l e. h (suc j) (omega arith) (ap f (omega arith) ∙ e))
      ∙ ap (λ q. members_from f q k) (suc-add p d))

  pub members_hit : (p k : ℕ) → f p ≡ 1 → members_from f p (suc k) ≡ p ∷ members_from f (suc p) k
  unfolding members_from
  members_hit p k e = pick_same e _ _

  -- the first of them is the first member, and the others are those behind it
  pub members_next : (p k m : ℕ) (ms : List ℕ) → members_from f p k ≡ m ∷ ms → First p k m × (ms ≡ members_from f (m + 1) (p + k - (m + 1)))
  unfolding members_from
  members_next p zero m ms e = contradiction cc
  members_next p (suc k) m ms e = same? (f p) 1
      (λ h. let g = pick_same h (p ∷ members_from f (suc p) k) (members_from f (suc p) k) in
      let q : p ≡ m = cc in
      let t : ms ≡ members_from f (suc p) k = cc in
      let a : suc p ≡ m + 1 = omega arith in
      let b : k ≡ p + suc k - (m + 1) = omega arith in (
        record { from = omega arith; to = omega arith; hit = ap f (sym q) ∙ h; miss = λ j a b. absurd (omega arith) },
        t ∙ ap (λ z. members_from f z k) a ∙ ap (λ z. members_from f (m + 1) z) b,
      ))
      (λ d. let r = members_next (suc p) k m ms (rw (pick_other d) at e) in
      let b : suc p + k - (m + 1) ≡ p + suc k - (m + 1) = omega arith in (
        record {
          from = omega (arith, r.0.from);
          to = omega (arith, r.0.to);
          hit = r.0.hit;
          miss = λ j a b. same? j p (λ g h. d (ap f (sym g) ∙ h)) (λ g. r.0.miss j (omega arith) b);
        },
        r.1 ∙ ap (λ z. members_from f (m + 1) z) b,
      ))

  pub members_end : (p k : ℕ) → members_from f p k ≡ [] → (j : ℕ) → p ≤ j → j < p + k → f j ≢ 1
  unfolding members_from
  members_end p zero e j a b = absurd (omega arith)
  members_end p (suc k) e j a b = same? (f p) 1
      (λ h. contradiction (let g = pick_same h (p ∷ members_from f (suc p) k) (members_from f (suc p) k) in cc))
      (λ d. same? j p (λ g h. d (ap f (sym g) ∙ h)) (λ g. members_end (suc p) k (rw (pick_other d) at e) j (omega arith) (omega arith)))

-- they are told by what f is there
pub members-eq : (f g : ℕ → ℕ) (p k : ℕ) → ((j : ℕ) → p ≤ j → j < p + k → f j ≡ g j) → members_from f p k ≡ members_from g p k
unfolding members_from
members-eq f g p zero h = refl
members-eq f g p (suc k) h =
    let rest = members-eq f g (suc p) k (λ j a b. h j (omega arith) (omega arith)) in
    let e = h p (omega arith) (omega arith) in
    rw (e, rest)

-- ---- a walk over the members, from the lowest up

-- ms are those from p up
pub record Coming (f : ℕ → ℕ) (p : ℕ) (ms : List ℕ) : Type 0 where
  pub within : p ≤ SITES
  pub all : ms ≡ members_from f p (SITES - p)

module _ (f : ℕ → ℕ) where
  pub coming_start : {ms : List ℕ} → ms ≡ members_from f 0 SITES → Coming f 0 ms
  coming_start e = record { within = omega arith; all = e }

  module _ {p : ℕ} {ms : List ℕ} (c : Coming f p ms) where
    pub coming_first : {m : ℕ} {others : List ℕ} → ms ≡ m ∷ others → First f p (SITES - p) m
    coming_first {m} {others} e = (members_next f p (SITES - p) m others (sym c.all ∙ e)).0

    pub coming_below : {m : ℕ} {others : List ℕ} → ms ≡ m ∷ others → m < SITES
    coming_below e = omega (arith, c.within, (coming_first e).to)

    pub coming_others : {m : ℕ} {others : List ℕ} → ms ≡ m ∷ others → Coming f (m + 1) others
    coming_others {m} {others} e =
        let r = members_next f p (SITES - p) m others (sym c.all ∙ e) in
        let b : p + (SITES - p) - (m + 1) ≡ SITES - (m + 1) = omega (arith, c.within) in
        record { within = omega (arith, c.within, r.0.to); all = r.1 ∙ ap (members_from f (m + 1)) b }

    pub coming_end : ms ≡ [] → (j : ℕ) → p ≤ j → j < SITES → f j ≢ 1
    coming_end e j a b = members_end f p (SITES - p) (sym c.all ∙ e) j a (omega (arith, c.within))

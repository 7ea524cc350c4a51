-- The arithmetic of whole circuits, with no tree in it: an interval of loads at a site and at the link to its parent, by cases and linear arithmetic.
-- A, B: least and most that the children bring together; a, b: low and high of the link of capacity c; at, bt, yt: low, high and load of the child `top`;
-- x: load of the link; Y: loads of the children together; K, M, S: what comes to the terminals below.
use Rattle.std.specs.Prelude.{◌≡◌, ◌≢◌, ℕ, ◌+◌, ◌*◌, ◌-◌, ◌%◌, ◌≤◌, ◌<◌, min, max}
use Rattle.std.proofs.Common.{arith}
use Rattle.std.proofs.Math.Decide.{dec_le, dec_lt}
use Rattle.lists.specs.Sums.{same?, cases}

-- from the interval A, B of a site to the interval a, b of its parent link, of capacity c
pub data Link (A B c a b : ℕ) : Type 0 where
  closed : c < A → a ≡ c → b ≡ c → Link A B c a b
  opened : A ≤ c → a ≡ A → b ≡ min B (c - (c + B) % 2) → Link A B c a b

-- numbers of one parity, and a step that parity allows
same_parity : (x b B : ℕ) → (b + B) % 2 ≡ 0 → (x + b) % 2 ≡ (x + B) % 2
same_parity x b B e = omega arith

room : (x c B : ℕ) → x ≤ c → x + (c + B) % 2 ≤ c + (x + B) % 2
room x c B l = same? x c (λ e. rw e (omega arith)) (λ d. omega arith)

-- N1: the interval of a link lies in that of its site, below the capacity, and has the same parity
pub interval : {A B c a b : ℕ} → Link A B c a b → A ≤ B → (A + B) % 2 ≡ 0
    → (a ≤ b) × (b ≤ c) × ((a + b) % 2 ≡ 0) × (a ≤ A) × (b ≤ B)
interval (closed l p q) h e = omega arith
interval (opened l p q) h e = omega arith

pub interval_open : {A B c a b : ℕ} → Link A B c a b → A ≤ B → (A + B) % 2 ≡ 0 → A ≤ c
    → (a ≡ A) × ((b + B) % 2 ≡ 0)
interval_open (closed l p q) h e k = omega arith
interval_open (opened l p q) h e k = omega arith

pub interval_whole : {A B c a b : ℕ} → Link A B c a b → A ≤ B → (A + B) % 2 ≡ 0 → B ≤ c → (a ≡ A) × (b ≡ B)
interval_whole (closed l p q) h e k = omega arith
interval_whole (opened l p q) h e k = omega arith

pub interval_closed : {A B c a b : ℕ} → Link A B c a b → c < A → (a ≡ c) × (b ≡ c)
interval_closed (closed l p q) k = omega arith
interval_closed (opened l p q) k = omega arith

-- what a load x can bring to the terminals below at most
pub record Upper (K a b x S : ℕ) : Type 0 where
  pub rising : S ≤ K + x
  pub falling : S + x ≤ K + a + b
  pub parity : S + (x + b) % 2 ≤ K + a

-- what the load x does bring to them
pub record Value (K a b x S : ℕ) : Type 0 where
  pub below : x < a → S ≡ K + x
  pub above : a ≤ x → S + (x + b) % 2 ≡ K + a

-- N2: from a site to its parent link; a closed link needs the first bound only
pub upper_closed : {A B c a b : ℕ} (K x S : ℕ) → Link A B c a b → c < A → x ≤ c → S ≤ K + x → Upper K a b x S
upper_closed K x S (closed l p q) k h u = omega arith
upper_closed K x S (opened l p q) k h u = omega arith

open_falling : (K A B c x S : ℕ) → S + x ≤ K + A + B → S + (x + B) % 2 ≤ K + A → x + (c + B) % 2 ≤ c + (x + B) % 2
    → (b : ℕ) → b ≡ min B (c - (c + B) % 2) → {a : ℕ} → a ≡ A → S + x ≤ K + a + b
open_falling K A B c x S f g r b q p = omega arith

pub upper_link : {A B c a b : ℕ} (K x S : ℕ) → Link A B c a b → A ≤ B → (A + B) % 2 ≡ 0 → x ≤ c → Upper K A B x S → Upper K a b x S
upper_link K x S (closed l p q) k e h u = omega arith
upper_link {A} {B} {c} {a} {b} K x S (opened l p q) k e h u =
    let i = interval_open {A = A} {B = B} {c = c} {a = a} {b = b} (opened l p q) k e l in
    let r = same_parity x b B i.1 in
    record {
      rising = u.rising;
      falling = open_falling K A B c x S u.falling u.parity (room x c B h) b q p;
      parity = rw (r, p) u.parity;
    }

-- N3: the same for the value reached
pub value_closed : {A B c a b : ℕ} (K x S : ℕ) → Link A B c a b → c < A → x ≤ b → S ≡ K + x → Value K a b x S
value_closed K x S (closed l p q) k h u = omega arith
value_closed K x S (opened l p q) k h u = omega arith

pub value-link : {A B c a b : ℕ} (K x S : ℕ) → Link A B c a b → A ≤ B → (A + B) % 2 ≡ 0 → x ≤ b → Value K A B x S → Value K a b x S
value-link K x S (closed l p q) k e h u = let v : S ≡ K + x = u.below (omega arith) in omega arith
value-link {A} {B} {c} {a} {b} K x S (opened l p q) k e h u =
    let i = interval_open {A = A} {B = B} {c = c} {a = a} {b = b} (opened l p q) k e l in
    record {
      below = λ j. u.below (omega arith);
      above = λ j. rw (same_parity x b B i.1, p) (u.above (omega arith));
    }

-- N4: the upper bounds at an inner site, from sums over its children; t is the child with the greatest b
pub upper_site : (K M A B at bt x Y yt S : ℕ) → A ≡ max (at + bt - B) (B % 2) → K + A ≡ M
    → S + Y ≤ M + B → S + (Y + B) % 2 ≤ M → S + Y + at + bt ≤ M + B + 2 * yt
    → (x + Y) % 2 ≡ 0 → x ≤ Y → 2 * yt ≤ x + Y → Upper K A B x S
upper_site K M A B at bt x Y yt S p q h1 h2 h3 e l m = omega arith

-- N5: the load of t that goes with the load x of the parent link
pub choice : (B bt x yt Y : ℕ) → bt ≤ B → x ≤ B → (1 ≤ B → 1 ≤ bt) → yt ≡ min (bt - (x + B) % 2) (x + B - bt) → Y + bt ≡ B + yt
    → (yt ≤ bt) × ((x + Y) % 2 ≡ 0) × (x ≤ Y) × (2 * yt ≤ x + Y)
choice B bt x yt Y l h o p q = cases (dec_le 1 B)
    (λ k. let z = o k in omega arith)
    (λ k. omega arith)

pub choice-other : (B bt x yt Y bj : ℕ) → bt ≤ B → x ≤ B → (1 ≤ B → 1 ≤ bt) → yt ≡ min (bt - (x + B) % 2) (x + B - bt) → Y + bt ≡ B + yt
    → bj ≤ bt → bj + bt ≤ B → 2 * bj ≤ x + Y
choice-other B bt x yt Y bj l h o p q i j = cases (dec_le 1 B)
    (λ k. let z = o k in omega arith)
    (λ k. omega arith)

module _ (K M A B Kt at bt x yt St S : ℕ) (p : A ≡ max (at + bt - B) (B % 2)) (q : K + A ≡ M) (s : S + Kt + at ≡ M + St) where
  value_falls : yt + bt ≡ x + B → yt < at → St ≡ Kt + yt → Value K A B x S
  value_falls y j z = let g : A + B ≡ at + bt = omega arith in record { below = λ i. omega arith; above = λ i. absurd (omega arith) }

  value_rests : yt + bt ≡ x + B → at ≤ yt → St + (x + B) % 2 ≡ Kt + at → Value K A B x S
  value_rests y j z = record { below = λ i. let g : (A ≡ 1) × (x ≡ 0) = omega arith in omega arith; above = λ i. omega arith }

value_odd : (K M A B Kt at bt x St S : ℕ) → A ≡ max (at + bt - B) (B % 2) → K + A ≡ M → S + Kt + at ≡ M + St → at ≤ bt
    → bt + bt ≤ x + B → St + (x + B) % 2 ≡ Kt + at → Value K A B x S
value_odd K M A B Kt at bt x St S p q s k j z = record { below = λ i. let g : (A ≡ 1) × (x ≡ 0) = omega arith in omega arith; above = λ i. omega arith }

below_odd : (r at bt yt Kt St : ℕ) → at ≤ bt → (at + bt) % 2 ≡ 0 → r ≤ bt → r ≤ 1 → yt ≡ bt - r → yt < at → St ≡ Kt + yt → St + r ≡ Kt + at
below_odd r at bt yt Kt St k e l h y j z = let g : (at ≡ bt) × (r ≡ 1) = omega arith in omega arith

top_parity : (h bt yt : ℕ) → h % 2 ≤ bt → yt ≡ bt - h % 2 → (yt + bt) % 2 ≡ h % 2
top_parity h bt yt l y = omega arith

-- N6: the value reached at an inner site
pub value-site : (K M A B Kt at bt x yt St S : ℕ) → A ≡ max (at + bt - B) (B % 2) → K + A ≡ M → at ≤ bt → (at + bt) % 2 ≡ 0
    → bt ≤ B → x ≤ B → (1 ≤ B → 1 ≤ bt) → yt ≡ min (bt - (x + B) % 2) (x + B - bt) → S + Kt + at ≡ M + St → Value Kt at bt yt St → Value K A B x S
value-site K M A B Kt at bt x yt St S p q k e l h o r s v = cases (dec_le (x + B) (bt + bt - (x + B) % 2))
    (λ i. let y : yt + bt ≡ x + B = omega arith in cases (dec_lt yt at)
    (λ j. let z = v.below j in value_falls K M A B Kt at bt x yt St S p q s y j z)
    (λ j. let z = v.above (omega arith) in value_rests K M A B Kt at bt x yt St S p q s y (omega arith) (rw y at z)))
    (λ i. let y : yt ≡ bt - (x + B) % 2 = omega arith in
    let b1 : (x + B) % 2 ≤ bt = cases (dec_le 1 B) (λ j. let z = o j in omega arith) (λ j. omega arith) in
    let w : St + (x + B) % 2 ≡ Kt + at = cases (dec_lt yt at)
    (λ j. let z = v.below j in below_odd ((x + B) % 2) at bt yt Kt St k e b1 (omega arith) y j z)
    (λ j. let z = v.above (omega arith) in omega (arith, top_parity (x + B) bt yt b1 y)) in
    value_odd K M A B Kt at bt x St S p q s k (omega arith) w)

-- N7: the interval at an inner site
pub interval_site : (A B at bt : ℕ) → A ≡ max (at + bt - B) (B % 2) → at ≤ bt → (at + bt) % 2 ≡ 0 → bt ≤ B
    → (A ≤ B) × ((A + B) % 2 ≡ 0) × (2 ≤ A → (A + B ≡ at + bt) × (2 ≤ at))
interval_site A B at bt p k e l = omega arith

-- N8: a site in no set, under a site in a set, or under none, over a link of capacity 0 or more
pub free_up : {A B c a b : ℕ} → Link A B c a b → A ≤ B → (A + B) % 2 ≡ 0 → (2 ≤ A → A ≤ c) → c < B → c + A ≡ a + b + (B + c) % 2
free_up {A} (closed l p q) o e k h = cases (dec_le 2 A) (λ j. absurd (omega (arith, k j))) (λ j. omega arith)
free_up (opened l p q) o e k h = omega arith

pub free_zero : {A B c a b : ℕ} → Link A B c a b → A ≤ B → (A + B) % 2 ≡ 0 → (2 ≤ A → A ≤ c) → c ≡ 0 → A ≡ a + B % 2
free_zero {A} (closed l p q) o e k h = cases (dec_le 2 A) (λ j. absurd (omega (arith, k j))) (λ j. omega arith)
free_zero (opened l p q) o e k h = omega arith

pub free_more : {A B c a b : ℕ} → Link A B c a b → (2 ≤ A → A ≤ c) → c ≢ 0 → A ≡ a
free_more {A} (closed l p q) k h = cases (dec_le 2 A) (λ j. absurd (omega (arith, k j))) (λ j. absurd (h (omega arith)))
free_more (opened l p q) k h = omega arith

-- an odd interval is not empty
pub odd_le : (K a b : ℕ) → (a + b) % 2 ≡ 0 → b % 2 ≤ K + a
odd_le K a b e = omega arith

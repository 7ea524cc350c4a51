-- The match of two lists that stand in arrays: the pairs made so far, and the two lists still to be matched.
use mathlib.Core.Path.{◌≡◌, sym, ap, ◌∙◌}
use mathlib.Core.List.{List, [], ◌∷◌, ◌++◌, append_assoc, append-nil}
use Prim.Native.Nat.{ℕ, ◌+◌, ◌-◌, ◌≤◌, ◌<◌, min}
use native.Mathlib.Omega.{arith}
use lib.ListN.{length, length-append}
use lib.Seq.{slice}
use Rattle.model.specs.Pairing.{Halves, put, drop_halves, halves, match}
use Rattle.model.specs.declared.Pair.{Pair}
use Rattle.theory_walk.specs.Halves.{halves-put, drop-drop}
use Rattle.theory_walk.proofs.Steps.{drop-none, match_none, match_step}
use Rattle.pairing_halves.specs.declared.Place.{Place}
use Rattle.pairing_halves.specs.declared.Tops.{Tops}
use Rattle.pairing_halves.specs.Arrays.{entry, opened, rest, Added, Lies, onward, Fronts, Matchable}
use Rattle.pairing_halves.specs.Adding.{added-nothing, added_more}
use Rattle.pairing_halves.proofs.Arrays.{front_rest}
use Rattle.pairing_halves.specs.Splits.{drop-cut}
use Rattle.pairing_halves.proofs.Places.{lies_start, opened-none, rest-filled, rest_end, rest_some, rest-front, onward-at, onward_lies, onward-rest}

-- of the match of us and ds, the pairs up to place k are made, and the lists behind places g and h are still to be matched
pub record Half (us ds u : Halves) (b e : ℕ) (d : Halves) (o : ℕ) (p : List Pair) (i : ℕ) (z : List Pair) (g h : Place) (k : ℕ) : Type 0 where
  pub begins : b ≤ g.at
  pub ups : Lies u g e
  pub downs : Lies d h o
  pub enough : halves (rest d h o) ≤ halves (rest u g e)
  pub made : List Pair
  pub pairs : Added p i z k (made)
  pub to-come : made ++ match (rest u g e) (rest d h o) ≡ match us ds
  pub left : drop_halves (halves (rest d h o)) (rest u g e) ≡ drop_halves (halves ds) us

pub match-starts : {u d : Halves} {p : List Pair} {b : ℕ} {t : Tops} {f : Place} → Matchable u b d f p t
    → Half (slice b t.ups u) (rest d f t.downs) u b t.ups d t.downs p t.pairs p (record { at = b; gone = 0 }) f t.pairs
match-starts {u} {d} {p} {b} {t} {f} m =
    let all : opened 0 (slice b t.ups u) ≡ slice b t.ups u = opened-none (slice b t.ups u) m.ups.filled in
    record {
      begins = omega arith;
      ups = lies_start m.ups;
      downs = m.downs;
      enough = rw all m.enough;
      made = [];
      pairs = added-nothing p t.pairs;
      to-come = rw all;
      left = rw all;
    }

-- the lesser of two amounts taken from either
left_of : (a c : ℕ) → a - c ≡ a - min a c
left_of a c = omega arith

right_of : (c a : ℕ) → c - a ≡ c - min a c
right_of c a = omega arith

module _ {us ds u d : Halves} {p z : List Pair} {b e o i k : ℕ} {g h : Place} (s : Half us ds u b e d o p i z g h k) where
  pub match-ends : o ≤ h.at → Added p i z k (match us ds) × (rest u g e ≡ drop_halves (halves ds) us)
  unfolding halves
  match-ends l =
      let none : rest d h o ≡ [] = rest_end s.downs l in
      let all : s.made ≡ match us ds = sym (append-nil s.made) ∙ ap (λ m. s.made ++ m) (sym (ap (match (rest u g e)) none ∙ match_none (rest u g e)))
      ∙ s.to-come in
      (rw all at s.pairs, sym (drop-none (rest u g e) (rest-filled s.ups)) ∙ sym (ap (λ m. drop_halves (halves m) (rest u g e)) none) ∙ s.left)

  module _ (l : h.at < o) where
    -- the two front amounts
    abbrev a : ℕ
    a = (entry u g.at).1 - g.gone

    abbrev c : ℕ
    c = (entry d h.at).1 - h.gone

    abbrev m : ℕ
    m = min a c

    some : 1 ≤ c
    some = omega (arith, s.downs.partly l)

    up-entry : g.at < e
    unfolding halves
    up-entry = rest_some s.ups (let q = ap halves (rest-front s.downs l) in omega (arith, some, s.enough))

    up-some : 1 ≤ a
    up-some = omega (arith, s.ups.partly up-entry)

    -- the entries at the two places lie within their arrays
    pub match_fronts : Fronts u g d h
    match_fronts = record {
      up-inside = omega (arith, up-entry, s.ups.stands.inside);
      up-partly = omega (arith, s.ups.partly up-entry);
      down-inside = omega (arith, s.downs.stands.inside);
      down-partly = omega (arith, s.downs.partly l);
    }

    -- the pair that comes next
    pair : Pair
    pair = record { first = (entry u g.at).0; second = (entry d h.at).0; amount = m }

    us' : Halves
    us' = put (entry u g.at).0 (a - m) (slice (g.at + 1) e u)

    ds' : Halves
    ds' = put (entry d h.at).0 (c - m) (slice (h.at + 1) o d)

    step : match (rest u g e) (rest d h o) ≡ pair ∷ match us' ds'
    unfolding pair us' ds'
    step =
        let of-a : a - c ≡ a - m = left_of a c in
        let of_c : c - a ≡ c - m = right_of c a in
        rw (rest-front s.ups up-entry, rest-front s.downs l, ← of-a, ← of_c)
        (match_step (entry u g.at).0 a (entry d h.at).0 c (slice (g.at + 1) e u) (slice (h.at + 1) o d) up-some some
        (front_rest s.downs.stands l).filled)

    pub match_room : i + length (match us ds) ≤ length p → k < length z
    match_room r =
        omega (
          arith,
          ap length (sym s.to-come ∙ ap (λ es. s.made ++ es) step),
          length-append s.made (pair ∷ match us' ds'),
          s.pairs.below.ends,
          s.pairs.below.as_long,
        )

    -- fewer halves are still to be matched
    pub match_falls : halves (rest d (onward h (entry d h.at).1 m) o) < halves (rest d h o)
    unfolding halves
    match_falls =
        let q = ap halves (rest-front s.downs l) in
        let r = ap halves (onward-rest s.downs l m (omega arith)) in
        omega (arith, q, r, halves-put (entry d h.at).0 (c - m) (slice (h.at + 1) o d), some, up-some)

    pub match-next : {y : List Pair} {k' : ℕ} → Added z k y k' (record { first = (entry u g.at).0; second = (entry d h.at).0; amount = m } ∷ [])
        → Half us ds u b e d o p i y (onward g (entry u g.at).1 m) (onward h (entry d h.at).1 m) k'
    unfolding halves pair us' ds'
    match-next q =
        let to-u : rest u (onward g (entry u g.at).1 m) e ≡ us' = onward-rest s.ups up-entry m (omega arith) in
        let to-d : rest d (onward h (entry d h.at).1 m) o ≡ ds' = onward-rest s.downs l m (omega arith) in
        let of-u = ap halves (rest-front s.ups up-entry) in
        let of-d = ap halves (rest-front s.downs l) in
        let put-u = halves-put (entry u g.at).0 (a - m) (slice (g.at + 1) e u) in
        let put-d = halves-put (entry d h.at).0 (c - m) (slice (h.at + 1) o d) in
        let cut : us' ≡ drop_halves m (rest u g e) = rw (rest-front s.ups up-entry)
        (sym (drop-cut m ((entry u g.at).0, a) (slice (g.at + 1) e u) (front_rest s.ups.stands up-entry).filled (omega arith))) in
        record {
          begins = omega (arith, s.begins, onward-at g (entry u g.at).1 m);
          ups = onward_lies s.ups up-entry m (omega arith);
          downs = onward_lies s.downs l m (omega arith);
          enough = rw (to-u, to-d) (omega (arith, s.enough, of-u, of-d, put-u, put-d));
          made = s.made ++ (pair ∷ []);
          pairs = added_more s.pairs q;
          to-come = rw (to-u, to-d) (append_assoc s.made (pair ∷ []) (match us' ds') ∙ ap (λ es. s.made ++ es) (sym step) ∙ s.to-come);
          left = rw (to-u, to-d) (ap (drop_halves (halves ds')) cut ∙ drop-drop (halves ds') m (rest u g e)
              ∙ ap (λ x. drop_halves x (rest u g e)) (let t : halves ds' + m ≡ halves (rest d h o) = omega (arith, of-d, put-d) in t) ∙ s.left);
        }

-- What a site hands to its parent, as the induction over the walk states it (`Good`),
-- and laws of `gather` and `settle` that hold whatever the visits of the children are.
use Rattle.std.specs.Prelude.{◌≡◌, ◌≢◌, length}
use Rattle.std.proofs.Math.Path.{refl}
use mathlib.Core.List.{List, [], ◌∷◌}
use Prim.Native.Nat.{ℕ, ◌+◌, ◌-◌, ◌*◌, ◌≤◌, ◌<◌, min}
use Rattle.std.proofs.Math.ListN.{length-append}
use native.Mathlib.Omega.{arith}
use Rattle.std.proofs.Math.Decide.{dec_le}
use Rattle.lists.specs.Numbers.{is, Each}
use Rattle.model.specs.Flows.{Links, Site, separates, Route}
use Rattle.model.specs.Pairing.{Halves, Part, nothing, join, take_halves, drop_halves, halves, match, gather, settle}
use Rattle.model.specs.declared.Pair.{Pair}
use Rattle.lists.specs.Sums.{cases, same?}
use Rattle.lists.specs.Tallies.{tally, tally-append, each_append}
use Rattle.theory_walk.specs.Sound.{arises}
use Rattle.theory_walk.specs.Halves.{halves_at, halves-append, halves-take, take_few, drop_few, take_thins, drop_thins, thinned_short, split-length}
use Rattle.theory_walk.specs.Match.{flow, match-length}
use Rattle.theory_walk.specs.Subtrees.{LinkAt, Within, Branch, Outside}
use Rattle.theory_walk.specs.Children.{size}

-- seen from w, link i lies behind no terminal
abbrev pub Open : Links → ℕ → (ℕ → ℕ) → ℕ → ℕ → Type 0
Open ls n terminal w i = (x m : ℕ) → Site n x → terminal x ≡ 1 → LinkAt ls x m → separates ls m x w ≡ 0 → ¬ Branch ls m x i

-- x is a terminal of the subtree at v below link j
pub record In (ls : Links) (n : ℕ) (terminal : ℕ → ℕ) (j v x : ℕ) : Type 0 where
  pub site : Site n x
  pub ends : terminal x ≡ 1
  pub inner : separates ls j v x ≡ 0

-- and in the subtree no other terminal stands between x and what is outside
pub record Reaching (ls : Links) (n : ℕ) (terminal : ℕ → ℕ) (j v x : ℕ) : Type 0 where
  pub within : In ls n terminal j v x
  pub free : (y i w : ℕ) → In ls n terminal j v y → y ≢ x → LinkAt ls y i → Site n w → separates ls j v w ≡ 1 → separates ls i x w ≡ 0

-- a pair made in the subtree
pub record Made (ls : Links) (n : ℕ) (terminal : ℕ → ℕ) (j v : ℕ) (e : Pair) : Type 0 where
  pub route : Route ls n terminal e
  pub left : separates ls j v e.first ≡ 0
  pub right : separates ls j v e.second ≡ 0
  pub positive : 1 ≤ e.amount

-- every entry of a part's two lists has P, every pair has Q
pub record All (P : ℕ × ℕ → Type 0) (Q : Pair → Type 0) (p : Part) : Type 0 where
  pub ups_all : Each P p.ups
  pub downs_all : Each P p.downs
  pub pairs-all : Each Q p.pairs

-- what loads link i, seen from w: the pairs across it, and the halves beyond it that w's side takes or sends
abbrev pub loading : Links → ℕ → ℕ → Part → ℕ
loading ls w i p = flow (separates ls i) p.pairs + halves_at (separates ls i w) p.ups + halves_at (separates ls i w) p.downs

-- the number of entries and pairs
abbrev pub entries : Part → ℕ
entries p = length p.pairs + length p.ups + length p.downs

-- what the subtree at v below link j hands back, `up` halves sent up and `down` halves coming down
pub record Good (ls : Links) (n : ℕ) (t terminal : ℕ → ℕ) (j v up down : ℕ) (p : Part) : Type 0 where
  pub up-halves : halves p.ups ≡ up
  pub down-halves : halves p.downs ≡ down
  pub all : All (λ h. Reaching ls n terminal j v h.0) (Made ls n terminal j v) p
  pub loads : (w i : ℕ) → Site n w → Outside ls j v w → i < length ls → Within ls j v i → Open ls n terminal w i → loading ls w i p ≡ 2 * t i
  pub few : entries p + 1 ≤ size ls n j v + min 1 up + min 1 down
  pub ups_once : (x : ℕ) → tally (λ h. is h.0 x) p.ups ≤ 1
  pub downs_once : (x : ℕ) → tally (λ h. is h.0 x) p.downs ≤ 1
  pub pairs_once : (x y : ℕ) → arises p.pairs x y ≤ 1

-- ---- what holds in each child's part holds in the joined one

module _ (P : ℕ × ℕ → Type 0) (Q : Pair → Type 0) where
  pub all_nothing : All P Q nothing
  all_nothing = record { ups_all = tt; downs_all = tt; pairs-all = tt }

  pub all_join : (a b : Part) → All P Q a → All P Q b → All P Q (join a b)
  all_join a b p q = record {
    ups_all = each_append P a.ups b.ups p.ups_all q.ups_all;
    downs_all = each_append P a.downs b.downs p.downs_all q.downs_all;
    pairs-all = each_append Q a.pairs b.pairs p.pairs-all q.pairs-all;
  }

-- a number of a part that adds up when parts are joined
pub record Additive (f : Part → ℕ) : Type 0 where
  pub none : f nothing ≡ 0
  pub both : (a b : Part) → f (join a b) ≡ f a + f b

pub up-tally : (g : ℕ × ℕ → ℕ) → Additive (λ p. tally g p.ups)
unfolding tally
up-tally g = record { none = refl; both = λ a b. tally-append g a.ups b.ups }

pub down-tally : (g : ℕ × ℕ → ℕ) → Additive (λ p. tally g p.downs)
unfolding tally
down-tally g = record { none = refl; both = λ a b. tally-append g a.downs b.downs }

pub pair-tally : (g : Pair → ℕ) → Additive (λ p. tally g p.pairs)
unfolding tally
pair-tally g = record { none = refl; both = λ a b. tally-append g a.pairs b.pairs }

pub halves_additive : Additive (λ p. halves p.ups + halves p.downs)
unfolding halves
halves_additive = record { none = refl; both = λ a b. omega (arith, halves-append a.ups b.ups, halves-append a.downs b.downs) }

pub loading_additive : (ls : Links) (w i : ℕ) → Additive (loading ls w i)
unfolding tally
loading_additive ls w i = record {
  none = refl;
  both = λ a b. omega (
    arith,
    tally-append (λ e. e.amount * separates ls i e.first e.second) a.pairs b.pairs,
    tally-append (λ h. h.1 * separates ls i w h.0) a.ups b.ups,
    tally-append (λ h. h.1 * separates ls i w h.0) a.downs b.downs,
  );
}

-- what child e sends up of r halves that remain
abbrev pub sends : (ℕ → ℕ) → ℕ × ℕ → ℕ → ℕ
sends t e r = min (2 * t e.1) r

module _ (visit : ℕ → ℕ → ℕ → ℕ → Part) (t : ℕ → ℕ) where
  -- what its visit hands back
  abbrev pub visited : ℕ × ℕ → ℕ → Part
  visited e r = visit e.0 e.1 (sends t e r) (2 * t e.1 - sends t e r)

  module _ (R : ℕ × ℕ → Type 0) where
    pub gather-all : (P : ℕ × ℕ → Type 0) (Q : Pair → Type 0) → ((e : ℕ × ℕ) (r : ℕ) → R e → All P Q (visited e r))
        → (r : ℕ) (ks : List (ℕ × ℕ)) → Each R ks → All P Q (gather visit t r ks)
    unfolding gather
    gather-all P Q h r [] p = all_nothing P Q
    gather-all P Q h r (e ∷ ks) p =
        all_join P Q (visited e r) (gather visit t (r - sends t e r) ks) (h e r p.0) (gather-all P Q h (r - sends t e r) ks p.1)

    module _ (f : Part → ℕ) (add : Additive f) (g : ℕ × ℕ → ℕ) where
      pub gather-le : ((e : ℕ × ℕ) (r : ℕ) → R e → f (visited e r) ≤ g e) → (r : ℕ) (ks : List (ℕ × ℕ)) → Each R ks → f (gather visit t r ks) ≤ tally g ks
      unfolding gather tally
      gather-le h r [] p = omega (arith, add.none)
      gather-le h r (e ∷ ks) p =
          omega (arith, add.both (visited e r) (gather visit t (r - sends t e r) ks), h e r p.0, gather-le h (r - sends t e r) ks p.1)

      pub gather-eq : ((e : ℕ × ℕ) (r : ℕ) → R e → f (visited e r) ≡ g e) → (r : ℕ) (ks : List (ℕ × ℕ)) → Each R ks → f (gather visit t r ks) ≡ tally g ks
      unfolding gather tally
      gather-eq h r [] p = add.none
      gather-eq h r (e ∷ ks) p =
          omega (arith, add.both (visited e r) (gather visit t (r - sends t e r) ks), h e r p.0, gather-eq h (r - sends t e r) ks p.1)

-- ---- how many entries the children hand back

-- one child at most both sends up and gets down
spare : (a r s : ℕ) → min a r ≡ s → min 1 s + min 1 (a - s) + min 1 (r - s) ≤ 1 + min 1 r
spare a r s e = cases (dec_le a r)
    (λ l. let q : s ≡ a = omega arith in rw q (all a r l))
    (λ l. let q : s ≡ r = omega arith in rw q (part a r (omega arith)))
  where
    all : (a r : ℕ) → a ≤ r → min 1 a + min 1 (a - a) + min 1 (r - a) ≤ 1 + min 1 r
    all a r l = omega arith

    part : (a r : ℕ) → r ≤ a → min 1 r + min 1 (a - r) + min 1 (r - r) ≤ 1 + min 1 r
    part a r l = omega arith

module _ (visit : ℕ → ℕ → ℕ → ℕ → Part) (t : ℕ → ℕ) (weight : ℕ × ℕ → ℕ) where
  -- a child that hands back no more entries than its weight allows, however its amount is split
  abbrev pub Few : ℕ × ℕ → Type 0
  Few e = (s d : ℕ) → s + d ≡ 2 * t e.1 → entries (visit e.0 e.1 s d) + 1 ≤ weight e + min 1 s + min 1 d

  pub gather-entries : (r : ℕ) (ks : List (ℕ × ℕ)) → Each Few ks → entries (gather visit t r ks) ≤ tally weight ks + min 1 r
  unfolding gather tally
  gather-entries r [] h = omega arith
  gather-entries r (e ∷ ks) h =
      let s = sends t e r in
      let a = visited visit t e r in
      let g = gather visit t (r - s) ks in
      add (length a.pairs) (length g.pairs) (length a.ups) (length g.ups) (length a.downs) (length g.downs)
      (weight e) (tally weight ks) (2 * t e.1) r s refl
      (length-append a.pairs g.pairs) (length-append a.ups g.ups) (length-append a.downs g.downs)
      (h.0 s (2 * t e.1 - s) (omega arith)) (gather-entries (r - s) ks h.1)
    where
      add : (p p' u u' d d' z z' a r s : ℕ) {P U D : ℕ} → min a r ≡ s → P ≡ p + p' → U ≡ u + u' → D ≡ d + d'
          → p + u + d + 1 ≤ z + min 1 s + min 1 (a - s) → p' + u' + d' ≤ z' + min 1 (r - s) → P + U + D ≤ z + z' + min 1 r
      add p p' u u' d d' z z' a r s e ep eu ed f g = omega (arith, spare a r s e)

-- ---- how many entries and pairs there are once the lists are split and matched

-- `own` halves of each list are matched
module _ (up down own : ℕ) (g : Part) (z : ℕ) (eu : halves g.ups ≡ own + up) (ed : halves g.downs ≡ own + down)
    (few : entries g ≤ z + min 1 (halves g.ups)) where
  abbrev us : Halves
  us = take_halves own g.ups

  abbrev ds : Halves
  ds = drop_halves down g.downs

  split_ups : length us + length (drop_halves own g.ups) ≤ length g.ups + min 1 up
  split_ups = same? up 0
      (λ e. omega (arith, thinned_short (take_thins own g.ups), drop_few own g.ups))
      (λ d. omega (arith, split-length own g.ups))

  split_downs : length (take_halves down g.downs) + length ds ≤ length g.downs + min 1 down
  split_downs = same? down 0
      (λ e. omega (arith, take_few down g.downs, thinned_short (drop_thins down g.downs)))
      (λ d. omega (arith, split-length down g.downs))

  count : length (match us ds) + length g.pairs + length (drop_halves own g.ups) + length (take_halves down g.downs) ≤ z + min 1 up + min 1 down
  count = same? own 0
      (λ e. unmatched _ _ _ _ _ _ _ _ _ _ up down (match-length us ds) (omega (arith, take_few own g.ups)) (omega (arith, drop_few down g.downs))
      (thinned_short (drop_thins own g.ups)) (thinned_short (take_thins down g.downs)) few (omega arith))
      (λ d. matched _ _ _ _ _ _ _ _ _ _ _ (match-length us ds) (filled us (omega (arith, halves-take own g.ups))) split_ups split_downs (omega arith))
    where
      filled : (l : Halves) → 1 ≤ halves l → 1 ≤ length l
      filled [] p = unfold halves in p
      filled (h ∷ l) p = omega arith

      unmatched : (m a b p u d u' d' z f' f h : ℕ) → m ≤ a + b - 1 → a ≡ 0 → b ≡ 0 → u' ≤ u → d' ≤ d → p + u + d ≤ z + min 1 f' → f' ≡ f
          → m + p + u' + d' ≤ z + min 1 f + min 1 h
      unmatched m a b p u d u' d' z f' f h em ea eb eu ed l e = omega arith

      matched : (m a b p u d u' d' z f h : ℕ) → m ≤ a + b - 1 → 1 ≤ a → a + u' ≤ u + f → d' + b ≤ d + h → p + u + d ≤ z + 1 → m + p + u' + d' ≤ z + f + h
      matched m a b p u d u' d' z f h em ea eu ed l = omega arith

  -- one entry more where a list is cut, one pair less than the entries matched
  pub settle_few : entries (settle up down g) ≤ z + min 1 up + min 1 down
  unfolding settle
  settle_few = let cut : halves g.ups - up ≡ own = omega arith in rw cut (omega (arith, length-append g.pairs (match us ds), count))

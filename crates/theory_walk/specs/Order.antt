-- The order of the pair list: insertion keeps the pairs, some turned round, and puts them in ascending order.
use Rattle.std.specs.Prelude.{◌≡◌, refl, ◌≢◌, List, [], ◌∷◌, ℕ, suc, ◌*◌, ◌≤◌, length}
use Rattle.std.proofs.Common.{sym, ap, ◌∙◌, inl, arith}
use Rattle.std.proofs.Math.Decide.{dec_lt}
use Rattle.lists.specs.Numbers.{less, Each}
use Rattle.model.specs.Flows.{Links, separates, Tree, Route}
use Rattle.model.specs.Pairing.{joins, lower_first, before, insert, ordered}
use Rattle.model.specs.declared.Pair.{Pair}
use Rattle.lists.specs.Sums.{pick_same, pick_other, pick_cases, same?, cases, less_one, less-lt}
use Rattle.theory_trees.specs.Trees.{separates_comm}
use Rattle.lists.specs.Tallies.{tally}
use Rattle.theory_walk.specs.Sound.{arises, Sound, Ascending}
use Rattle.theory_walk.specs.Children.{ends-joins, joins-turned}
use Rattle.theory_walk.specs.Totals.{sound}
use Rattle.theory_walk.specs.Walk.{load-flow}

-- the pair with its sites exchanged
abbrev pub turned : Pair → Pair
turned e = record { first = e.second; second = e.first; amount = e.amount }

-- the same pairs, in another order, some turned round
pub data Same : List Pair → List Pair → Type 0 where
  same : {es : List Pair} → Same es es
  skip : {e : Pair} {es fs : List Pair} → Same es fs → Same (e ∷ es) (e ∷ fs)
  swap : {e f : Pair} {es : List Pair} → Same (e ∷ f ∷ es) (f ∷ e ∷ es)
  turn : {e : Pair} {es : List Pair} → Same (e ∷ es) (turned e ∷ es)
  chain : {es fs gs : List Pair} → Same es fs → Same fs gs → Same es gs

-- sums over pairs that see no order of two sites see no order of pairs
pub same-tally : (g : Pair → ℕ) → ((e : Pair) → g (turned e) ≡ g e) → {es fs : List Pair} → Same es fs → tally g fs ≡ tally g es
unfolding tally
same-tally g h same = refl
same-tally g h (skip s) = omega (arith, same-tally g h s)
same-tally g h swap = omega arith
same-tally g h (turn {e = e}) = omega (arith, h e)
same-tally g h (chain s r) = same-tally g h r ∙ same-tally g h s

pub same_length : {es fs : List Pair} → Same es fs → length fs ≡ length es
same_length same = refl
same_length (skip s) = ap suc (same_length s)
same_length swap = refl
same_length turn = refl
same_length (chain s r) = same_length r ∙ same_length s

pub same-each : (P : Pair → Type 0) → ((e : Pair) → P e → P (turned e)) → {es fs : List Pair} → Same es fs → Each P es → Each P fs
same-each P h same p = p
same-each P h (skip s) p = (p.0, same-each P h s p.1)
same-each P h swap p = (p.1.0, (p.0, p.1.1))
same-each P h (turn {e = e}) p = (h e p.0, p.1)
same-each P h (chain s r) p = same-each P h r (same-each P h s p)

-- nothing that document 01 says of the pairs sees an order
pub sound_same : {ls : Links} {n : ℕ} → Tree ls n → (terminal t : ℕ → ℕ) (es fs : List Pair) → Same es fs → Sound ls n terminal t es → Sound ls n terminal t fs
sound_same {ls} {n} T terminal t es fs s h = sound T terminal t fs
    (λ j l. load-flow ls fs j ∙ same-tally (λ e. e.amount * separates ls j e.first e.second)
    (λ e. ap (λ c. e.amount * c) (separates_comm ls j e.second e.first)) s ∙ sym (load-flow ls es j) ∙ h.loads j l)
    (same-each (Route ls n terminal) (λ e r. record {
      first-site = r.second-site;
      second-site = r.first-site;
      first-terminal = r.second-terminal;
      second-terminal = r.first-terminal;
      different = λ q. r.different (sym q);
      free = λ w j p q d g l a. separates_comm ls j e.second e.first ∙ r.free w j p q g d l a;
    }) s h.routes)
    (same-each (λ e. 1 ≤ e.amount) (λ e p. p) s h.positive)
    (λ x y. omega (arith, h.once x y, same-tally (λ e. joins (e.first, e.second) x y) (λ e. joins-turned e.second e.first x y) s))
    (omega (arith, same_length s, h.few))

-- ---- ordering keeps the pairs

insert-same : (e : Pair) (es : List Pair) → Same (e ∷ es) (insert e es)
unfolding insert
insert-same e [] = same
insert-same e (f ∷ es) = pick_cases (Same (e ∷ f ∷ es)) (before f e) 1 (f ∷ insert e es) (e ∷ f ∷ es)
    (λ b. chain swap (skip (insert-same e es))) (λ b. same)

lower-same : (e : Pair) (es : List Pair) → Same (e ∷ es) (lower_first e ∷ es)
unfolding lower_first
lower-same e es = pick_cases (λ f. Same (e ∷ es) (f ∷ es)) (less e.second e.first) 1 (turned e) e (λ l. turn) (λ l. same)

pub ordered_same : (es : List Pair) → Same es (ordered es)
unfolding ordered
ordered_same [] = same
ordered_same (e ∷ es) = chain (skip (ordered_same es)) (chain (lower-same e (ordered es)) (insert-same (lower_first e) (ordered es)))

-- ---- the lower site first

lower-le : (e : Pair) → (lower_first e).first ≤ (lower_first e).second
unfolding lower_first
lower-le e = pick_cases (λ f. f.first ≤ f.second) (less e.second e.first) 1 (turned e) e
    (λ l. omega (arith, less-lt l))
    (λ l. cases (dec_lt e.second e.first) (λ q. absurd (l (less_one q))) (λ q. omega arith))

insert-each : (P : Pair → Type 0) (e : Pair) (es : List Pair) → P e → Each P es → Each P (insert e es)
unfolding insert
insert-each P e [] p q = (p, tt)
insert-each P e (f ∷ es) p q = pick_cases (Each P) (before f e) 1 (f ∷ insert e es) (e ∷ f ∷ es) (λ b. (q.0, insert-each P e es p q.1)) (λ b. (p, q))

pub ordered-lower : (es : List Pair) → Each (λ e. e.first ≤ e.second) (ordered es)
unfolding ordered
ordered-lower [] = tt
ordered-lower (e ∷ es) = insert-each (λ e. e.first ≤ e.second) (lower_first e) (ordered es) (lower-le e) (ordered-lower es)

-- ---- ascending

less_asym : (a b : ℕ) → less a b ≡ 1 → less b a ≢ 1
less_asym a b p q = omega (arith, less-lt p, less-lt q)

less-total : (a b : ℕ) → less a b ≢ 1 → a ≢ b → less b a ≡ 1
less-total a b p d = less_one (cases (dec_lt a b) (λ l. absurd (p (less_one l))) (λ l. omega arith))

before_asym : (e f : Pair) → before f e ≡ 1 → before e f ≢ 1
unfolding before
before_asym e f b = same? e.first f.first
    (λ q. rw (pick_same q) (less_asym f.second e.second (rw (pick_same (sym q)) at b)))
    (λ q. rw (pick_other q) (less_asym f.first e.first (rw (pick_other {u = f.first} {v = e.first} (λ p. q (sym p))) at b)))

before-total : (e f : Pair) → before f e ≢ 1 → (f.first ≡ e.first → f.second ≢ e.second) → before e f ≡ 1
unfolding before
before-total e f b d = same? e.first f.first
    (λ q. rw (pick_same q) (less-total f.second e.second (rw (pick_same (sym q)) at b) (d (sym q))))
    (λ q. rw (pick_other q) (less-total f.first e.first (rw (pick_other {u = f.first} {v = e.first} (λ p. q (sym p))) at b) (λ p. q (sym p))))

-- no pair comes before the one in front of it
abbrev Head : Pair → List Pair → Type 0
Head e [] = Unit {0}
Head e (f ∷ es) = before f e ≢ 1

abbrev Rising : List Pair → Type 0
Rising [] = Unit {0}
Rising (e ∷ es) = Head e es × Rising es

insert-head : (g e : Pair) (es : List Pair) → Head g es → before e g ≢ 1 → Head g (insert e es)
unfolding insert
insert-head g e [] h z = z
insert-head g e (f ∷ es) h z = pick_cases (Head g) (before f e) 1 (f ∷ insert e es) (e ∷ f ∷ es) (λ d. h) (λ d. z)

insert_rising : (e : Pair) (es : List Pair) → Rising es → Rising (insert e es)
unfolding insert
insert_rising e [] h = (tt, tt)
insert_rising e (f ∷ es) h = pick_cases Rising (before f e) 1 (f ∷ insert e es) (e ∷ f ∷ es)
    (λ b. (insert-head f e es h.0 (before_asym e f b), insert_rising e es h.1))
    (λ b. (b, h))

ordered_rising : (es : List Pair) → Rising (ordered es)
unfolding ordered
ordered_rising [] = tt
ordered_rising (e ∷ es) = insert_rising (lower_first e) (ordered es) (ordered_rising es)

-- where no pair stands twice, that is ascending
ascending : (es : List Pair) → Rising es → ((x y : ℕ) → arises es x y ≤ 1) → Ascending es
unfolding tally
ascending [] h o = tt
ascending (e ∷ []) h o = (tt, tt)
ascending (e ∷ f ∷ es) h o = (
  before-total e f h.0 (λ p q. omega (
    arith,
    o e.first e.second,
    ends-joins (e.first, e.second) e.first e.second (inl (refl, refl)),
    ends-joins (f.first, f.second) e.first e.second (inl (p, q)),
  )),
  ascending (f ∷ es) h.1 (λ x y. omega (arith, o x y)),
)

pub ordered_ascending : (es : List Pair) → ((x y : ℕ) → arises (ordered es) x y ≤ 1) → Ascending (ordered es)
ordered_ascending es = ascending (ordered es) (ordered_rising es)

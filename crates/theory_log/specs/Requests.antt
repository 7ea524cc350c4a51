-- What one request moves, and what it keeps: a refused one moves nothing; an opened amount is added on its path, one that is given up is taken from it.
-- By the laws of the list of open pairs, the lower site first.
use Rattle.std.specs.Prelude.{◌≡◌, ◌≢◌, length, get_or}
use Rattle.std.proofs.Math.Path.{refl, sym}
use Rattle.std.proofs.Common.{◌∙◌}
use mathlib.Core.List.{List, [], ◌∷◌}
use Prim.Native.Nat.{ℕ, zero, suc, ◌+◌, ◌*◌, ◌≤◌, ◌<◌}
use native.Mathlib.Omega.{arith}
use Rattle.std.proofs.Math.Decide.{dec_lt}
use Rattle.lists.specs.Numbers.{pick, less, Each}
use Rattle.lists.specs.Sums.{pick_same, pick_other, pick_const, pick_cases, same?, cases, less_one, less-lt}
use Rattle.model.specs.Flows.{Links, Tree, separates, load}
use Rattle.model.specs.Pairing.{lower_first}
use Rattle.model.specs.Booking.{same, open_of, answer_open, answer_give_up, answer, changed, next, opens, gives}
use Rattle.model.specs.Booking.{Proper, Asked, Entry, Kept}
use Rattle.model.specs.declared.Pair.{Pair}
use Rattle.model.specs.declared.Request.{Request}
use Rattle.model.specs.declared.Request.TheVariants.{Open, GiveUp, Fault}
use Rattle.theory_trees.specs.Trees.{local_one, separates_comm}
use Rattle.theory_log.specs.Pairs.{grow-load, shrink-load}
use Rattle.theory_log.specs.Pairs.{grow_open, shrink_open, nothing_left, Sites, grow-sites, shrink-sites}
use Rattle.theory_log.specs.Answers.{gives_up}
use Rattle.theory_log.specs.Answers.{a_giving_up_is_answered_0_exactly_where_that_much_is_open}

-- ---- the lower site first

pub lower-separates : (ls : Links) (j : ℕ) (e : Pair) → separates ls j (lower_first e).first (lower_first e).second ≡ separates ls j e.first e.second
unfolding lower_first
lower-separates ls j e = same? (less e.second e.first) 1
    (λ s. rw (pick_same s) (separates_comm ls j e.second e.first))
    (λ d. rw (pick_other d) refl)

pub lower_amount : (e : Pair) → (lower_first e).amount ≡ e.amount
unfolding lower_first
lower_amount e = same? (less e.second e.first) 1 (λ s. rw (pick_same s) refl) (λ d. rw (pick_other d) refl)

lower-over : (ls : Links) (j : ℕ) (e : Pair)
    → (lower_first e).amount * separates ls j (lower_first e).first (lower_first e).second ≡ e.amount * separates ls j e.first e.second
lower-over ls j e = rw (lower-separates ls j e, lower_amount e) refl

pub lower_entry : (n : ℕ) (e : Pair) → Proper n e → Entry n (lower_first e)
unfolding lower_first
lower_entry n e h = same? (less e.second e.first) 1
    (λ s. rw (pick_same s) (record { first-site = h.second-site; second-site = h.first-site; lower-first = less-lt s; some = h.some }))
    (λ d. rw (pick_other d) (record {
      first-site = h.first-site;
      second-site = h.second-site;
      lower-first = cases (dec_lt e.second e.first) (λ l. absurd (d (less_one l))) (λ l. let o = h.different in omega (arith, o));
      some = h.some;
    }))

-- what a request opens for the pair p, q, and what it gives up for it
unfoldable pub opens_for : ℕ → ℕ → Request → ℕ
opens_for p q (Open e) = same p q (lower_first e) * (lower_first e).amount
opens_for p q (GiveUp e) = 0
opens_for p q (Fault k) = 0

unfoldable pub gives_for : ℕ → ℕ → Request → ℕ
gives_for p q (Open e) = 0
gives_for p q (GiveUp e) = same p q (lower_first e) * (lower_first e).amount
gives_for p q (Fault k) = 0

-- a request opens only pairs whose sites, the lower one first, have P
abbrev pub OpensOnly : (ℕ → ℕ → Type 0) → Request → Type 0
OpensOnly P (Open e) = Sites P (lower_first e)
OpensOnly P (GiveUp e) = Unit {0}
OpensOnly P (Fault k) = Unit {0}

module _ (ls : Links) (n : ℕ) (c : ℕ → ℕ) where
  pub give-enough : (es : List Pair) (p : Pair) → answer_give_up ls c es p ≡ 0 → p.amount ≤ open_of p.first p.second es
  give-enough es p a = (a_giving_up_is_answered_0_exactly_where_that_much_is_open ls c es p).0 a

  -- ---- a request

  pub a_refused_request_moves_nothing : (es : List Pair) (r : Request) → answer ls c es r ≢ 0 → next ls c es r ≡ es
  unfolding next
  a_refused_request_moves_nothing es r d = pick_other d _ _

  pub a_fault_moves_nothing : (es : List Pair) (k : ℕ) → next ls c es (Fault k) ≡ es
  unfolding next changed
  a_fault_moves_nothing es k = pick_const (answer ls c es (Fault k)) 0 es

  -- only what a request opens comes to be open
  pub a_request_opens_only_what_it_asks : (P : ℕ → ℕ → Type 0) (es : List Pair) (r : Request) → Each (Sites P) es → OpensOnly P r
      → Each (Sites P) (next ls c es r)
  unfolding next changed
  a_request_opens_only_what_it_asks P es (Open e) h o =
      let p = lower_first e in
      pick_cases (Each (Sites P)) (answer ls c es (Open e)) 0 _ es (λ z. grow-sites p.first p.second p.amount P es o h) (λ d. h)
  a_request_opens_only_what_it_asks P es (GiveUp e) h o =
      let p = lower_first e in
      pick_cases (Each (Sites P)) (answer ls c es (GiveUp e)) 0 _ es (λ z. shrink-sites p.first p.second p.amount P es h) (λ d. h)
  a_request_opens_only_what_it_asks P es (Fault k) h o = rw (a_fault_moves_nothing es k) h

  -- the load moves by what is opened and given up
  pub the_load_moves_by_what_is_asked : (es : List Pair) (r : Request) → Kept ls n c es → Asked n r → (j : ℕ)
      → load ls es j + pick (answer ls c es r) 0 (opens ls c r j) 0 ≡ load ls (next ls c es r) j + pick (answer ls c es r) 0 (gives ls c r j) 0
  unfolding next answer changed opens gives
  the_load_moves_by_what_is_asked es (Open e) k h j = same? (answer_open ls c es (lower_first e)) 0
      (λ z. let p = lower_first e in
      rw (pick_same z, pick_same z, pick_same z) (omega (arith, lower-over ls j e, grow-load p.first p.second p.amount ls j es)))
      (λ d. rw (pick_other d, pick_other d, pick_other d) refl)
  the_load_moves_by_what_is_asked es (GiveUp e) k h j = same? (answer_give_up ls c es (lower_first e)) 0
      (λ z. let p = lower_first e in
      let less = shrink-load p.first p.second p.amount ls j es (k.once p.first p.second) (lower_entry n e h).some (give-enough es p z) in
      rw (pick_same z, pick_same z, pick_same z) (omega (arith, lower-over ls j e, less)))
      (λ d. rw (pick_other d, pick_other d, pick_other d) refl)
  the_load_moves_by_what_is_asked es (Fault f) k h j = rw (pick_const f 0 es) refl

  -- what a pair has open moves by what is asked for it
  pub what_a_pair_has_open_moves_by_what_is_asked_for_it : (p q : ℕ) (es : List Pair) (r : Request) → Kept ls n c es → Asked n r
      → open_of p q es + pick (answer ls c es r) 0 (opens_for p q r) 0 ≡ open_of p q (next ls c es r) + pick (answer ls c es r) 0 (gives_for p q r) 0
  unfolding next answer changed opens_for gives_for
  what_a_pair_has_open_moves_by_what_is_asked_for_it p q es (Open e) k h = same? (answer_open ls c es (lower_first e)) 0
      (λ z. let l = lower_first e in
      rw (pick_same z, pick_same z, pick_same z) (omega (arith, grow_open l.first l.second l.amount p q es)))
      (λ d. rw (pick_other d, pick_other d, pick_other d) refl)
  what_a_pair_has_open_moves_by_what_is_asked_for_it p q es (GiveUp e) k h = same? (answer_give_up ls c es (lower_first e)) 0
      (λ z. let l = lower_first e in
      let less = shrink_open l.first l.second l.amount p q es (k.once l.first l.second) (lower_entry n e h).some (give-enough es l z) in
      rw (pick_same z, pick_same z, pick_same z) (omega (arith, less)))
      (λ d. rw (pick_other d, pick_other d, pick_other d) refl)
  what_a_pair_has_open_moves_by_what_is_asked_for_it p q es (Fault f) k h = rw (pick_const f 0 es) refl

  -- a pair that falls to nothing gives its place back
  pub a_pair_that_falls_to_nothing_gives_its_place_back : (es : List Pair) (e : Pair) → Kept ls n c es → Proper n e
      → open_of (lower_first e).first (lower_first e).second es ≡ e.amount → suc (length (next ls c es (GiveUp e))) ≡ length es
  unfolding next answer changed
  a_pair_that_falls_to_nothing_gives_its_place_back es e k h o =
      let p = lower_first e in
      let all : open_of p.first p.second es ≡ p.amount = o ∙ sym (lower_amount e) in
      rw (pick_same (gives_up ls c es p (omega arith)))
      (nothing_left p.first p.second p.amount es (k.once p.first p.second) (lower_entry n e h).some all).1

  -- ---- open amounts are small: some link separates the two sites

  each_at : (es : List Pair) → Each (Entry n) es → (e : Pair) (i : ℕ) → i < length es → Entry n (get_or es i e)
  each_at [] h e i l = absurd (omega arith)
  each_at (e ∷ es) h d zero l = h.0
  each_at (e ∷ es) h d (suc i) l = each_at es h.1 d i (omega arith)

  load_ge : (j : ℕ) (es : List Pair) (d : Pair) (i : ℕ) → i < length es
      → (get_or es i d).amount * separates ls j (get_or es i d).first (get_or es i d).second ≤ load ls es j
  unfolding load
  load_ge j [] d i l = absurd (omega arith)
  load_ge j (e ∷ es) d zero l = omega arith
  load_ge j (e ∷ es) d (suc i) l = omega (arith, load_ge j es d i (omega arith))

  pub entry_at : (es : List Pair) → Kept ls n c es → (d : Pair) (i : ℕ) → i < length es → Entry n (get_or es i d)
  entry_at es k d i l = each_at es k.entries d i l

  pub an_open_amount_is_at_most_twice_a_capacity : Tree ls n → (es : List Pair) → Kept ls n c es → (d : Pair) (i : ℕ) → i < length es
      → (j : ℕ) × (j < length ls) × ((get_or es i d).amount ≤ 2 * c j)
  an_open_amount_is_at_most_twice_a_capacity T es k d i l =
      let e = entry_at es k d i l in
      let p = get_or es i d in
      let r = local_one T p.first p.second e.first-site e.second-site (λ z. omega (arith, e.lower-first)) in
      let over = rw r.3 at (load_ge r.0 es d i l) in
      (r.0, r.1, omega (arith, over, k.fits r.0 r.1))

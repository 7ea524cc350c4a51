-- A booking log, line by line (02, Card 6): after every line each link's load is what the lines answered 0 opened over it less what they gave up, and never
-- above twice its capacity; a refused line moves nothing; at most OPEN pairs are open, all different, each with an amount. By induction along the log.
use Rattle.std.specs.Prelude.{◌≡◌, length, take}
use Rattle.std.proofs.Math.Path.{refl}
use mathlib.Core.List.{List, [], ◌∷◌}
use Prim.Native.Nat.{ℕ, ◌+◌, ◌*◌, ◌≤◌, ◌<◌}
use native.Mathlib.Omega.{arith}
use Rattle.lists.specs.Numbers.{Each}
use Rattle.model.specs.Limits.{OPEN}
use Rattle.model.specs.Flows.{Links, load}
use Rattle.model.specs.Booking.{open_of, places_of, next, after, opened, given_up, Asked, Kept, Entry}
use Rattle.model.specs.declared.Pair.{Pair}
use Rattle.model.specs.declared.Request.{Request}
use Rattle.theory_log.proofs.Requests.{a_request_keeps_what_is_kept}
use Rattle.theory_log.specs.Requests.{the_load_moves_by_what_is_asked, what_a_pair_has_open_moves_by_what_is_asked_for_it}
use Rattle.theory_log.specs.Logs.{opened_for, given_up_for, each_take, kept-empty}

module _ (ls : Links) (c : ℕ → ℕ) where
  module _ (n : ℕ) where
    kept-after : (es : List Pair) (rs : List Request) → Kept ls n c es → Each (Asked n) rs → Kept ls n c (after ls c es rs)
    unfolding after
    kept-after es [] k h = k
    kept-after es (r ∷ rs) k h = kept-after (next ls c es r) rs (a_request_keeps_what_is_kept ls n c es r k h.0) h.1

    load_after : (es : List Pair) (rs : List Request) → Kept ls n c es → Each (Asked n) rs → (j : ℕ)
        → load ls es j + opened ls c es rs j ≡ load ls (after ls c es rs) j + given_up ls c es rs j
    unfolding after opened given_up
    load_after es [] k h j = refl
    load_after es (r ∷ rs) k h j = omega (
      arith,
      the_load_moves_by_what_is_asked ls n c es r k h.0 j,
      load_after (next ls c es r) rs (a_request_keeps_what_is_kept ls n c es r k h.0) h.1 j,
    )

    open_after : (p q : ℕ) (es : List Pair) (rs : List Request) → Kept ls n c es → Each (Asked n) rs
        → open_of p q es + opened_for ls c p q es rs ≡ open_of p q (after ls c es rs) + given_up_for ls c p q es rs
    unfolding after opened_for given_up_for
    open_after p q es [] k h = refl
    open_after p q es (r ∷ rs) k h = omega (
      arith,
      what_a_pair_has_open_moves_by_what_is_asked_for_it ls n c p q es r k h.0,
      open_after p q (next ls c es r) rs (a_request_keeps_what_is_kept ls n c es r k h.0) h.1,
    )

    module _ (rs : List Request) (asked : Each (Asked n) rs) (i : ℕ) where
      -- the open pairs after i lines
      pub after_every_line_the_open_pairs_are_kept : Kept ls n c (after ls c [] (take i rs))
      after_every_line_the_open_pairs_are_kept = kept-after [] (take i rs) (kept-empty ls c n) (each_take ls c (Asked n) rs i asked)

      pub after_every_line_the_load_is_what_was_opened_less_what_was_given_up : (j : ℕ)
          → opened ls c [] (take i rs) j ≡ load ls (after ls c [] (take i rs)) j + given_up ls c [] (take i rs) j
      unfolding load
      after_every_line_the_load_is_what_was_opened_less_what_was_given_up j =
          omega (arith, load_after [] (take i rs) (kept-empty ls c n) (each_take ls c (Asked n) rs i asked) j)

      pub after_every_line_a_pair_has_open_what_was_opened_for_it_less_what_was_given_up : (p q : ℕ)
          → opened_for ls c p q [] (take i rs) ≡ open_of p q (after ls c [] (take i rs)) + given_up_for ls c p q [] (take i rs)
      unfolding open_of
      after_every_line_a_pair_has_open_what_was_opened_for_it_less_what_was_given_up p q =
          omega (arith, open_after p q [] (take i rs) (kept-empty ls c n) (each_take ls c (Asked n) rs i asked))

      pub after_every_line_no_load_is_above_twice_the_capacity : (j : ℕ) → j < length ls → load ls (after ls c [] (take i rs)) j ≤ 2 * c j
      after_every_line_no_load_is_above_twice_the_capacity = after_every_line_the_open_pairs_are_kept.fits

      pub after_every_line_at_most_OPEN_pairs_are_open : length (after ls c [] (take i rs)) ≤ OPEN
      after_every_line_at_most_OPEN_pairs_are_open = after_every_line_the_open_pairs_are_kept.few

      pub after_every_line_each_open_pair_has_an_amount : Each (Entry n) (after ls c [] (take i rs))
      after_every_line_each_open_pair_has_an_amount = after_every_line_the_open_pairs_are_kept.entries

      pub after_every_line_the_open_pairs_are_different : (a b : ℕ) → places_of a b (after ls c [] (take i rs)) ≤ 1
      after_every_line_the_open_pairs_are_different = after_every_line_the_open_pairs_are_kept.once

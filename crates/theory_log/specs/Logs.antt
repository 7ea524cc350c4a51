-- A booking log, line by line (02, Card 6): after every line each link's load is what the lines answered 0 opened over it less what they gave up, and never
-- above twice its capacity; a refused line moves nothing; at most OPEN pairs are open, all different, each with an amount. By induction along the log.
use Rattle.std.specs.Prelude.{◌≡◌, ◌≢◌, length, take, get_or}
use Rattle.std.proofs.Math.Path.{refl, ap}
use Rattle.std.proofs.Common.{◌∙◌}
use mathlib.Core.List.{List, [], ◌∷◌, ◌++◌}
use Prim.Native.Nat.{ℕ, zero, suc, ◌+◌, ◌<◌}
use native.Mathlib.Omega.{arith}
use Rattle.lists.specs.Numbers.{pick, look, Each}
use Rattle.model.specs.Flows.{Links, load}
use Rattle.model.specs.Booking.{places_of, answer, next, after, answers, Kept}
use Rattle.model.specs.declared.Pair.{Pair}
use Rattle.model.specs.declared.Request.{Request}
use Rattle.model.specs.declared.Request.TheVariants.{Fault}
use Rattle.theory_log.specs.Pairs.{Sites}
use Rattle.theory_log.specs.Requests.{opens_for, gives_for, OpensOnly, a_refused_request_moves_nothing}
use Rattle.theory_log.specs.Requests.{a_request_opens_only_what_it_asks}

-- the line at place i
abbrev pub line : List Request → ℕ → Request
line rs i = get_or rs i (Fault 0)

module _ (ls : Links) (c : ℕ → ℕ) where
  -- ---- line by line

  pub after_one_more : (es : List Pair) (rs : List Request) (r : Request) → after ls c es (rs ++ (r ∷ [])) ≡ next ls c (after ls c es rs) r
  unfolding after
  after_one_more es [] r = refl
  after_one_more es (s ∷ rs) r = after_one_more (next ls c es s) rs r

  pub answers_one_more : (es : List Pair) (rs : List Request) (r : Request)
      → answers ls c es (rs ++ (r ∷ [])) ≡ answers ls c es rs ++ (answer ls c (after ls c es rs) r ∷ [])
  unfolding after answers
  answers_one_more es [] r = refl
  answers_one_more es (s ∷ rs) r = ap (λ l. answer ls c es s ∷ l) (answers_one_more (next ls c es s) rs r)

  pub each_line_gets_one_answer : (es : List Pair) (rs : List Request) → length (answers ls c es rs) ≡ length rs
  unfolding answers
  each_line_gets_one_answer es [] = refl
  each_line_gets_one_answer es (r ∷ rs) = ap suc (each_line_gets_one_answer (next ls c es r) rs)

  -- it is the one to what is open after the lines before it
  pub a_line_is_answered_after_those_before_it : (es : List Pair) (rs : List Request) (i : ℕ) → i < length rs
      → look (answers ls c es rs) i ≡ answer ls c (after ls c es (take i rs)) (line rs i)
  unfolding answers after
  a_line_is_answered_after_those_before_it es [] i l = absurd (omega arith)
  a_line_is_answered_after_those_before_it es (r ∷ rs) zero l = refl
  a_line_is_answered_after_those_before_it es (r ∷ rs) (suc i) l = a_line_is_answered_after_those_before_it (next ls c es r) rs i (omega arith)

  -- and what is open after it comes from what was open before it
  pub after_the_line : (es : List Pair) (rs : List Request) (i : ℕ) → i < length rs
      → after ls c es (take (suc i) rs) ≡ next ls c (after ls c es (take i rs)) (line rs i)
  unfolding after
  after_the_line es [] i l = absurd (omega arith)
  after_the_line es (r ∷ rs) zero l = refl
  after_the_line es (r ∷ rs) (suc i) l = after_the_line (next ls c es r) rs i (omega arith)

  pub a_refused_line_moves_nothing : (es : List Pair) (rs : List Request) (i : ℕ) → i < length rs → look (answers ls c es rs) i ≢ 0
      → after ls c es (take (suc i) rs) ≡ after ls c es (take i rs)
  a_refused_line_moves_nothing es rs i l d =
      after_the_line es rs i l
      ∙ a_refused_request_moves_nothing ls 0 c (after ls c es (take i rs)) (line rs i) (λ z. d (a_line_is_answered_after_those_before_it es rs i l ∙ z))

  -- what the requests that are answered 0 opened for the pair p, q, and what they gave up for it
  unfoldable pub opened_for : ℕ → ℕ → List Pair → List Request → ℕ
  opened_for p q es [] = 0
  opened_for p q es (r ∷ rs) = pick (answer ls c es r) 0 (opens_for p q r) 0 + opened_for p q (next ls c es r) rs

  unfoldable pub given_up_for : ℕ → ℕ → List Pair → List Request → ℕ
  given_up_for p q es [] = 0
  given_up_for p q es (r ∷ rs) = pick (answer ls c es r) 0 (gives_for p q r) 0 + given_up_for p q (next ls c es r) rs

  -- ---- what every line keeps

  pub each_take : (P : Request → Type 0) (rs : List Request) (i : ℕ) → Each P rs → Each P (take i rs)
  each_take P [] zero h = tt
  each_take P [] (suc i) h = tt
  each_take P (r ∷ rs) zero h = tt
  each_take P (r ∷ rs) (suc i) h = (h.0, each_take P rs i h.1)

  -- only what the lines open comes to be open
  module _ (P : ℕ → ℕ → Type 0) where
    sites-after : (es : List Pair) (rs : List Request) → Each (Sites P) es → Each (OpensOnly P) rs → Each (Sites P) (after ls c es rs)
    unfolding after
    sites-after es [] k h = k
    sites-after es (r ∷ rs) k h = sites-after (next ls c es r) rs (a_request_opens_only_what_it_asks ls 0 c P es r k h.0) h.1

    pub after_every_line_only_what_the_lines_open_is_open : (rs : List Request) → Each (OpensOnly P) rs → (i : ℕ)
        → Each (Sites P) (after ls c [] (take i rs))
    after_every_line_only_what_the_lines_open_is_open rs h i = sites-after [] (take i rs) tt (each_take (OpensOnly P) rs i h)

  module _ (n : ℕ) where
    pub kept-empty : Kept ls n c []
    unfolding places_of load
    kept-empty = record { few = omega arith; entries = tt; once = λ a b. omega arith; fits = λ j l. omega arith }

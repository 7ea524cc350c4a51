-- The open pairs and the loads along a log, for callers: after the requests rs, from none, they hold what is open after them, and it is kept.
use Rattle.std.specs.Prelude.{◌≡◌, refl, List, [], ◌∷◌, ◌++◌, ℕ, replicate}
use Rattle.model.specs.Limits.{SITES}
use Rattle.lists.specs.Places.{look-zeros}
use Rattle.model.specs.Flows.{Links, load}
use Rattle.model.specs.Booking.{answer, after, Asked, Kept}
use Rattle.model.specs.declared.Request.{Request}
use Rattle.theory_log.proofs.Requests.{a_request_keeps_what_is_kept}
use Rattle.theory_log.specs.Logs.{after_one_more, kept-empty}
use Rattle.log_pairs.specs.Arrays.{pairs_of, Held}
use Rattle.log_pairs.specs.declared.OpenPairs.{OpenPairs}
use Rattle.log_steps.specs.Steps.{Holds, Standing, Answered}

pub record Replayed (ls : Links) (n : ℕ) (c : ℕ → ℕ) (rs : List Request) (ps : OpenPairs) (l : List ℕ) : Type 0 where
  pub kept : Kept ls n c (after ls c [] rs)
  pub holds : Holds ls (after ls c [] rs) ps l

module _ (ls : Links) (n : ℕ) (c : ℕ → ℕ) where
  -- before the first request
  pub replayed-start : (ps : OpenPairs) → Held [] ps → Replayed ls n c [] ps (replicate SITES 0)
  unfolding after load
  replayed-start ps h = record {
    kept = kept-empty ls c n;
    holds = record { pairs = h; places = refl; loads = λ j. look-zeros SITES j };
  }

  module _ {rs : List Request} {ps : OpenPairs} {l : List ℕ} (r : Replayed ls n c rs ps l) where
    -- the next request can be answered
    pub replayed_standing : Standing ls n c ps l
    replayed_standing =
        let h = r.holds in
        let p = h.pairs in
        record {
          kept = rw p.same r.kept;
          holds = record {
            pairs = record { pairs = p.pairs; amounts = p.amounts; few = p.few; same = refl; behind = p.behind };
            places = h.places;
            loads = rw p.same h.loads;
          };
        }

    -- its answer is that to what is open after those before it
    pub replayed-answer : {q : Request} {ps' : OpenPairs} {l' : List ℕ} {said : ℕ} → Answered ls c (pairs_of ps) q ps' l' said
        → said ≡ answer ls c (after ls c [] rs) q
    replayed-answer a = rw (← r.holds.pairs.same) a.told

    pub replayed-next : {q : Request} {ps' : OpenPairs} {l' : List ℕ} {said : ℕ} → Asked n q → Answered ls c (pairs_of ps) q ps' l' said
        → Replayed ls n c (rs ++ (q ∷ [])) ps' l'
    replayed-next {q} h a = record {
      kept = rw (after_one_more ls c [] rs q) (a_request_keeps_what_is_kept ls n c (after ls c [] rs) q r.kept h);
      holds = rw (after_one_more ls c [] rs q, ← r.holds.pairs.same) a.holds;
    }

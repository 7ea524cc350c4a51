-- How far a log is replayed: the arrays hold what the lines so far leave open, the list their answers, and the lines left are those from an offset on.
-- Each step takes one line from those left to those done.
use Rattle.std.specs.Prelude.{false, ◌≡◌, refl, ℕ, suc, ◌+◌, ◌-◌, ◌≤◌, ◌<◌, set, replicate}
use mathlib.Core.List.{List, [], ◌∷◌, ◌++◌, map, map-append, append_assoc, append-nil}
use Rattle.std.proofs.Common.{sym, ◌∙◌, add-one, arith, length-append, length-drop, drop-cons}
use Rattle.std.proofs.Math.Path.{ap, ap₂}
use Rattle.std.proofs.Math.ListN.{length, drop}
use Rattle.std.proofs.lemmas.List.{length-map}
use Rattle.lists.specs.Numbers.{look}
use Rattle.model.specs.Limits.{SITES}
use Rattle.model.specs.Flows.{Links}
use Rattle.model.specs.Booking.{answers}
use Rattle.model.specs.declared.Request.{Request}
use Rattle.theory_log.specs.Logs.{answers_one_more, each_line_gets_one_answer}
use Rattle.text_lines.specs.Lines.{after_line}
use Rattle.log_pairs.specs.Arrays.{pairs_of, Held}
use Rattle.log_pairs.specs.declared.OpenPairs.{OpenPairs}
use Rattle.log_steps.specs.Steps.{Standing, Answered}
use Rattle.log_steps.specs.Replays as replays
use Rattle.log_requests.specs.Requests.{lines_from, lines, request_at, requests}
use Rattle.log_requests.specs.RequestLaws.{after-within, lines_end, lines_step, all_lines}
use Rattle.log_requests.proofs.RequestLaws.{a_request_can_be_asked}

-- a place of a list is set, behind those before it
set_behind : (a b : List ℕ) (x v : ℕ) → set (a ++ (x ∷ b)) (length a) v ≡ (a ++ (v ∷ [])) ++ b
set_behind [] b x v = refl
set_behind (y ∷ a) b x v = ap (λ r. y ∷ r) (set_behind a b x v)

module _ (s : List ℕ) (names : List (ℕ × ℕ)) (ls : Links) (t : ℕ → ℕ) (c : ℕ → ℕ) (log l : List ℕ) where
  -- what the lines at some offsets ask
  abbrev asked : List ℕ → List Request
  asked ats = map (request_at false s names ls t log) ats

  -- the first i lines are done, and the next one starts at an offset
  pub record Progress (ps : OpenPairs) (load : List ℕ) (at i : ℕ) (list : List ℕ) : Type 0 where
    pub done : List ℕ
    pub counted : length done ≡ i
    pub left : lines log ≡ done ++ lines_from log (length log - at) at
    pub on_log : at ≤ length log
    pub replayed : replays.Replayed ls (length names) c (asked done) ps load
    pub listed : list ≡ answers ls c [] (asked done) ++ drop i l

  pub start : (ps : OpenPairs) → Held [] ps → Progress ps (replicate SITES 0) 0 0 l
  unfolding answers
  start ps h = record {
    done = [];
    counted = refl;
    left = all_lines log;
    on_log = omega arith;
    replayed = replays.replayed-start ls (length names) c ps h;
    listed = refl;
  }

  module _ {ps : OpenPairs} {load : List ℕ} {at i : ℕ} {list : List ℕ} (P : Progress ps load at i list) where
    answered : length (answers ls c [] (asked P.done)) ≡ i
    answered = each_line_gets_one_answer ls c [] (asked P.done) ∙ length-map P.done (request_at false s names ls t log) ∙ P.counted

    pub standing : Standing ls (length names) c ps load
    standing = replays.replayed_standing ls (length names) c P.replayed

    module _ (enough : length (lines log) ≤ length l) where
      -- the list keeps its length
      pub same_length : length list ≡ length l
      same_length = omega (
        arith,
        ap length P.listed,
        length-append (answers ls c [] (asked P.done)) (drop i l),
        length-drop i l,
        answered,
        ap length P.left,
        length-append P.done (lines_from log (length log - at) at),
        P.counted,
      )

      -- there is a place for the answer to the line here
      pub room : at < length log → i < length l
      room h = omega (arith, ap length P.left, length-append P.done (lines_from log (length log - at) at), ap length (lines_step log at h), P.counted)

      module _ (h : at < length log) {ps' : OpenPairs} {load' : List ℕ} {said : ℕ}
          (a : Answered ls c (pairs_of ps) (request_at false s names ls t log at) ps' load' said) where
        -- the answer behind those before it
        put : set list i said ≡ answers ls c [] (asked (P.done ++ (at ∷ []))) ++ drop (i + 1) l
        put =
            let before = answers ls c [] (asked P.done) in
            let v = said in
            ap (λ r. set r i v) (P.listed ∙ ap (λ r. before ++ r) (drop-cons l i 0 (room h)))
            ∙ ap (λ k. set (before ++ (look l i ∷ drop (suc i) l)) k v) (sym answered)
            ∙ set_behind before (drop (suc i) l) (look l i) v
            ∙ ap₂ (λ w k. (before ++ (w ∷ [])) ++ drop k l) (replays.replayed-answer ls (length names) c P.replayed a) (sym (add-one i))
            ∙ ap (λ r. r ++ drop (i + 1) l)
            (sym (answers_one_more ls c [] (asked P.done) (request_at false s names ls t log at))
            ∙ ap (answers ls c []) (sym (map-append (request_at false s names ls t log) P.done (at ∷ []))))

        pub next : Progress ps' load' (after_line log at) (i + 1) (set list i said)
        next = record {
          done = P.done ++ (at ∷ []);
          counted = omega (arith, length-append P.done (at ∷ []), P.counted);
          left = P.left ∙ ap (λ r. P.done ++ r) (lines_step log at h) ∙ sym (append_assoc P.done (at ∷ []) _);
          on_log = after-within log at;
          replayed = rw (map-append (request_at false s names ls t log) P.done (at ∷ []))
              (replays.replayed-next ls (length names) c P.replayed (a_request_can_be_asked false s names ls t log at) a);
          listed = put;
        }

    -- after the last line
    pub over : length log ≤ at → list ≡ answers ls c [] (requests false s names ls t log) ++ drop (length (lines log)) l
    unfolding requests
    over h =
        let all : lines log ≡ P.done = P.left ∙ ap (λ r. P.done ++ r) (lines_end log (length log - at) at h) ∙ append-nil P.done in
        P.listed ∙ ap₂ (λ d k. answers ls c [] (asked d) ++ drop k l) (sym all) (sym P.counted ∙ ap length (sym all))

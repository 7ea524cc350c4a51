-- A log over the lists of an accepted sheet: what a replay comes to, case by case.
use Rattle.std.specs.Prelude.{false, List, [], ◌++◌, ◌≡◌, ℕ, ◌≤◌, ◌<◌, length, take, drop, refl, Ok, Err}
use Rattle.std.proofs.Common.{sym, ap, ◌∙◌}
use borrow.Author.Tests.{le-leb, lt-leb}
use Rattle.lists.specs.Numbers.{look}
use Rattle.model.specs.Limits.{LOGLINES, LOGBYTES}
use Rattle.model.specs.Edition.{editions}
use Rattle.model.specs.TextRefusals.{refused_in, in_text}
use Rattle.model.specs.declared.Refusal.{Refusal}
use Rattle.model.specs.Flows.{Links, ends}
use Rattle.model.specs.Booking.{answers}
use Rattle.tree.specs.Offer.{links}
use Rattle.sheet_names.specs.Names.{ranges}
use Rattle.sheet.specs.Sheet.{accepted, read_sheet}
use Rattle.sheet.specs.Reading.{reading}
use Rattle.sheet.specs.declared.Lists.{Lists}
use Rattle.planner.specs.Taken.{Listed, refused_is_read, the_lists_are_taken_apart, the_marks_are_taken_apart, the_links_are_the_networks, the_ends_are_the_networks}
use Rattle.log_requests.specs.Requests.{lines, requests}
use Rattle.log_names.specs.Names.{the_names_are_the_networks}
use Rattle.logs.specs.Log.{answers_of}
use Rattle.logs.specs.Outcome.{replay_over, replay_read, replayed}

-- a refused sheet is refused with the same number and line, and the list stays
pub refused_is_told : (s log l : List ℕ) (f : Refusal) → Err f ≡ reading (read_sheet editions s)
    → replayed editions s log l ≡ record { outcome = Err (in_text f 1); list = l }
unfolding replayed replay_read
refused_is_told s log l f e = rw (refused_is_read s f e) refl

-- the same answers over the same lists
alike : (s log : List ℕ) {ls ks : Links} {c d : List ℕ} {names others : List (ℕ × ℕ)} {t u : ℕ → ℕ}
    → ls ≡ ks → c ≡ d → names ≡ others → t ≡ u
    → answers ls (look c) [] (requests false s names ls t log) ≡ answers ks (look d) [] (requests false s others ks u log)
alike s log e f g h = rw (e, f, g, h)

module _ {s : List ℕ} {network : Lists} (r : Listed s network) where
  module _ (log l : List ℕ) where
    pub too_many_bytes : LOGBYTES < length log → replayed editions s log l ≡ record { outcome = refused_in 2 1 0; list = l }
    unfolding replayed replay_read replay_over
    too_many_bytes h = rw (r.read, lt-leb _ _ h)

    module _ (bytes : length log ≤ LOGBYTES) where
      pub too_many_lines : LOGLINES < length (lines log) → replayed editions s log l ≡ record { outcome = refused_in 2 1 0; list = l }
      unfolding replayed replay_read replay_over
      too_many_lines h = rw (r.read, le-leb _ _ bytes, lt-leb _ _ h)

      module _ (few : length (lines log) ≤ LOGLINES) where
        pub too_few_places : length l < length (lines log) → replayed editions s log l ≡ record { outcome = refused_in 2 9 0; list = l }
        unfolding replayed replay_read replay_over
        too_few_places h = rw (r.read, le-leb _ _ bytes, le-leb _ _ few, lt-leb _ _ h)

        pub every_line_answered : length (lines log) ≤ length l
            → replayed editions s log l ≡ record { outcome = Ok (length (lines log)); list = answers_of s r.net log ++ drop (length (lines log)) l }
        unfolding replayed replay_read replay_over
        every_line_answered h = rw (r.read, le-leb _ _ bytes, le-leb _ _ few, le-leb _ _ h)

  -- the answers over the lists are those over the network
  pub the_answers_are_the_networks : (log : List ℕ) → let m = network.links in let ls = links (take m network.one) (take m network.two) in
      answers ls (look (take m network.capacity)) []
      (requests false s (ranges network.start network.end 0 network.sites) ls
      (look (ends ls network.sites (take network.sites network.mark))) log)
      ≡ answers_of s r.net log
  the_answers_are_the_networks log =
      let a = the_lists_are_taken_apart r in
      let told : accepted a.net ≡ accepted r.net = sym a.read ∙ r.read in
      let same : a.net ≡ r.net = cc in
      let ends-are = ap (λ marks. look (ends (links (take network.links network.one) (take network.links network.two)) network.sites marks))
      (the_marks_are_taken_apart r) ∙ the_ends_are_the_networks a in
      alike s log (the_links_are_the_networks a) a.sizes (the_names_are_the_networks r ∙ ap (λ n. n.names) (sym same)) ends-are
      ∙ ap (λ net. answers_of s net log) same

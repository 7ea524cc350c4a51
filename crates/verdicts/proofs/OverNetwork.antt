-- A plan drawn by hand over the lists of an accepted sheet: what judging it comes to, case by case.
use Rattle.std.specs.Prelude.{true, List, [], ◌≡◌, ℕ, ◌≤◌, ◌<◌, length, take, refl, Err}
use Rattle.std.proofs.Common.{sym, ap, ◌∙◌}
use borrow.Author.Tests.{le-leb, lt-leb}
use Rattle.lists.specs.Numbers.{look}
use Rattle.model.specs.Limits.{PLANLINES, PLANBYTES}
use Rattle.model.specs.Edition.{editions}
use Rattle.model.specs.TextRefusals.{refused_in, in_text}
use Rattle.model.specs.declared.Refusal.{Refusal}
use Rattle.model.specs.Flows.{Links, ends}
use Rattle.theory_verdicts.specs.HandPlan.{account}
use Rattle.tree.specs.Offer.{links}
use Rattle.sheet_names.specs.Names.{ranges}
use Rattle.sheet.specs.Sheet.{accepted, read_sheet}
use Rattle.sheet.specs.Reading.{reading}
use Rattle.sheet.specs.declared.Lists.{Lists}
use Rattle.planner.specs.Taken.{Listed, refused_is_read, the_lists_are_taken_apart, the_marks_are_taken_apart, the_links_are_the_networks, the_ends_are_the_networks}
use Rattle.log_requests.specs.Requests.{lines, requests}
use Rattle.log_names.specs.Names.{the_names_are_the_networks}
use Rattle.verdicts.specs.Outcome.{verdict, verdict_of, judge_over, judge_read, judged}

-- a refused sheet is refused with the same number and line
pub refused_is_told : (s plan : List ℕ) (f : Refusal) → Err f ≡ reading (read_sheet editions s) → judged editions s plan ≡ Err (in_text f 1)
unfolding judged judge_read
refused_is_told s plan f e = rw (refused_is_read s f e) refl

-- the same verdict over the same lists
alike : (s plan : List ℕ) {ls ks : Links} {n m : ℕ} {c d : List ℕ} {names others : List (ℕ × ℕ)} {t u : ℕ → ℕ} → ls ≡ ks → n ≡ m → c ≡ d → names ≡ others
    → t ≡ u
    → verdict ls n t c (account 1 [] (requests true s names ls t plan)) ≡ verdict ks m u d (account 1 [] (requests true s others ks u plan))
alike s plan e f g h i = rw (e, f, g, h, i)

module _ {s : List ℕ} {network : Lists} (r : Listed s network) (plan : List ℕ) where
  pub too_many_bytes : PLANBYTES < length plan → judged editions s plan ≡ refused_in 2 1 0
  unfolding judged judge_read judge_over
  too_many_bytes h = rw (r.read, lt-leb _ _ h)

  module _ (bytes : length plan ≤ PLANBYTES) where
    pub too_many_lines : PLANLINES < length (lines plan) → judged editions s plan ≡ refused_in 2 1 0
    unfolding judged judge_read judge_over
    too_many_lines h = rw (r.read, le-leb _ _ bytes, lt-leb _ _ h)

    pub judged_by_its_lines : length (lines plan) ≤ PLANLINES → judged editions s plan ≡ verdict_of s r.net plan
    unfolding judged judge_read judge_over
    judged_by_its_lines h = rw (r.read, le-leb _ _ bytes, le-leb _ _ h)

  -- the verdict over the lists is that over the network
  pub the_verdict_is_the_networks : let m = network.links in let n = network.sites in
      let ls = links (take m network.one) (take m network.two) in
      let t = look (ends ls n (take n network.mark)) in
      verdict ls n t (take m network.capacity) (account 1 [] (requests true s (ranges network.start network.end 0 n) ls t plan))
      ≡ verdict_of s r.net plan
  the_verdict_is_the_networks =
      let a = the_lists_are_taken_apart r in
      let told : accepted a.net ≡ accepted r.net = sym a.read ∙ r.read in
      let same : a.net ≡ r.net = cc in
      let ends-are = ap (λ marks. look (ends (links (take network.links network.one) (take network.links network.two)) network.sites marks))
      (the_marks_are_taken_apart r) ∙ the_ends_are_the_networks a in
      alike s plan (the_links_are_the_networks a) a.counted a.sizes (the_names_are_the_networks r ∙ ap (λ n. n.names) (sym same)) ends-are
      ∙ ap (λ net. verdict_of s net plan) same

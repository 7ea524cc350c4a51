-- The two steps over the lists of an accepted sheet: the lists are the sheet's region and its names, and what a step comes to, case by case.
use Rattle.std.specs.Prelude.{List, ◌++◌, ◌≡◌, ℕ, ◌≤◌, ◌<◌, length, drop, Err}
use Rattle.std.proofs.Math.Path.{refl}
use Rattle.std.proofs.Common.{sym, ap, ◌∙◌, arith}
use borrow.Author.Tests.{le-leb, lt-leb, lt-ltb, le-ltb}
use Rattle.lists.specs.Numbers.{look}
use Rattle.model.specs.Edition.{editions}
use Rattle.model.specs.Refusals.{refused_as}
use Rattle.model.specs.declared.Refusal.{Refusal}
use Rattle.sheet_names.specs.Names.{lookup, ranges}
use Rattle.sheet.specs.Reading.{reading}
use Rattle.sheet.specs.Sheet.{Network, read_sheet}
use Rattle.theory_regions.specs.Regions.{Region, first_size, given}
use Rattle.planner.specs.Taken.{refused_is_read}
use Rattle.tree.specs.Links.{length-links}
use Rattle.region_links.specs.Partners.{site_found}
use Rattle.region_sizes.specs.Laws.{trimmed_again_for_each_link}
use Rattle.region_sizes.specs.Offered.{region_by}
use Rattle.exchanges.specs.Shared.{region_of}
use Rattle.exchanges.specs.Taken.{Taken, network_by, the_region_of_lists}
use Rattle.side_links.specs.SharedLink.{link_of}
use Rattle.sides.specs.Outcome.{shown_as, answered_as, link_named, show_over, show_read, first_shown, refusal, answer_over, answer_read, answered}

module _ {s starts stops : List ℕ} {n : ℕ} {one two marks c : List ℕ} (T : Taken s starts stops n one two marks c) where
  abbrev net : Network
  net = network_by starts stops n one two marks c

  abbrev region : Region
  region = region_by n one two marks c

  -- the site that a name has by the names of the lists
  abbrev site_in : List ℕ → ℕ
  site_in name = site_found (lookup s (ranges starts stops 0 n) name)

  as_many : length region.links ≡ length one
  as_many = length-links one two (omega (arith, T.tree.within.firsts, T.tree.within.seconds))

  module _ (name name' : List ℕ) (j : ℕ) (e : j ≡ link_of region (site_in name) (site_in name')) where
    its_link : link_named s net name name' ≡ j
    its_link = ap (λ a. link_of a (site_in name) (site_in name')) (the_region_of_lists starts stops n one two marks c) ∙ sym e

    shown_by : first_shown editions s name name' ≡ show_over region j
    unfolding first_shown show_read
    shown_by =
        ap (show_read s name name') T.read
        ∙ ap (show_over (region_of net)) its_link
        ∙ ap (λ a. show_over a j) (the_region_of_lists starts stops n one two marks c)

    pub no_link_shows_nothing : length one ≤ j → first_shown editions s name name' ≡ refused_as 18 0
    unfolding show_over
    no_link_shows_nothing h = shown_by ∙ rw (le-ltb j (length region.links) (omega (arith, as_many))) refl

    pub a_link_shows_its_size : j < length one → first_shown editions s name name' ≡ shown_as (first_size region j)
    unfolding show_over
    a_link_shows_its_size h = shown_by ∙ rw (lt-ltb j (length region.links) (omega (arith, as_many))) refl

    module _ (told : ℕ) (l : List ℕ) where
      answered-by : answered editions s name name' told l ≡ answer_over region j told l
      unfolding answered answer_read
      answered-by =
          ap (answer_read s name name' told l) T.read
          ∙ ap (λ k. answer_over (region_of net) k told l) its_link
          ∙ ap (λ a. answer_over a j told l) (the_region_of_lists starts stops n one two marks c)

      pub no_link_is_given_nothing : length one ≤ j → answered editions s name name' told l ≡ refusal 18 0 l
      unfolding answer_over
      no_link_is_given_nothing h = answered-by ∙ rw (le-ltb j (length region.links) (omega (arith, as_many))) refl

      module _ (h : j < length one) where
        here : j < length region.links
        here = omega (arith, as_many)

        pub a_larger_number_is_given_nothing : look c j < told → answered editions s name name' told l ≡ refusal 18 0 l
        unfolding answer_over
        a_larger_number_is_given_nothing k = answered-by ∙ rw (lt-ltb j (length region.links) here, lt-leb told (look c j) k) refl

        module _ (k : told ≤ look c j) where
          pub a_shorter_list_is_given_nothing : length l < length one → answered editions s name name' told l ≡ refusal 9 0 l
          unfolding answer_over
          a_shorter_list_is_given_nothing short = answered-by ∙ rw (
            lt-ltb j (length region.links) here,
            le-leb told (look c j) k,
            lt-leb (length region.links) (length l) (omega (arith, as_many)),
          ) refl

          as-many-sizes : length (given region j told).sizes ≡ length one
          unfolding given
          as-many-sizes = trimmed_again_for_each_link T.tree j told h

          pub the_answer_is_given : length one ≤ length l → answered editions s name name' told l
              ≡ record { outcome = answered_as (length one) (given region j told).sum; list = (given region j told).sizes ++ drop (length one) l }
          unfolding answer_over
          the_answer_is_given long = answered-by ∙ rw (
            lt-ltb j (length region.links) here,
            le-leb told (look c j) k,
            le-leb (length region.links) (length l) (omega (arith, as_many)),
            as-many-sizes,
          ) refl

module _ (s name name' : List ℕ) where
  pub refused_is_shown : (f : Refusal) → Err f ≡ reading (read_sheet editions s) → first_shown editions s name name' ≡ Err f
  unfolding first_shown show_read
  refused_is_shown f e = rw (refused_is_read s f e) refl

  pub refused_is_told : (told : ℕ) (l : List ℕ) (f : Refusal) → Err f ≡ reading (read_sheet editions s)
      → answered editions s name name' told l ≡ record { outcome = Err f; list = l }
  unfolding answered answer_read
  refused_is_told told l f e = rw (refused_is_read s f e) refl

-- The networks of two accepted sheets taken apart into lists, as the code has them, and the exchange between them, case by case.
use Rattle.std.specs.Prelude.{List, ◌++◌, ◌≡◌, ℕ, ◌≤◌, ◌<◌, length, drop}
use Rattle.std.proofs.Common.{ap, arith}
use Rattle.std.proofs.Math.Path.{refl}
use borrow.Author.Tests.{le-leb, lt-leb}
use Rattle.model.specs.Edition.{editions, largest}
use Rattle.region_sizes.specs.Laws.{trimmed_again_for_each_link}
use Rattle.region_sizes.specs.Offered.{region_by}
use Rattle.sheet.specs.Sheet.{Network, accepted, read_sheet}
use Rattle.sheet_names.specs.Names.{ranges}
use Rattle.sheet_names.specs.LookupLaws.{length-ranges}
use Rattle.theory_regions.specs.Regions.{Region, first_size, Given, given}
use Rattle.tree.specs.Accepted.{MarkedTree}
use Rattle.tree.specs.Offer.{links}
use Rattle.exchanges.specs.Shared.{region_of}
use Rattle.exchanges.specs.Outcome.{both_of, Exchanged, refusal, told, filled, deliver}

-- the answers for two regions that share link j of the first and link k of the second
abbrev pub deliver_between : Region → ℕ → Region → ℕ → List ℕ → List ℕ → Exchanged
deliver_between a j b k l m = deliver (given a j (first_size b k)) (given b k (first_size a j)) l m

-- the network of lists
abbrev pub network_by : List ℕ → List ℕ → ℕ → List ℕ → List ℕ → List ℕ → List ℕ → Network
network_by starts stops n one two marks c = record { names = ranges starts stops 0 n; marks = marks; links = links one two; capacities = c }

-- as a region it is that of the lists
pub the_region_of_lists : (starts stops : List ℕ) (n : ℕ) (one two marks c : List ℕ)
    → region_of (network_by starts stops n one two marks c) ≡ region_by n one two marks c
the_region_of_lists starts stops n one two marks c =
    ap (λ k. record { links = links one two; sites = k; marks = marks; capacities = c }) (length-ranges starts stops 0 n)

-- the network of an accepted sheet, taken apart into lists: a tree within the limits
pub record Taken (s starts stops : List ℕ) (n : ℕ) (one two marks c : List ℕ) : Type 0 where
  pub read : read_sheet editions s ≡ accepted (network_by starts stops n one two marks c)
  pub tree : MarkedTree largest n one two marks c

-- ---- the answers for two regions that share one link
module _ {n : ℕ} {one two marks c : List ℕ} {n2 : ℕ} {one2 two2 marks2 c2 : List ℕ} (w : MarkedTree largest n one two marks c)
    (v : MarkedTree largest n2 one2 two2 marks2 c2) (j k : ℕ) (here : j < length one) (there : k < length one2) (l m : List ℕ) where
  abbrev pub a : Region
  a = region_by n one two marks c

  abbrev pub b : Region
  b = region_by n2 one2 two2 marks2 c2

  abbrev pub first : Given
  first = given a j (first_size b k)

  abbrev pub second : Given
  second = given b k (first_size a j)

  pub as_many_first : length first.sizes ≡ length one
  unfolding given
  as_many_first = trimmed_again_for_each_link w j (first_size b k) here

  pub as_many_second : length second.sizes ≡ length one2
  unfolding given
  as_many_second = trimmed_again_for_each_link v k (first_size a j) there

  pub first_list_is_short : length l < length one → deliver_between a j b k l m ≡ refusal 1 9 0 l m
  unfolding deliver
  first_list_is_short h = rw (lt-leb (length first.sizes) (length l) (omega (arith, as_many_first))) refl

  module _ (room : length one ≤ length l) where
    pub second_list_is_short : length m < length one2 → deliver_between a j b k l m ≡ refusal 2 9 0 l m
    unfolding deliver
    second_list_is_short h = rw (
      le-leb (length first.sizes) (length l) (omega (arith, as_many_first)),
      lt-leb (length second.sizes) (length m) (omega (arith, as_many_second)),
    ) refl

    pub both_lists_are_filled : length one2 ≤ length m
        → deliver_between a j b k l m ≡ record { outcome = both_of (told first) (told second); first = filled first l; second = filled second m }
    unfolding deliver
    both_lists_are_filled h = rw (
      le-leb (length first.sizes) (length l) (omega (arith, as_many_first)),
      le-leb (length second.sizes) (length m) (omega (arith, as_many_second)),
    ) refl

    -- so for what the code gives
    pub both_are_given : length one2 ≤ length m → {sum sum2 : ℕ} {after after2 : List ℕ}
        → sum ≡ first.sum → sum2 ≡ second.sum
        → after ≡ first.sizes ++ drop (length one) l → after2 ≡ second.sizes ++ drop (length one2) m
        → let o = deliver_between a j b k l m in
        (both_of (record { count = length one; sum = sum }) (record { count = length one2; sum = sum2 }) ≡ o.outcome)
        × ((after ≡ o.first) × (after2 ≡ o.second))
    both_are_given h g g2 u u2 = rw (g, g2, u, u2, both_lists_are_filled h, as_many_first, as_many_second) (refl, (refl, refl))

-- ---- the exchange between two networks taken apart
module _ {s starts stops : List ℕ} {n : ℕ} {one two marks c : List ℕ} {t starts2 stops2 : List ℕ} {n2 : ℕ} {one2 two2 marks2 c2 : List ℕ}
    (T : Taken s starts stops n one two marks c) (W : Taken t starts2 stops2 n2 one2 two2 marks2 c2) where
  abbrev pub net : Network
  net = network_by starts stops n one two marks c

-- The range of a site's name by its number, as the lists of the answer give it: zeros stand for no site, and make an empty range.
use Rattle.std.specs.Prelude.{List, map, ◌≡◌, refl, ℕ, zero, suc, ◌<◌, Ok, Err}
use Rattle.std.proofs.Common.{arith}
use Rattle.std.proofs.Math.ListN.{get_or-eq_default, get_or-map}
use Rattle.model.specs.Limits.{SITES}
use Rattle.lists.specs.Numbers.{look}
use Rattle.model.specs.declared.Edition.{Edition}
use Rattle.model.specs.declared.Refusal.{Refusal}
use Rattle.sheet.specs.declared.Lists.{Lists}
use Rattle.sheet.specs.Sheet.{Network, Read, refused, accepted, edition_of, read_sheet, range_in, name_range}
use Rattle.sheet.specs.Reading.{lists, reading}
use Rattle.sheet.specs.ListLaws.{look-padded}
use Rattle.sheet.specs.SheetTheorem.{an_accepted_sheet_is_a_tree}

-- number 0 is no site
pub no_site_zero : (known : List Edition) (s : List ℕ) → name_range known s 0 ≡ (0, 0)
unfolding name_range range_in
no_site_zero known s = by (read_sheet known s)
  where
    by : (r : Read) → range_in 0 r ≡ (0, 0)
    by (refused n k) = refl
    by (accepted net) = refl

-- nor is a number above the limit
pub no_site_above : (known : List Edition) (s : List ℕ) (k : ℕ) → (edition_of known s).sites < k → name_range known s k ≡ (0, 0)
unfolding name_range range_in
no_site_above known s zero h = no_site_zero known s
no_site_above known s (suc k) h = by (read_sheet known s) refl
  where
    by : (r : Read) → read_sheet known s ≡ r → range_in (suc k) r ≡ (0, 0)
    by (refused n l) e = refl
    by (accepted net) e = get_or-eq_default net.names (0, 0) (omega (arith, (an_accepted_sheet_is_a_tree (edition_of known s) s net e).few))

by_place : (net : Network) (i : ℕ) → (look (lists net).start i, look (lists net).end i) ≡ range_in (suc i) (accepted net)
unfolding lists range_in
by_place net i =
    rw (
      look-padded SITES (map (λ r. r.0) net.names) i,
      look-padded SITES (map (λ r. r.1) net.names) i,
      get_or-map (λ r. r.0) net.names i (0, 0),
      get_or-map (λ r. r.1) net.names i (0, 0),
    )

-- where a sheet is refused, no number has a range
pub refused_has_no_range : (r : Read) (k : ℕ) {e : Refusal} → reading r ≡ Err e → range_in k r ≡ (0, 0)
unfolding reading range_in
refused_has_no_range (refused n l) k h = refl
refused_has_no_range (accepted net) k h = absurd (cc)

-- the lists of the answer give the range of a site's name
pub range_by_lists : (r : Read) (i : ℕ) {net : Lists} → reading r ≡ Ok net → (look net.start i, look net.end i) ≡ range_in (suc i) r
unfolding reading
range_by_lists (refused n l) i h = absurd (cc)
range_by_lists (accepted read) i {net = net} h = let same : net ≡ lists read = cc in rw same (by_place read i)

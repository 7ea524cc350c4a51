-- The lines of a sheet that are read, and their records: each is held by the network as a site or a link of its own, each link stands below its two sites.
-- So an accepted sheet holds its records. By induction over the lines.
use Rattle.std.specs.Prelude.{cond, ◌⊎◌, ◌≢◌, ◌≡◌, drop}
use Rattle.std.proofs.Math.Bool.{true}
use mathlib.Core.List.{List, [], ◌++◌}
use Rattle.std.proofs.Math.Logic.{inl, inr}
use Rattle.std.proofs.Math.Path.{sym}
use Rattle.std.proofs.Common.{◌∙◌, drop_of_length-le}
use Prim.Native.Nat.{ℕ, ◌-◌, ◌≤◌}
use native.Mathlib.Omega.{arith}
use Rattle.std.proofs.Math.Decide.{dec_lt}
use Rattle.std.proofs.Math.ListN.{length}
use Rattle.lists.specs.Sums.{cases}
use Rattle.lists.specs.Tallies.{tally}
use Rattle.model.specs.Text.{bytes}
use Rattle.model.specs.declared.Edition.{Edition}
use Rattle.model.specs.declared.Sizing.TheVariants.{Reserved}
use Rattle.theory_shuffled.specs.ShuffledLaws.{Apart}
use Rattle.text_fields.specs.Fields.{SameName}
use Rattle.text_records.specs.Records.{lines_of, Record, records}
use Rattle.sheet_kinds.specs.LineKinds.{same, field, is_heading, IsSite, IsLink}
use Rattle.sheet_kinds.specs.LineKindLaws.{site_parts, link_parts}
use Rattle.sheet_names.specs.Names.{Different}
use Rattle.sheet.specs.Sheet.{Network, empty}
use Rattle.sheet.specs.Causes.{Named, fields_at}
use Rattle.sheet_records.specs.SameRecords.{records_of, SameNames, LinksBelow}
use Rattle.sheet_records.specs.Held.{Holds}

-- ---- records that cannot stand on one sheet

-- two records are of sites of one name, or of links between the same names
pub data Meet (r q : Record) : Type 0 where
  at-a-site : IsSite r → IsSite q → SameName (field r 1) (field q 1) → Meet r q
  at-a-link : IsLink Reserved r → IsLink Reserved q → SameNames (field r 1) (field r 2) (field q 1) (field q 2) → Meet r q

-- ---- site records counted

-- 0 for a link record, 1 for a site record
unfoldable pub as_site : Record → ℕ
as_site r = cond (same (field r 0) (bytes "L")) 0 1

pub a_site_counts : (r : Record) → IsSite r → as_site r ≡ 1
unfolding as_site same
a_site_counts r is = elim (site_parts r is).letter [ inl e ↦ rw e | inr e ↦ rw e ]

pub a_link_does_not_count : (r : Record) → IsLink Reserved r → as_site r ≡ 0
unfolding as_site same
a_link_does_not_count r is = rw (link_parts Reserved r is).letter

-- ---- names

-- where no two sites have the same name, one site has a name
pub one_site_of_a_name : (s : List ℕ) (names : List (ℕ × ℕ)) → Different s names → (f g : List ℕ) (v w : ℕ) → Named s names f v → Named s names g w
    → SameName f g → v ≡ w
one_site_of_a_name s names different f g v w h k e =
    let same = h.name ∙ e ∙ sym k.name in
    cases (dec_lt v w)
    (λ l. absurd (different (w - 1) (omega (arith, k.site)) (v - 1) (omega (arith, h.site)) same))
    (λ l. cases (dec_lt w v)
    (λ m. absurd (different (v - 1) (omega (arith, h.site)) (w - 1) (omega (arith, k.site)) (sym same)))
    (λ m. omega arith))

pub no_records : (s : List ℕ) (at : ℕ) → length s ≤ at → records (drop at s) ≡ []
unfolding records lines_of
no_records s at l = rw (drop_of_length-le s l)

module _ (ed : Edition) (s : List ℕ) where
  -- what holds of the records above a line and of the network read from them
  pub record Kept (above : List Record) (net : Network) : Type 0 where
    pub holds : Holds ed s above net
    pub below : LinksBelow [] above
    pub apart : Apart Meet above
    pub counted : length net.names ≡ tally as_site above

  -- the lines below the heading and above an offset have been read
  pub record ReadTo (at : ℕ) (net : Network) (above : List Record) : Type 0 where
    pub rest : records_of s ≡ above ++ records (drop at s)
    pub kept : Kept above net

  -- at line 1 nothing is read; below it, line 1 is the heading, and the lines above have been read
  abbrev pub ReadSoFar : ℕ → ℕ → Network → Type 0
  ReadSoFar k at net = ((k ≡ 1) × (at ≡ 0) × (net ≡ empty))
      ⊎ ((k ≢ 1) × (is_heading ed (fields_at s 0) ≡ true) × ((above : List Record) × ReadTo at net above))

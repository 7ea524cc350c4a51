-- What the exchange between two regions tells, for any two sheets and any two lent lists: each number for its cause and for no other, and the lists after.
-- Document 02, Card 10.
use Rattle.std.specs.Prelude.{List, ◌++◌, ◌⊎◌, ◌≡◌, ℕ, ◌≤◌, ◌<◌, length, drop}
use Rattle.std.proofs.Common.{inl, inr, arith}
use Rattle.std.proofs.Math.Path.{refl}
use Rattle.model.specs.declared.Edition.{Edition}
use Rattle.sheet.specs.Sheet.{Network, edition_of}
use Rattle.sheet.proofs.Answers.{refusals_have_sheet_numbers}
use Rattle.theory_regions.specs.Regions.{Given}
use Rattle.theory_regions.specs.JoinedTree.{Border}
use Rattle.exchanges.specs.Outcome.{sheet_of, number, line_of, none, first_of, second_of, Exchanged, told}
use Rattle.exchanges.specs.Outcome.{exchanged}
use Rattle.exchanges.specs.Causes.{AcceptedPair, Cause, of_the_first, of_the_second, no_shared_link}
use Rattle.exchanges.specs.Causes.{first_list_too_short, second_list_too_short}
use Rattle.exchanges.specs.SharedLaws.{first_given, second_given}

-- refused with a sheet, a number and a line: the counts and the sums are 0, and both lists keep their values
pub record IsRefused (x k line : ℕ) (l m : List ℕ) (o : Exchanged) : Type 0 where
  pub sheet-told : sheet_of o.outcome ≡ x
  pub number-told : number o.outcome ≡ k
  pub line-told : line_of o.outcome ≡ line
  pub first-told : first_of o.outcome ≡ none
  pub second-told : second_of o.outcome ≡ none
  pub first-kept : o.first ≡ l
  pub second-kept : o.second ≡ m

-- both regions are answered with what they are given, u and v: sheet 0, number 0, line 0, and for each the number of its trimmed sizes and their sum; its
-- list holds them, in sheet order, and after them its values from before
pub record BothAnswered (u v : Given) (l m : List ℕ) (o : Exchanged) : Type 0 where
  pub sheet-told : sheet_of o.outcome ≡ 0
  pub number-told : number o.outcome ≡ 0
  pub line-told : line_of o.outcome ≡ 0
  pub first-told : first_of o.outcome ≡ told u
  pub second-told : second_of o.outcome ≡ told v
  pub first-filled : o.first ≡ u.sizes ++ drop (length u.sizes) l
  pub second-filled : o.second ≡ v.sizes ++ drop (length v.sizes) m

-- there is room for a trimmed size for each link
pub record Room (net other : Network) (l m : List ℕ) : Type 0 where
  pub first : length net.links ≤ length l
  pub second : length other.links ≤ length m

-- what the exchange comes to: refused for a cause, with its sheet, number and line; or both answered, the pair being accepted and the lists long enough
pub data ExchangeTold (known : List Edition) (s t l m : List ℕ) : Type 0 where
  for_its_cause : {x k line : ℕ} → Cause known s t l m x k line → IsRefused x k line l m (exchanged known s t l m) → ExchangeTold known s t l m
  both-answered : {net other : Network} {p q : Border} → (X : AcceptedPair known s net t other p q) → Room net other l m
      → BothAnswered (first_given X) (second_given X) l m (exchanged known s t l m) → ExchangeTold known s t l m

-- ---- case by case
module _ (known : List Edition) (s t l m : List ℕ) where
  module _ {net other : Network} {p q : Border} (X : AcceptedPair known s net t other p q) where
    abbrev pub u : Given
    u = first_given X

    abbrev pub v : Given
    v = second_given X

  -- ---- which numbers

  -- sheet 0 is named for 18 alone, at line 0
  pub sheet_0_is_named_for_18_alone : {k line : ℕ} → Cause known s t l m 0 k line → (k ≡ 18) × (line ≡ 0)
  sheet_0_is_named_for_18_alone c = by c refl
    where
      by : {x k line : ℕ} → Cause known s t l m x k line → x ≡ 0 → (k ≡ 18) × (line ≡ 0)
      by (of_the_first c) e = absurd (omega arith)
      by (of_the_second net r c) e = absurd (omega arith)
      by (no_shared_link R h) e = (refl, refl)
      by (first_list_too_short X h) e = absurd (omega arith)
      by (second_list_too_short X g h) e = absurd (omega arith)

  -- 9 is told for a list that is too short alone, at line 0: it is never a number of the sheet it names
  pub nine_is_told_for_a_list_alone : {x line : ℕ} → Cause known s t l m x 9 line
      → (net : Network) × (other : Network) × (p : Border) × (q : Border) × AcceptedPair known s net t other p q × (line ≡ 0)
      × (((x ≡ 1) × (length l < length net.links)) ⊎ ((x ≡ 2) × (length net.links ≤ length l) × (length m < length other.links)))
  nine_is_told_for_a_list_alone c = by c refl
    where
      by : {x k line : ℕ} → Cause known s t l m x k line → k ≡ 9
          → (net : Network) × (other : Network) × (p : Border) × (q : Border) × AcceptedPair known s net t other p q × (line ≡ 0)
          × (((x ≡ 1) × (length l < length net.links)) ⊎ ((x ≡ 2) × (length net.links ≤ length l) × (length m < length other.links)))
      by (of_the_first c) e = absurd ((refusals_have_sheet_numbers (edition_of known s) s c).not_nine e)
      by (of_the_second net r c) e = absurd ((refusals_have_sheet_numbers (edition_of known t) t c).not_nine e)
      by (no_shared_link R h) e = absurd (omega arith)
      by (first_list_too_short {net} {other} {p} {q} X h) e = (net, other, p, q, X, refl, inl (refl, h))
      by (second_list_too_short {net} {other} {p} {q} X g h) e = (net, other, p, q, X, refl, inr (refl, g, h))

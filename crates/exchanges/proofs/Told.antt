-- What the exchange between two regions tells, for any two sheets and any two lent lists: each number for its cause and for no other, and the lists after.
use Rattle.std.specs.Prelude.{List, ◌↔◌, ◌≡◌, ℕ, ◌≤◌, ◌<◌, length}
use Rattle.std.proofs.Common.{sym, ap, ◌∙◌, arith}
use Rattle.std.proofs.Math.Path.{refl}
use Rattle.std.proofs.Math.Decide.{dec_le}
use borrow.Author.Tests.{le-leb, lt-leb}
use Rattle.lists.specs.Sums.{cases, contradiction}
use Rattle.model.specs.TextRefusals.{refused_in}
use Rattle.model.specs.declared.Edition.{Edition}
use Rattle.sheet.specs.Sheet.{Network, Read, refused, accepted, read_sheet, edition_of}
use Rattle.sheet.specs.SheetTheorem.{a_sheet_is_refused_for_its_cause}
use Rattle.theory_regions.specs.JoinedTree.{Border}
use Rattle.theory_regions.specs.Sharing.{Sharing, apart, sharing}
use Rattle.theory_regions.specs.SharingLaws.{Tells, tells_none, tells-some}
use Rattle.exchanges.specs.Shared.{region_of, site_name, sharing_in}
use Rattle.exchanges.specs.Outcome.{both_of, sheet_of, number, line_of, refusal, told, filled, deliver}
use Rattle.exchanges.specs.Outcome.{exchange_over, exchange_read, exchanged}
use Rattle.exchanges.specs.Causes.{BothRead, AcceptedPair, Cause, of_the_first, of_the_second, no_shared_link}
use Rattle.exchanges.specs.Causes.{first_list_too_short, second_list_too_short}
use Rattle.exchanges.proofs.SharedLaws.{apart_exactly_unless_they_share, the_sharing_is_told, the_shared_link_is_one}
use Rattle.exchanges.specs.SharedLaws.{a_size_for_each_link, first_given, second_given}
use Rattle.exchanges.specs.Told.{Room, ExchangeTold, both-answered, for_its_cause, u, v}

-- ---- case by case
module _ (known : List Edition) (s t l m : List ℕ) where
  pub first_refused : (k line : ℕ) → read_sheet known s ≡ refused k line → exchanged known s t l m ≡ refusal 1 k line l m
  unfolding exchanged exchange_read
  first_refused k line e = rw e refl

  pub second_refused : (net : Network) (k line : ℕ) → read_sheet known s ≡ accepted net → read_sheet known t ≡ refused k line
      → exchanged known s t l m ≡ refusal 2 k line l m
  unfolding exchanged exchange_read
  second_refused net k line e f = rw (e, f) refl

  pub by_sharing : {net other : Network} → BothRead known s net t other → exchanged known s t l m ≡ exchange_over net other l m (sharing_in s net t other)
  unfolding exchanged exchange_read
  by_sharing R = rw (R.first, R.second) refl

  -- where one link is shared the answers are delivered, whichever borders are named
  delivered : {net other : Network} {p q : Border} → (X : AcceptedPair known s net t other p q)
      → exchanged known s t l m ≡ deliver (first_given X) (second_given X) l m
  delivered {net} {other} {p} {q} X = by_sharing X.read ∙ by (sharing_in s net t other) (the_sharing_is_told X.read)
    where
      by : (r : Sharing) → Tells (region_of net) (region_of other) (site_name s net) (site_name t other) r
          → exchange_over net other l m r ≡ deliver (first_given X) (second_given X) l m
      by apart (tells_none h) = absurd (h p q X.share)
      by (sharing p' q') (tells-some M) = let e = the_shared_link_is_one X.read M X.share in unfold exchange_over in rw (e.0, e.1) refl

  module _ {net other : Network} {p q : Border} (X : AcceptedPair known s net t other p q) where
    first-too-short : length l < length net.links → exchanged known s t l m ≡ refusal 1 9 0 l m
    unfolding deliver
    first-too-short h = delivered X ∙ rw (lt-leb (length (u known s t l m X).sizes) (length l) (omega (arith, a_size_for_each_link X))) refl

    second-too-short : length net.links ≤ length l → length m < length other.links → exchanged known s t l m ≡ refusal 2 9 0 l m
    unfolding deliver
    second-too-short g h = delivered X ∙ rw (
      le-leb (length (u known s t l m X).sizes) (length l) (omega (arith, a_size_for_each_link X)),
      lt-leb (length (v known s t l m X).sizes) (length m) (omega (arith, a_size_for_each_link X)),
    ) refl

    pub both_are_answered : Room net other l m
        → exchanged known s t l m ≡ record { outcome = both_of (told (u known s t l m X)) (told (v known s t l m X)); first = filled (u known s t l m X) l; second = filled (v known s t l m X) m }
    unfolding deliver
    both_are_answered r = delivered X ∙ rw (
      le-leb (length (u known s t l m X).sizes) (length l) (omega (arith, a_size_for_each_link X, r.first)),
      le-leb (length (v known s t l m X).sizes) (length m) (omega (arith, a_size_for_each_link X, r.second)),
    ) refl

  -- ---- each number for its cause

  a_cause_refuses : {x k line : ℕ} → Cause known s t l m x k line → exchanged known s t l m ≡ refusal x k line l m
  unfolding exchange_over
  a_cause_refuses (of_the_first {k} {line} c) = first_refused k line ((a_sheet_is_refused_for_its_cause (edition_of known s) s k line).1 c)
  a_cause_refuses (of_the_second {k} {line} net e c) = second_refused net k line e ((a_sheet_is_refused_for_its_cause (edition_of known t) t k line).1 c)
  a_cause_refuses (no_shared_link {net} {other} R h) = by_sharing R ∙ rw ((apart_exactly_unless_they_share R).1 h) refl
  a_cause_refuses (first_list_too_short X h) = first-too-short X h
  a_cause_refuses (second_list_too_short X g h) = second-too-short X g h

  is_refused : {x k line : ℕ} → Cause known s t l m x k line → ExchangeTold known s t l m
  is_refused c = for_its_cause c (rw (a_cause_refuses c)
      (record { sheet-told = refl; number-told = refl; line-told = refl; first-told = refl; second-told = refl; first-kept = refl; second-kept = refl }))

  over-a-pair : {net other : Network} {p q : Border} → AcceptedPair known s net t other p q → ExchangeTold known s t l m
  over-a-pair {net} {other} X = cases (dec_le (length net.links) (length l))
      (λ g. cases (dec_le (length other.links) (length m))
      (λ h. let r : Room net other l m = record { first = g; second = h } in
      both-answered X r (rw (both_are_answered X r) (record {
        sheet-told = refl;
        number-told = refl;
        line-told = refl;
        first-told = refl;
        second-told = refl;
        first-filled = refl;
        second-filled = refl;
      })))
      (λ h. is_refused (second_list_too_short X g (omega arith))))
      (λ g. is_refused (first_list_too_short X (omega arith)))

  over_networks : {net other : Network} → BothRead known s net t other → (r : Sharing)
      → Tells (region_of net) (region_of other) (site_name s net) (site_name t other) r → ExchangeTold known s t l m
  over_networks R apart (tells_none h) = is_refused (no_shared_link R h)
  over_networks R (sharing p q) (tells-some M) = over-a-pair (record { read = R; share = M })

  -- every exchange is refused for its cause, or both regions are answered
  pub the_exchange_is_told_or_its_cause : ExchangeTold known s t l m
  the_exchange_is_told_or_its_cause = by (read_sheet known s) (read_sheet known t) refl refl
    where
      by : (r w : Read) → read_sheet known s ≡ r → read_sheet known t ≡ w → ExchangeTold known s t l m
      by (refused k line) w e f = is_refused (of_the_first ((a_sheet_is_refused_for_its_cause (edition_of known s) s k line).0 e))
      by (accepted net) (refused k line) e f = is_refused (of_the_second net e ((a_sheet_is_refused_for_its_cause (edition_of known t) t k line).0 f))
      by (accepted net) (accepted other) e f =
          let R : BothRead known s net t other = record { first = e; second = f } in over_networks R (sharing_in s net t other) (the_sharing_is_told R)

  -- and it is refused for no other
  pub a_pair_is_refused_for_its_cause : (sheet n at : ℕ) → (exchanged known s t l m ≡ refusal sheet n at l m) ↔ Cause known s t l m sheet n at
  a_pair_is_refused_for_its_cause sheet n at = (by the_exchange_is_told_or_its_cause, a_cause_refuses)
    where
      by : ExchangeTold known s t l m → exchanged known s t l m ≡ refusal sheet n at l m → Cause known s t l m sheet n at
      by (for_its_cause {x} {k} {line} c h) e =
          let same : refusal x k line l m ≡ refusal sheet n at l m = sym (a_cause_refuses c) ∙ e in
          let p : x ≡ sheet = ap (λ o. sheet_of o.outcome) same in
          let q : k ≡ n = ap (λ o. number o.outcome) same in
          let r : line ≡ at = ap (λ o. line_of o.outcome) same in
          rw (p, q, r) at c
      by (both-answered X r h) e =
          let same : both_of (told (first_given X)) (told (second_given X)) ≡ refused_in sheet n at = ap (λ o. o.outcome) (sym (both_are_answered X r) ∙ e) in
          contradiction cc

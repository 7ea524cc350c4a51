-- The networks of two accepted sheets taken apart into lists, as the code has them, and the exchange between them, case by case.
use Rattle.std.specs.Prelude.{None, Some, List, ◌≡◌, ℕ, ◌≤◌, ◌<◌, length, take}
use Rattle.std.proofs.Common.{inl, inr, sym, ap, subst, ◌∙◌, arith}
use Rattle.std.proofs.Math.Path.{refl, ap₂}
use Rattle.lists.specs.Numbers.{look}
use Rattle.lists.specs.Sums.{contradiction}
use Rattle.model.specs.Edition.{editions}
use Rattle.model.specs.Flows.{Site}
use Rattle.model.specs.Limits.{SITES}
use Rattle.planner.specs.Taken.{Listed, the_lists_are_taken_apart, the_marks_are_taken_apart, the_links_are_the_networks, the_network_is_a_marked_tree}
use Rattle.region_links.specs.Partners.{partner_in, Holds}
use Rattle.region_sharing.specs.Shared.{shared_by}
use Rattle.region_sharing.specs.declared.Shared.{Shared}
use Rattle.region_sizes.specs.Offered.{region_by}
use Rattle.sheet.specs.ListLaws.{names_are}
use Rattle.sheet.specs.Sound.{distinct_names}
use Rattle.sheet.proofs.Editions.{an_accepted_sheet_is_within_the_largest}
use Rattle.sheet.specs.Reading.{lists}
use Rattle.sheet.specs.Sheet.{Network, accepted}
use Rattle.sheet_names.specs.LookupLaws.{length-ranges}
use Rattle.sheet_names.specs.Names.{ranges, Distinct}
use Rattle.sheet.specs.declared.Lists.{Lists}
use Rattle.theory_regions.specs.Sharing.{Partners, Sharing, apart, sharing, sharing_of}
use Rattle.theory_regions.specs.SharingLaws.{Tells, tells_none, tells-some}
use Rattle.theory_regions.proofs.SharingLaws.{the_decision_tells}
use Rattle.tree.specs.Links.{length-links}
use Rattle.tree.specs.declared.accepted.AcceptedTree.{AcceptedTree}
use Rattle.exchanges.specs.Causes.{BothRead}
use Rattle.exchanges.specs.Outcome.{refusal, exchange_over, exchanged}
use Rattle.exchanges.specs.Shared.{region_of, site_name, partner}
use Rattle.exchanges.specs.SharedLaws.{the_network_is_named}
use Rattle.exchanges.proofs.SharedLaws.{look_ups_find_partners, the_sharing_is_told, the_shared_link_is_one}
use Rattle.exchanges.proofs.Told.{by_sharing}
use Rattle.exchanges.specs.Taken.{Taken, net, network_by, deliver_between, the_region_of_lists}

-- ---- the exchange between two networks taken apart
module _ {s starts stops : List ℕ} {n : ℕ} {one two marks c : List ℕ} {t starts2 stops2 : List ℕ} {n2 : ℕ} {one2 two2 marks2 c2 : List ℕ}
    (T : Taken s starts stops n one two marks c) (W : Taken t starts2 stops2 n2 one2 two2 marks2 c2) where
  abbrev other : Network
  other = network_by starts2 stops2 n2 one2 two2 marks2 c2

  both_read : BothRead editions s (net T W) t other
  both_read = record { first = T.read; second = W.read }

  -- the networks as regions
  the_first_region : region_of (net T W) ≡ region_by n one two marks c
  the_first_region = the_region_of_lists starts stops n one two marks c

  the_second_region : region_of other ≡ region_by n2 one2 two2 marks2 c2
  the_second_region = the_region_of_lists starts2 stops2 n2 one2 two2 marks2 c2

  module _ (partners : List ℕ) (H : Holds n (partner_in s (ranges starts stops 0 n) t (ranges starts2 stops2 0 n2)) partners) where
    they-are-partners : Partners (length (net T W).names) (length other.names) (site_name s (net T W)) (site_name t other) (look partners)
    unfolding partner
    they-are-partners x p = rw (H x (p.0, omega (arith, p.1, length-ranges starts stops 0 n))) (look_ups_find_partners s (net T W) t other x p)

    -- a partner is a site, or 0
    pub partners_are_sites : (x : ℕ) → Site n x → look partners x ≤ n2
    partners_are_sites x p = elim (they-are-partners x (p.0, omega (arith, p.1, length-ranges starts stops 0 n))) [
      | inl h ↦ omega (arith, h.0.1, length-ranges starts2 stops2 0 n2)
      | inr h ↦ omega (arith, h.0)
    ]

    -- what the code decides tells whether they share one link
    abbrev decided : Sharing
    decided = sharing_of (region_by n one two marks c) (region_by n2 one2 two2 marks2 c2) (look partners)

    it-tells : Tells (region_of (net T W)) (region_of other) (site_name s (net T W)) (site_name t other) decided
    it-tells =
        subst (Tells (region_of (net T W)) (region_of other) (site_name s (net T W)) (site_name t other))
        (ap₂ (λ a b. sharing_of a b (look partners)) the_first_region the_second_region)
        (the_decision_tells (the_network_is_named editions s (net T W) T.read) (the_network_is_named editions t other W.read) (look partners)
        they-are-partners)

    module _ (l m : List ℕ) where
      -- two decisions that tell it come to one exchange
      alike : (r q : Sharing) → Tells (region_of (net T W)) (region_of other) (site_name s (net T W)) (site_name t other) r
          → Tells (region_of (net T W)) (region_of other) (site_name s (net T W)) (site_name t other) q → exchange_over (net T W) other l m r ≡ exchange_over (net T W) other l m q
      alike apart apart (tells_none h) (tells_none g) = refl
      alike apart (sharing p q) (tells_none h) (tells-some M) = absurd (h p q M)
      alike (sharing p q) apart (tells-some M) (tells_none h) = absurd (h p q M)
      alike (sharing p q) (sharing p' q') (tells-some M) (tells-some N) =
          let e = the_shared_link_is_one both_read M N in unfold exchange_over in rw (e.0, e.1) refl

      by-the-decision : exchanged editions s t l m ≡ exchange_over (net T W) other l m decided
      by-the-decision = by_sharing editions s t l m both_read ∙ alike _ decided (the_sharing_is_told both_read) it-tells

      -- 18 where they do not
      pub apart-is-told : None ≡ shared_by decided → exchanged editions s t l m ≡ refusal 0 18 0 l m
      unfolding exchange_over
      apart-is-told e = by-the-decision ∙ by decided e
        where
          by : (r : Sharing) → None ≡ shared_by r → exchange_over (net T W) other l m r ≡ refusal 0 18 0 l m
          by apart e = refl
          by (sharing p q) e = contradiction cc

      -- where they do the answers are delivered
      pub shared_is_told : (o : Shared) → Some o ≡ shared_by decided
          → exchanged editions s t l m ≡ deliver_between (region_by n one two marks c) o.first (region_by n2 one2 two2 marks2 c2) o.second l m
      unfolding exchange_over
      shared_is_told o e = by-the-decision ∙ by decided e ∙ ap₂ (λ a b. deliver_between a o.first b o.second l m) the_first_region the_second_region
        where
          by : (r : Sharing) → Some o ≡ shared_by r
              → exchange_over (net T W) other l m r ≡ deliver_between (region_of (net T W)) o.first (region_of other) o.second l m
          by apart e = contradiction cc
          by (sharing p q) e = let f : o ≡ record { first = p.shared; second = q.shared } = cc in rw f refl

    -- and it is a link of each
    pub shared_is_a_link : (o : Shared) → Some o ≡ shared_by decided → (o.first < length one) × (o.second < length one2)
    shared_is_a_link o e = by decided e it-tells
      where
        by : (r : Sharing) → Some o ≡ shared_by r → Tells (region_of (net T W)) (region_of other) (site_name s (net T W)) (site_name t other) r
            → (o.first < length one) × (o.second < length one2)
        by apart e h = contradiction cc
        by (sharing p q) e (tells-some M) =
            let f : o ≡ record { first = p.shared; second = q.shared } = cc in
            let all = length-links one two (omega (arith, T.tree.within.firsts, T.tree.within.seconds)) in
            let all2 = length-links one2 two2 (omega (arith, W.tree.within.firsts, W.tree.within.seconds)) in
            rw f (omega (arith, M.first-link, all), omega (arith, M.second-link, all2))

-- the lists of an accepted sheet are taken
pub the_lists_are_taken : {s : List ℕ} {network : Lists} → Listed s network → let m = network.links in let n = network.sites in
    Taken s network.start network.end n (take m network.one) (take m network.two) (take n network.mark) (take m network.capacity)
unfolding lists
the_lists_are_taken {s} {network} r =
    let a = the_lists_are_taken_apart r in
    let marks = the_marks_are_taken_apart r in
    let told : accepted a.net ≡ accepted r.net = sym a.read ∙ r.read in
    let same : a.net ≡ r.net = cc in
    let names : ranges network.start network.end 0 network.sites ≡ a.net.names =
    rw r.listed (names_are SITES r.net.names) ∙ ap (λ x. x.names) (sym same) in
    record {
      read = rw (names, marks, the_links_are_the_networks a, a.sizes) a.read;
      tree = rw marks (the_network_is_a_marked_tree a);
    }

-- and so is the tree that lends them
pub the_tree_is_taken : {s : List ℕ} {network : Lists} → Listed s network → (t : AcceptedTree) → t.sites ≡ network.sites
    → t.one.now ≡ take network.links network.one → t.two.now ≡ take network.links network.two → t.marks.now ≡ take network.sites network.mark
    → t.capacity.now ≡ take network.links network.capacity
    → Taken s network.start network.end t.sites t.one.now t.two.now t.marks.now t.capacity.now
the_tree_is_taken r t sites one two marks capacity = rw (sites, one, two, marks, capacity) (the_lists_are_taken r)

-- its names are different, and lie on the sheet
pub names_are_distinct : {s starts stops : List ℕ} {n : ℕ} {one two marks c : List ℕ} → Taken s starts stops n one two marks c
    → Distinct s (ranges starts stops 0 n)
names_are_distinct {s} {starts} {stops} {n} {one} {two} {marks} {c} r =
    let net = an_accepted_sheet_is_within_the_largest s (network_by starts stops n one two marks c) r.read in
    distinct_names net.names net.different

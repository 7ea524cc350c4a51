-- Laws of the text of a region's answer: a line in its pieces, one line more, and how long they are.
use Rattle.std.specs.Prelude.{List, [], ◌∷◌, ◌++◌, ◌≡◌, refl, ℕ, ◌+◌, ◌-◌, ◌^◌, ◌≤◌, ◌<◌, take}
use Rattle.std.proofs.Common.{append_assoc, sym, ap, ◌∙◌, add-one, arith, length-append, length-take-le}
use Rattle.std.proofs.Math.ListN.{length}
use Rattle.std.proofs.lemmas.List.{get_or-take}
use Rattle.lists.specs.Numbers.{look}
use Rattle.model.specs.Edition.{editions}
use Rattle.model.specs.Flows.{Site}
use Rattle.model.specs.Limits.{SITES, LINKS}
use Rattle.model.specs.Text.{bytes}
use Rattle.planner.specs.Small.{name-or-nothing}
use Rattle.planner.specs.Taken.{Listed, room_for_the_links}
use Rattle.exchanges.proofs.Taken.{the_lists_are_taken}
use Rattle.sheet.proofs.Editions.{an_accepted_sheet_is_within_the_largest}
use Rattle.sheet.specs.Sheet.{refused, read_sheet}
use Rattle.sheet.specs.declared.Lists.{Lists}
use Rattle.sheet_names.specs.LookupLaws.{range_at}
use Rattle.sheet_names.specs.Names.{part, ranges}
use Rattle.text_fields.specs.FieldLaws.{name-length}
use Rattle.text_writers.specs.Decimal.{decimal-length}
use Rattle.text_writers.specs.Fields.{decimal, line}
use Rattle.text_writers.specs.Wrote.{Wrote}
use Rattle.text_writers.specs.Writing.{then, nothing}
use Rattle.tree.specs.Links.{length-links, links-one, links-two}
use Rattle.tree.specs.Offer.{links}
use Rattle.region_report.specs.TwoRegions.{region_heading}
use Rattle.region_report.specs.Lines.{link_record, link_lines, spelt, links_read, links_text}

-- ---- a line

-- the line of two names and a size
abbrev pub size_line : List ℕ → List ℕ → ℕ → List ℕ
size_line first second size = line (bytes "L" ∷ first ∷ second ∷ decimal size ∷ [])

-- in its pieces
pub pieces : (first second : List ℕ) (size : ℕ)
    → (76 ∷ 9 ∷ []) ++ ((first ++ (9 ∷ [])) ++ ((second ++ (9 ∷ [])) ++ (decimal size ++ (10 ∷ [])))) ≡ size_line first second size
unfolding line
pieces first second size = ap (λ t. 76 ∷ 9 ∷ t) (
    append_assoc first (9 ∷ []) ((second ++ (9 ∷ [])) ++ (decimal size ++ (10 ∷ [])))
    ∙ ap (λ t. first ++ (9 ∷ t)) (append_assoc second (9 ∷ []) (decimal size ++ (10 ∷ [])))
    )

-- it is short
pub line_is_short : (first second : List ℕ) (size : ℕ) → length first ≤ 12 → length second ≤ 12 → size < 2 ^ 64
    → length (size_line first second size) ≤ 60
line_is_short first second size h k l = omega (
  arith,
  ap length (pieces first second size),
  length-append (first ++ (9 ∷ [])) ((second ++ (9 ∷ [])) ++ (decimal size ++ (10 ∷ []))),
  length-append first (9 ∷ []),
  length-append (second ++ (9 ∷ [])) (decimal size ++ (10 ∷ [])),
  length-append second (9 ∷ []),
  length-append (decimal size) (10 ∷ []),
  decimal-length size l,
)

-- ---- the lines of links

-- links between n sites whose names, ranges of the sheet s, are short
pub record Linked (s starts stops : List ℕ) (n : ℕ) (one two : List ℕ) : Type 0 where
  pub few : n ≤ SITES
  pub fewer : length one ≤ LINKS
  pub seconds : length two ≡ length one
  pub sites : (j : ℕ) → j < length one → Site n (look one j) × Site n (look two j)
  pub short : (v : ℕ) → length (spelt s (ranges starts stops 0 n) v) ≤ 12

-- the first lines of an accepted sheet's links
abbrev pub first_lines : List ℕ → Lists → List ℕ → ℕ → List ℕ
first_lines s network = link_lines (spelt s (ranges network.start network.end 0 network.sites))
    (links (take network.links network.one) (take network.links network.two))

-- the lists of an accepted sheet are such
pub the_lists_are_linked : {s : List ℕ} {network : Lists} → Listed s network → let m = network.links in let n = network.sites in
    Linked s network.start network.end n (take m network.one) (take m network.two)
the_lists_are_linked {s} {network} r =
    let t = the_lists_are_taken r in
    let m = network.links in
    let one = take m network.one in
    let two = take m network.two in
    let w = t.tree.within in
    let all = length-links one two (omega (arith, w.firsts, w.seconds)) in
    record {
      few = omega (arith, w.few);
      fewer = omega (arith, w.few, w.firsts);
      seconds = omega (arith, w.firsts, w.seconds);
      sites = λ j h.
          let k : j < length two = omega (arith, w.firsts, w.seconds) in
          rw (links-one one two j h k, links-two one two j h k) at (w.tree.ends j (omega (arith, all)));
      short = λ v. name-or-nothing (an_accepted_sheet_is_within_the_largest s _ t.read) (λ f. length f ≤ 12) (λ f e. (name-length f e).1) (omega arith) v;
    }

module _ {s starts stops : List ℕ} {n : ℕ} {one two : List ℕ} (k : Linked s starts stops n one two) (sizes : List ℕ) where
  abbrev lines : ℕ → List ℕ
  lines j = link_lines (spelt s (ranges starts stops 0 n)) (links one two) sizes j

  -- the names of the two sites of a link
  pub name-is : (v : ℕ) → Site n v → part s (look starts (v - 1), look stops (v - 1)) ≡ spelt s (ranges starts stops 0 n) v
  name-is v p = ap (part s) (sym (range_at starts stops n (v - 1) (omega (arith, p.0, p.1))))

  -- one line more
  pub the_next_line : {b c d : List ℕ} {at r q : ℕ} (j : ℕ) → j < length one → Wrote b at (lines j) c r
      → {first second : List ℕ} → first ≡ part s (look starts (look one j - 1), look stops (look one j - 1))
      → second ≡ part s (look starts (look two j - 1), look stops (look two j - 1)) → Wrote c r (size_line first second (look sizes j)) d q
      → Wrote b at (lines (j + 1)) d q
  unfolding link_lines link_record
  the_next_line j h v e f w =
      let g : j < length two = omega (arith, k.seconds) in
      let p = k.sites j h in
      rw (add-one, links-one one two j h g, links-two one two j h g)
      (then v (rw (e, f, name-is (look one j) p.0, name-is (look two j) p.1) at w))

pub no_line_yet : (name : ℕ → List ℕ) (one two sizes b : List ℕ) (at : ℕ) → Wrote b at (link_lines name (links one two) sizes 0) b at
unfolding link_lines
no_line_yet name one two sizes b at = nothing b at

-- ---- the lines of a sheet

module _ {s : List ℕ} {network : Lists} (r : Listed s network) where
  -- its links and sites are few
  pub links_are_few : network.links ≤ LINKS
  links_are_few = omega (arith, (the_lists_are_linked r).fewer, length-take-le network.links network.one (room_for_the_links r).0)

  pub sites_are_few : network.sites ≤ SITES
  sites_are_few = (the_lists_are_linked r).few

  module _ (j : ℕ) (h : j < network.links) where
    held : j < length (take network.links network.one)
    held = omega (arith, length-take-le network.links network.one (room_for_the_links r).0)

    -- the two sites of link j
    pub ends_of_link : Site network.sites (look network.one j) × Site network.sites (look network.two j)
    ends_of_link =
        let p = (the_lists_are_linked r).sites j held in
        (rw (get_or-take network.links network.one j 0 h) at p.0, rw (get_or-take network.links network.two j 0 h) at p.1)

    -- the name of a site of it is short
    pub its-name-is-short : (v : ℕ) → Site network.sites v → {first : List ℕ} → first ≡ part s (look network.start (v - 1), look network.end (v - 1))
        → length first ≤ 12
    its-name-is-short v p e = omega (arith, ap length e, ap length (name-is (the_lists_are_linked r) [] v p), (the_lists_are_linked r).short v)

    -- one line more
    pub one_line_more : (sizes : List ℕ) {b c d : List ℕ} {at q t : ℕ} → Wrote b at (first_lines s network sizes j) c q → {first second : List ℕ}
        → first ≡ part s (look network.start (look network.one j - 1), look network.end (look network.one j - 1))
        → second ≡ part s (look network.start (look network.two j - 1), look network.end (look network.two j - 1))
        → Wrote c q (size_line first second (look sizes j)) d t → Wrote b at (first_lines s network sizes (j + 1)) d t
    one_line_more sizes v e f =
        the_next_line (the_lists_are_linked r) sizes j held v
        (rw (get_or-take network.links network.one j 0 h) e)
        (rw (get_or-take network.links network.two j 0 h) f)

pub lines_of_a_sheet : {s : List ℕ} {network : Lists} → Listed s network → (sizes : List ℕ) → let m = network.links in
    link_lines (spelt s (ranges network.start network.end 0 network.sites)) (links (take m network.one) (take m network.two)) sizes m
    ≡ links_text editions s sizes
unfolding links_text links_read
lines_of_a_sheet {s} {network} r sizes =
    let t = the_lists_are_taken r in
    let m = network.links in
    let one = take m network.one in
    let two = take m network.two in
    let w = t.tree.within in
    let all = length-links one two (omega (arith, w.firsts, w.seconds)) ∙ length-take-le m network.one (room_for_the_links r).0 in
    rw (t.read, all) refl

pub no_lines_of_a_refused_sheet : (s sizes : List ℕ) {k at : ℕ} → read_sheet editions s ≡ refused k at → links_text editions s sizes ≡ []
unfolding links_text links_read
no_lines_of_a_refused_sheet s sizes e = rw e refl

-- ---- the heading

pub heading-is : (number sum : ℕ) → (bytes "region" ++ (9 ∷ [])) ++ line (decimal number ∷ decimal sum ∷ []) ≡ region_heading number sum
unfolding region_heading line
heading-is number sum = refl

-- The sheet of an entry is accepted, and read as its links and sizes: line after line, each site under a new name, each link between sites that those above do
-- not join, and in the end all are joined.
use Rattle.std.specs.Prelude.{◌≡◌, true, ◌≢◌, ℕ, zero, suc, ◌+◌, ◌-◌, ◌*◌, ◌≤◌, ◌<◌, length, get_or, drop, replicate}
use Rattle.std.proofs.Math.Path.{refl, ap}
use Rattle.std.proofs.Common.{sym, ◌∙◌, length-drop}
use mathlib.Core.List.{List, [], ◌∷◌, ◌++◌, flat_map, append_assoc, append-nil, reverse, reverse-append, reverse-cons}
use native.Mathlib.Omega.{arith}
use borrow.Author.Tests.{le-leb}
use Rattle.std.proofs.Math.ListN.{length-append}
use Rattle.lists.specs.Numbers.{upfrom, Each}
use Rattle.lists.specs.Sums.{is_same, is_one}
use Rattle.model.specs.Limits.{SIZE}
use Rattle.model.specs.Edition.{edition1, editions}
use Rattle.model.specs.Flows.{Links, Site, sites, label, joined}
use Rattle.model.specs.declared.Edition.{Edition}
use Rattle.model.specs.declared.Sizing.TheVariants.{Reserved}
use Rattle.theory_trees.specs.Labels.{Fresh}
use Rattle.theory_trees.proofs.Fresh.{tree_links_are_fresh, tree_reversed, joined_reversed}
use Rattle.text_writers.specs.Fields.{decimal, line}
use Rattle.text_writers.specs.Decimal.{decimal-within}
use Rattle.sheet.specs.Sheet.{Network, accepted, empty, with_site, with_link, and_then, read_lines, all_joined, finish, read_as, edition_of}
use Rattle.sheet.specs.ReadLaws.{lines_end}
use Rattle.theory_book.specs.Book.{Entry}
use Rattle.book_sheets.specs.Sheet.{site_name, site_row, link_row, heading, site_lines, link_lines, sheet_of}
use Rattle.book_sheets.specs.Rows.{row, line_row}
use Rattle.book_sheets.specs.Steps.{NamesAre, below_the_heading}
use Rattle.book_sheets.proofs.Steps.{heading_is_read, heading_step_lem, a_site_is_read, the_rest_follows, the_names_go_on}
use Rattle.book_sheets.proofs.Steps.{a_link_is_read, the_rest_follows_a_link}
use Rattle.book_sheets.specs.Reads.{Behind, Fits, ReadAs}

sites_read : (ed : Edition) (s : List ℕ) (m v k at : ℕ) (net : Network) (rest : List ℕ) → drop at s ≡ site_lines (upfrom v m) ++ rest → 2 ≤ k
    → v ≡ suc (length net.names) → length net.names + m ≤ ed.sites → length net.names + m < 1000 → NamesAre s net.names
    → Behind ed s k at net m rest
unfolding site_lines flat_map upfrom
sites_read ed s zero v k at net rest here late next room few N = record {
  line = k;
  offset = at;
  network = net;
  later = late;
  read = refl;
  follows = here;
  names = N;
  counted = omega arith;
  marks = sym (append-nil net.marks);
  links = refl;
  capacities = refl;
}
sites_read ed s (suc m) v k at net rest here late next room few N =
    let more = flat_map (λ u. line (site_row u)) (upfrom (suc v) m) ++ rest in
    let there : drop at s ≡ row (site_row v) ++ (10 ∷ more) =
    here ∙ append_assoc (line (site_row v)) (flat_map (λ u. line (site_row u)) (upfrom (suc v) m)) rest ∙ line_row _ (site_name v ∷ []) more in
    let step : k ≢ 1 = λ e. absurd (omega arith) in
    let after = with_site net (at + 2, at + (2 + length (site_name v))) 0 in
    let size = length-append net.names ((at + 2, at + (2 + length (site_name v))) ∷ []) in
    let ih = sites_read ed s m (suc v) (suc k) (at + length (row (site_row v)) + 1) after rest
    (the_rest_follows ed s k at net v more there step (omega arith) next (omega arith) N) (omega arith) (omega (arith, size)) (omega (arith, size))
    (omega (arith, size)) (the_names_go_on ed s k at net v more there step (omega arith) next (omega arith) N) in
    record {
      line = ih.line;
      offset = ih.offset;
      network = ih.network;
      later = ih.later;
      read = a_site_is_read ed s k at net v more there step (omega arith) next (omega arith) N ∙ ih.read;
      follows = ih.follows;
      names = ih.names;
      counted = omega (arith, ih.counted, size);
      marks = ih.marks ∙ append_assoc net.marks (0 ∷ []) (replicate m 0);
      links = ih.links;
      capacities = ih.capacities;
    }

-- ---- the link lines

-- the links above, in the other order, are those behind a link
fresh_behind : (xs ys : Links) → Fresh (xs ++ ys) → Fresh ys
fresh_behind [] ys f = f
fresh_behind (x ∷ xs) ys f = fresh_behind xs ys f.1

fresh_here : (done : Links) (l : ℕ × ℕ) (ls : Links) → Fresh (reverse (done ++ (l ∷ ls))) → joined done l.0 l.1 ≢ 1
unfolding joined
fresh_here done l ls f e =
    let turned : reverse (done ++ (l ∷ ls)) ≡ reverse ls ++ (l ∷ reverse done) =
    reverse-append done (l ∷ ls) ∙ ap (λ r. r ++ reverse done) (reverse-cons l ls) ∙ append_assoc (reverse ls) (l ∷ []) (reverse done) in
    let behind : Fresh (l ∷ reverse done) = fresh_behind (reverse ls) (l ∷ reverse done) (rw turned at f) in
    behind.0 ((joined_reversed done l.0 l.1).1 (is_one e))

links_read_lem : (ed : Edition) (s : List ℕ) (ls : Links) (cs : List ℕ) (k at n : ℕ) (net : Network) → drop at s ≡ link_lines ls cs → 2 ≤ k
    → ed.sizing ≡ Reserved → length cs ≡ length ls → n ≡ length net.names → n < 1000 → Each (λ l. Site n l.0 × Site n l.1) ls
    → Each (λ c. c ≤ ed.size) cs
    → NamesAre s net.names → Fresh (reverse (net.links ++ ls))
    → read_lines ed s (length s - at) k at net
    ≡ accepted (record { names = net.names; marks = net.marks; links = net.links ++ ls; capacities = net.capacities ++ cs })
unfolding link_lines
links_read_lem ed s [] [] k at n net here late network same all few E C N F =
    lines_end ed s (length s - at) k at net (omega (arith, ap length here, length-drop at s))
    ∙ rw (append-nil net.links, append-nil net.capacities)
links_read_lem ed s [] (c ∷ cs) k at n net here late network same all few E C N F = absurd (omega arith)
links_read_lem ed s (l ∷ ls) [] k at n net here late network same all few E C N F = absurd (omega arith)
links_read_lem ed s (l ∷ ls) (c ∷ cs) k at n net here late network same all few E C N F =
    let more = link_lines ls cs in
    let there : drop at s ≡ row (link_row l c) ++ (10 ∷ more) = here ∙ line_row _ (site_name l.0 ∷ site_name l.1 ∷ _ ∷ []) more in
    let step : k ≢ 1 = λ e. absurd (omega arith) in
    let first = E.0.0 in
    let second = E.0.1 in
    let fresh = fresh_here net.links l ls F in
    let one : (1 ≤ l.0) × (l.0 ≤ length net.names) = omega (arith, first) in
    let two : (1 ≤ l.1) × (l.1 ≤ length net.names) = omega (arith, second) in
    a_link_is_read ed s k at net l c more there step (omega arith) one two network C.0 N fresh
    ∙ links_read_lem ed s ls cs (suc k) (at + length (row (link_row l c)) + 1) n (with_link net l c)
    (the_rest_follows_a_link ed s k at net l c more there step (omega arith) one two network C.0 N fresh) (omega arith) network (omega arith) all few E.1 C.1 N
    (rw (append_assoc net.links (l ∷ []) ls) F)
    ∙ rw (append_assoc net.links (l ∷ []) ls, append_assoc net.capacities (c ∷ []) cs)

-- ---- the end

each-is-joined : (ls : Links) (xs : List ℕ) → Each (λ x. label ls x ≡ label ls 1) xs → all_joined ls xs ≡ true
unfolding all_joined joined
each-is-joined ls [] h = refl
each-is-joined ls (x ∷ xs) h = rw (is_same (sym h.0), each-is-joined ls xs h.1)

each-site : (P : ℕ → Type 0) (b m : ℕ) → ((x : ℕ) → b ≤ x → x < b + m → P x) → Each P (upfrom b m)
unfolding upfrom
each-site P b zero h = tt
each-site P b (suc m) h = (h b (omega arith) (omega arith), each-site P (suc b) m (λ x p q. h x (omega arith) (omega arith)))

each-place : {A : Type 0} (P : A → Type 0) (d : A) (l : List A) → ((i : ℕ) → i < length l → P (get_or l i d)) → Each P l
each-place P d [] h = tt
each-place P d (a ∷ l) h = (h 0 (omega arith), each-place P d l (λ i k. h (suc i) (omega arith)))

-- ---- its length

site_line_short : (v : ℕ) → v < 1000 → length (line (site_row v)) ≤ 7
unfolding line
site_line_short v h = omega (arith, length-append (decimal v) (10 ∷ []), decimal-within 2 v h)

site_lines_short : (b m : ℕ) → b + m ≤ 1000 → length (site_lines (upfrom b m)) ≤ 7 * m
unfolding site_lines flat_map upfrom
site_lines_short b zero h = omega arith
site_lines_short b (suc m) h = omega (
  arith,
  length-append (line (site_row b)) (flat_map (λ v. line (site_row v)) (upfrom (suc b) m)),
  site_line_short b (omega arith),
  site_lines_short (suc b) m (omega arith),
)

link_line_short : (l : ℕ × ℕ) (c : ℕ) → l.0 < 1000 → l.1 < 1000 → c ≤ SIZE → length (line (link_row l c)) ≤ 20
unfolding line
link_line_short l c p q h = omega (
  arith,
  length-append (decimal l.0) (9 ∷ (site_name l.1 ++ (9 ∷ (decimal c ++ (10 ∷ []))))),
  length-append (decimal l.1) (9 ∷ (decimal c ++ (10 ∷ []))),
  length-append (decimal c) (10 ∷ []),
  decimal-within 2 l.0 p,
  decimal-within 2 l.1 q,
  decimal-within 6 c (omega arith),
)

link_lines_short : (n : ℕ) (ls : Links) (cs : List ℕ) → n < 1000 → Each (λ l. Site n l.0 × Site n l.1) ls → Each (λ c. c ≤ SIZE) cs
    → length (link_lines ls cs) ≤ 20 * length ls
unfolding link_lines
link_lines_short n [] cs h E C = omega arith
link_lines_short n (l ∷ ls) [] h E C = omega arith
link_lines_short n (l ∷ ls) (c ∷ cs) h E C = omega (
  arith,
  length-append (line (link_row l c)) (link_lines ls cs),
  link_line_short l c (omega (arith, E.0.0)) (omega (arith, E.0.1)) C.0,
  link_lines_short n ls cs h E.1 C.1,
)

heading_short : length (line heading) ≡ 10
unfolding line
heading_short = refl

module _ (e : Entry) (fits : Fits e) where
  abbrev pub s : List ℕ
  s = sheet_of e

  abbrev pub n : ℕ
  n = e.sites

  abbrev below : List ℕ
  below = site_lines (sites n) ++ link_lines e.links e.sizes

  between : Each (λ l. Site n l.0 × Site n l.1) e.links
  between = each-place (λ l. Site n l.0 × Site n l.1) (0, 0) e.links fits.tree.ends

  within : Each (λ c. c ≤ edition1.size) e.sizes
  within = each-place (λ c. c ≤ edition1.size) 0 e.sizes fits.small

  starts : drop 0 s ≡ row heading ++ (10 ∷ below)
  unfolding sheet_of
  starts = line_row _ _ below

  some : 1 ≤ length s
  some = omega (arith, ap length starts, length-append (row heading) (10 ∷ below))

  short : length s ≤ edition1.bytes
  unfolding sheet_of
  short = omega (
    arith,
    fits.few,
    fits.tree.links,
    heading_short,
    length-append (line heading) below,
    length-append (site_lines (sites n)) (link_lines e.links e.sizes),
    site_lines_short 1 n (omega (arith, fits.few)),
    link_lines_short n e.links e.sizes (omega (arith, fits.few)) between within,
  )

  edition : edition_of editions s ≡ edition1
  unfolding edition_of
  edition = rw (heading_is_read edition1 s below refl refl starts)

  pub behind : Behind edition1 s 2 (0 + length (row heading) + 1) empty n (link_lines e.links e.sizes)
  behind = sites_read edition1 s n 1 2 (0 + length (row heading) + 1) empty (link_lines e.links e.sizes)
      (below_the_heading edition1 s below refl refl starts) (omega arith) refl (omega (arith, fits.few)) (omega (arith, fits.few)) (λ i l. absurd (omega arith))

  -- the network of the sheet
  abbrev pub net : Network
  net = record { names = behind.network.names; marks = replicate n 0; links = e.links; capacities = e.sizes }

  counted : length net.names ≡ n
  counted = omega (arith, behind.counted)

  fresh : Fresh (reverse (behind.network.links ++ e.links))
  fresh = rw behind.links (tree_links_are_fresh (tree_reversed fits.tree))

  lines_are_read : read_lines edition1 s (length s) 1 0 empty ≡ accepted net
  lines_are_read =
      let all : length s ≡ length s - 0 = omega arith in
      ap (λ fuel. read_lines edition1 s fuel 1 0 empty) all ∙ heading_step_lem edition1 s below refl refl starts empty ∙ behind.read
      ∙ links_read_lem edition1 s e.links e.sizes behind.line behind.offset n behind.network behind.follows behind.later refl fits.sized
      (sym counted) (omega (arith, fits.few)) between within behind.names fresh
      ∙ rw (behind.marks, behind.links, behind.capacities)

  finished : finish net ≡ accepted net
  unfolding finish
  finished = rw (
    counted,
    le-leb 2 n fits.tree.big,
    each-is-joined e.links (sites n) (each-site (λ x. label e.links x ≡ label e.links 1) 1 n (λ x p q. fits.tree.whole x (omega arith))),
  )

  pub the_sheet_is_read_as_its_entry : ReadAs e net
  unfolding read_as and_then
  the_sheet_is_read_as_its_entry = record {
    read = rw (edition, le-leb 1 (length s) some, le-leb (length s) edition1.bytes short, lines_are_read) finished;
    count = counted;
    names = λ v p. behind.names (v - 1) (omega (arith, counted)) ∙ ap site_name (omega arith);
    marks = refl;
    links = refl;
    capacities = refl;
  }

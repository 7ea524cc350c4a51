-- The book holds every tree that is to stand in it with every list of sizes, nothing else, each once, in the card's order; and no other list does so.
use Rattle.std.specs.Prelude.{◌≡◌, ◌≢◌, ◌↔◌, List, length, get_or}
use Rattle.std.proofs.Math.Path.{refl, ap}
use Rattle.std.proofs.Common.{◌∙◌, arith}
use Rattle.std.proofs.Math.Logic.{inl, inr}
use Prim.Native.Nat.{ℕ, suc, ◌-◌, ◌≤◌, ◌<◌}
use Rattle.lists.specs.Numbers.{upfrom}
use Rattle.model.specs.Flows.{Links}
use Rattle.theory_book.specs.Listing.{In, Ascends, Before, words}
use Rattle.theory_book.specs.ListLaws.{from_in}
use Rattle.theory_book.proofs.ListLaws.{either, in_map, map_in, in_flat, flat_in, in_from, ascends_from, places}
use Rattle.theory_book.proofs.ListLaws.{ascends_map, ascends_flat, in_words, words_in, ascends_words, before-apart, before-chain, one_list}
use Rattle.theory_book.specs.Book.{Entry, Lower, Listed, Earlier, trees_of, size_lists, part_of, book}
use Rattle.theory_book.proofs.Trees.{lower-apart, lower-chain, the_trees_are_drawn, drawn_trees_are_listed, the_trees_ascend}
use Rattle.theory_book.specs.Entries.{Sooner, sized_by}

earlier_apart : (e : Entry) → Earlier e e → ⊥
earlier_apart e (inl h) = omega arith
earlier_apart e (inr h) = either h.1 (before-apart Lower lower-apart e.links) (λ b. before-apart ◌<◌ (λ x l. omega arith) e.sizes b.1)

pair-chain : (e f g : Entry) → Sooner e f → Sooner f g → Sooner e g
pair-chain e f g (inl p) (inl q) = inl (before-chain Lower lower-chain e.links f.links g.links p q)
pair-chain e f g (inl p) (inr q) = inl (rw q.0 at p)
pair-chain e f g (inr p) (inl q) = inl (rw p.0 q)
pair-chain e f g (inr p) (inr q) = inr (p.0 ∙ q.0, before-chain ◌<◌ (λ x y z u v. omega arith) e.sizes f.sizes g.sizes p.1 q.1)

earlier_chain : (e f g : Entry) → Earlier e f → Earlier f g → Earlier e g
earlier_chain e f g (inl p) (inl q) = inl (omega arith)
earlier_chain e f g (inl p) (inr q) = inl (omega arith)
earlier_chain e f g (inr p) (inl q) = inl (omega arith)
earlier_chain e f g (inr p) (inr q) = inr (p.0 ∙ q.0, pair-chain e f g p.1 q.1)

in_part_lem : (most n : ℕ) (e : Entry) → In e (part_of most n)
    → (ls : Links) × In ls (trees_of n) × ((c : List ℕ) × In c (words (upfrom 0 (suc most)) (n - 1)) × (e ≡ record { sites = n; links = ls; sizes = c }))
unfolding part_of size_lists
in_part_lem most n e h =
    let q = flat_in (sized_by most n) (trees_of n) e h in
    let s = map_in (λ c. record { sites = n; links = q.0; sizes = c }) (words (upfrom 0 (suc most)) (n - 1)) e q.2 in
    (q.0, q.1, s)

module _ (least numbers most : ℕ) where
  -- every entry is a tree of the book's numbers of sites, as the card writes it, with sizes up to the greatest
  pub every_entry_is_a_tree_with_its_sizes : 2 ≤ least → (e : Entry) → In e (book least numbers most) → Listed least numbers most e
  unfolding book
  every_entry_is_a_tree_with_its_sizes big e h =
      let r = flat_in (part_of most) (upfrom least numbers) e h in
      let n = r.0 in
      let k = from_in least numbers n r.1 in
      let q = in_part_lem most n e r.2 in
      let w = words_in (upfrom 0 (suc most)) (n - 1) q.2.0 q.2.1 in
      let D = the_trees_are_drawn n (omega arith) q.0 q.1 in
      rw q.2.2 (record {
        enough = k.0;
        no_more = k.1;
        drawn = D;
        sized = omega (arith, w.0, D.tree.links);
        small = λ x i. omega (arith, from_in 0 (suc most) x (w.1 x i));
      })

  -- and every such tree with such sizes is an entry
  pub every_tree_with_its_sizes_is_an_entry : 2 ≤ least → (e : Entry) → Listed least numbers most e → In e (book least numbers most)
  unfolding book part_of size_lists
  every_tree_with_its_sizes_is_an_entry big e L =
      let n = e.sites in
      let D = L.drawn in
      in_flat (part_of most) (upfrom least numbers) n e (in_from least numbers n L.enough L.no_more)
      (in_flat (sized_by most n) (trees_of n) e.links e (drawn_trees_are_listed n (omega (arith, L.enough)) e.links D)
      (in_map (λ c. record { sites = n; links = e.links; sizes = c }) (words (upfrom 0 (suc most)) (n - 1)) e.sizes e refl
      (in_words (upfrom 0 (suc most)) (n - 1) e.sizes (omega (arith, L.sized, D.tree.links))
      (λ x i. in_from 0 (suc most) x (omega arith) (omega (arith, L.small x i))))))

  -- the entries ascend in the card's order
  pub the_book_ascends : Ascends Earlier (book least numbers most)
  unfolding book part_of size_lists
  the_book_ascends = ascends_flat ◌<◌ Earlier (part_of most) (upfrom least numbers)
      (λ n i. ascends_flat (Before Lower) Earlier (sized_by most n) (trees_of n)
      (λ ls j. ascends_map (Before ◌<◌) Earlier (λ c. record { sites = n; links = ls; sizes = c }) (words (upfrom 0 (suc most)) (n - 1))
      (λ x y b. inr (refl, inr (refl, b))) (ascends_words ◌<◌ (upfrom 0 (suc most)) (ascends_from 0 (suc most)) (n - 1)))
      (λ a b x y r u v.
      let p = map_in (λ c. record { sites = n; links = a; sizes = c }) (words (upfrom 0 (suc most)) (n - 1)) x u in
      let q = map_in (λ c. record { sites = n; links = b; sizes = c }) (words (upfrom 0 (suc most)) (n - 1)) y v in
      rw (p.2, q.2) (inr (refl, inl r)))
      (the_trees_ascend n))
      (λ m n x y r u v. inl (rw (sites-of m x u, sites-of n y v) r))
      (ascends_from least numbers)
    where
      sites-of : (n : ℕ) (e : Entry) → In e (part_of most n) → e.sites ≡ n
      sites-of n e h = ap (λ (t : Entry). t.sites) (in_part_lem most n e h).2.2

  -- so each comes once: entries at two places differ
  pub each_entry_comes_once : (d : Entry) (i j : ℕ) → i < j → j < length (book least numbers most)
      → get_or (book least numbers most) i d ≢ get_or (book least numbers most) j d
  each_entry_comes_once d i j u v e =
      earlier_apart (get_or (book least numbers most) j d) (rw e at (places Earlier (book least numbers most) d the_book_ascends i j u v))

  -- the card's words alone fix the list: any list in its order that holds just what is to stand in it is the book
  pub the_book_is_the_only_list : 2 ≤ least → (l : List Entry) → Ascends Earlier l → ((e : Entry) → In e l ↔ Listed least numbers most e)
      → l ≡ book least numbers most
  the_book_is_the_only_list big l a h = one_list Earlier earlier_apart earlier_chain l (book least numbers most) a the_book_ascends
      (λ e i. every_tree_with_its_sizes_is_an_entry big e ((h e).0 i)) (λ e i. (h e).1 (every_entry_is_a_tree_with_its_sizes big e i))

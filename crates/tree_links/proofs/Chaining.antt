-- Making the chains, link by link.
use mathlib.Core.Path.{◌≡◌, refl, sym, ap₂, ◌∙◌}
use mathlib.Core.List.{List}
use Prim.Native.Nat.{ℕ, suc, ◌+◌, ◌*◌, ◌≤◌, ◌<◌}
use native.Mathlib.Omega.{arith}
use native.Mathlib.Numerals.{add-one}
use lib.Seq.{get_or-set_same, get_or-set_other}
use lib.ListN.{length, set, replicate, length-set}
use Rattle.model.specs.Limits.{CHAINS, PLACES, SITES}
use Rattle.lists.specs.Numbers.{pick, is, look}
use Rattle.lists.specs.Places.{look-zeros}
use Rattle.lists.specs.Sums.{pick_same, pick_other, pick_const, same?, is_same, is-other}
use Rattle.tree.specs.Offer.{links}
use Rattle.tree.specs.Links.{links-at-site}
use Rattle.tree.specs.declared.accepted.AcceptedTree.{AcceptedTree}
use Rattle.tree_links.specs.Chains.{Placed, last_at, offer-placed}

-- the number y stored for both sites of a link
stored : (l : List ℕ) (a b y x : ℕ) → a < length l → b < length l → look (set (set l a y) b y) x ≡ pick (pick a x 1 (is b x)) 1 y (look l x)
stored l a b y x p q = same? b x
    (λ e. rw (← e) (get_or-set_same (set l a y) b y 0 (omega (arith, length-set l a y))
    ∙ sym (pick_same (rw (is_same {u = b} refl) (pick_const a b 1)) y (look l b))))
    (λ d. get_or-set_other (set l a y) b x y 0 (λ z. d (sym z)) ∙ same? a x
    (λ e. rw (← e) (get_or-set_same l a y 0 p ∙ sym (pick_same (pick_same refl 1 (is b a)) y (look l a))))
    (λ e. get_or-set_other l a x y 0 (λ z. e (sym z))
    ∙ sym (pick_other {u = pick a x 1 (is b x)} {v = 1} (λ z. omega (arith, rw (pick_other e, is-other d) at z)) y (look l x))))

-- the sites of a link of a tree are places of the list
module _ (t : AcceptedTree) (j : ℕ) (h : j < length t.one.now) where
  pub first_in_place : look t.one.now j ≤ SITES
  first_in_place = ((offer-placed t.within.within).sites j h).0

  pub second_in_place : look t.two.now j ≤ SITES
  second_in_place = ((offer-placed t.within.within).sites j h).1

-- the first j links are chained
pub record ChainedTo (a b : List ℕ) (j : ℕ) (last before : List ℕ) : Type 0 where
  pub places : (length last ≡ PLACES) × (length before ≡ CHAINS)
  pub lasts : (v : ℕ) → v ≤ SITES → look last v ≡ last_at (links a b) j v
  pub befores : (i : ℕ) → i < j → (look before (2 * i) ≡ last_at (links a b) i (look a i)) × (look before (2 * i + 1) ≡ last_at (links a b) i (look b i))
  pub behind : (i : ℕ) → 2 * j ≤ i → look before i ≡ 0

pub chain-start : (a b : List ℕ) → ChainedTo a b 0 (replicate PLACES 0) (replicate CHAINS 0)
unfolding last_at
chain-start a b = record {
  places = (refl, refl);
  lasts = λ v h. look-zeros PLACES v;
  befores = λ i l. absurd (omega arith);
  behind = λ i l. look-zeros CHAINS i;
}

pub chain_next : {a b : List ℕ} {j : ℕ} {last before : List ℕ} → Placed a b → j < length a → ChainedTo a b j last before
    → ChainedTo a b (j + 1) (set (set last (look a j) (j + 1)) (look b j) (j + 1))
    (set (set before (2 * j) (look last (look a j))) (2 * j + 1) (look last (look b j)))
unfolding last_at
chain_next {a} {b} {j} {last} {before} p h c =
    let s = p.sites j h in
    let x = look last (look a j) in
    let y = look last (look b j) in
    let inner = set before (2 * j) x in
    record {
      places = (simp length-set c.places.0, simp length-set c.places.1);
      lasts = λ v l. rw add-one (stored last (look a j) (look b j) (suc j) v (omega (arith, c.places)) (omega (arith, c.places))
          ∙ ap₂ (λ t u. pick t 1 (suc j) u) (sym (links-at-site a b v j h (omega (arith, p.seconds)))) (c.lasts v l));
      befores = λ i l. same? i j
          (λ e. rw e (
            get_or-set_other inner (2 * j + 1) (2 * j) y 0 (λ z. omega arith)
                ∙ get_or-set_same before (2 * j) x 0 (omega (arith, c.places, p.few))
                ∙ c.lasts (look a j) s.0,
            get_or-set_same inner (2 * j + 1) y 0 (omega (arith, c.places, p.few, length-set before (2 * j) x)) ∙ c.lasts (look b j) s.1,
          ))
          (λ d. let k = c.befores i (omega arith) in (
            get_or-set_other inner (2 * j + 1) (2 * i) y 0 (λ z. omega arith) ∙ get_or-set_other before (2 * j) (2 * i) x 0 (λ z. omega arith) ∙ k.0,
            get_or-set_other inner (2 * j + 1) (2 * i + 1) y 0 (λ z. omega arith) ∙ get_or-set_other before (2 * j) (2 * i + 1) x 0 (λ z. omega arith) ∙ k.1,
          ));
      behind = λ i l.
          get_or-set_other inner (2 * j + 1) i y 0 (λ z. omega arith) ∙ get_or-set_other before (2 * j) i x 0 (λ z. omega arith) ∙ c.behind i (omega arith);
    }

-- The words of a row: one row made from another, word by word, and two rows set against each other.
use mathlib.Core.Path.{◌≡◌, refl, sym, ap, ap₂, ◌∙◌}
use mathlib.Core.List.{List}
use Prim.Native.Nat.{ℕ, ◌+◌, ◌*◌, ◌/◌, ◌%◌, ◌≤◌, ◌<◌}
use native.Mathlib.Decide.{dec_lt}
use native.Mathlib.Nat.{zero-div}
use native.Mathlib.Omega.{arith}
use lib.Bits.{bit_xor}
use lib.ListN.{length, set, length-set, get_or-eq_default}
use lib.Seq.{get_or-set_same, get_or-set_other}
use Rattle.model.specs.Limits.{SITES, WORDS}
use Rattle.lists.specs.Numbers.{is, differ, look}
use Rattle.lists.specs.Sums.{same?, cases, is_same, is-other, differ-other}
use Rattle.tree_sets.specs.Members.{bit, member}
use Rattle.log_paths.specs.Tables.{in_table, PathBy}
use Rattle.log_paths.specs.Rows.{single, Extended, Put}
use Rattle.log_paths.specs.Laws.{what_is_no_link_separates_nothing, separates-from}
use Rattle.log_paths.proofs.Bits.{bit_xor_lem, bit-single, differ-none}

-- f stands at q places from b on, the rest is as it was
pub record Patch (f : ℕ → ℕ) (b q : ℕ) (was now : List ℕ) : Type 0 where
  pub long : length now ≡ length was
  pub done : (i : ℕ) → i < q → look now (b + i) ≡ f i
  pub low : (p : ℕ) → p < b → look now p ≡ look was p
  pub high : (p : ℕ) → b + q ≤ p → look now p ≡ look was p

pub patch_start : (f : ℕ → ℕ) (b : ℕ) (was : List ℕ) → Patch f b 0 was was
patch_start f b was = record { long = refl; done = λ i l. absurd (omega arith); low = λ p l. refl; high = λ p l. refl }

pub patch_next : {f : ℕ → ℕ} {b q : ℕ} {was now : List ℕ} {v : ℕ} → Patch f b q was now → b + q < length was → v ≡ f q
    → Patch f b (q + 1) was (set now (b + q) v)
patch_next {f} {b} {q} {was} {now} {v} t h e = record {
  long = length-set now (b + q) v ∙ t.long;
  done = λ i l. same? i q
      (λ z. rw z (get_or-set_same now (b + q) v 0 (omega (arith, t.long)) ∙ e))
      (λ z. get_or-set_other now (b + q) (b + i) v 0 (λ w. z (omega arith)) ∙ t.done i (omega arith));
  low = λ p l. get_or-set_other now (b + q) p v 0 (λ w. omega arith) ∙ t.low p l;
  high = λ p l. get_or-set_other now (b + q) p v 0 (λ w. omega arith) ∙ t.high p (omega arith);
}

pub patch_extended : (near far j : ℕ) (was now : List ℕ) → Patch (λ q. bit_xor (look was (near * WORDS + q)) (single q j)) (far * WORDS) WORDS was now
    → Extended near far j was now
unfolding in_table
patch_extended near far j was now t = record {
  long = t.long;
  new = λ k l.
      let whole : k / 64 * 64 + k % 64 ≡ k = omega arith in
      ap (λ x. bit x (k % 64)) (t.done (k / 64) (omega arith))
      ∙ bit-single (look was (near * WORDS + k / 64)) (k / 64) j (k % 64) (omega arith)
      ∙ ap (λ i. differ (bit (look was (near * WORDS + k / 64)) (k % 64)) (is i j)) whole;
  kept = λ v k d l. ap (λ x. bit x (k % 64)) (cases (dec_lt v far)
      (λ z. t.low (v * WORDS + k / 64) (omega arith))
      (λ z. t.high (v * WORDS + k / 64) (omega arith)));
}

-- one number more in a row that did not have it
pub put-row : (was : List ℕ) (site j : ℕ) → site * WORDS + j / 64 < length was → j < SITES → in_table was j site ≡ 0
    → let place = site * WORDS + j / 64 in Put site j was (set was place (bit_xor (look was place) (single (j / 64) j)))
unfolding in_table
put-row was site j room low none =
    let place = site * WORDS + j / 64 in
    let word = bit_xor (look was place) (single (j / 64) j) in
    record {
      long = length-set was place word;
      rows = λ v k l. same? v site
          (λ e. same? (k / 64) (j / 64)
          (λ q. let here : v * WORDS + k / 64 ≡ place = omega arith in
          let whole : j / 64 * 64 + k % 64 ≡ k = omega arith in
          ap (λ i. bit (look (set was place word) i) (k % 64)) here
          ∙ ap (λ x. bit x (k % 64)) (get_or-set_same was place word 0 room)
          ∙ bit-single (look was place) (j / 64) j (k % 64) (omega arith)
          ∙ ap (λ i. differ (bit (look was place) (k % 64)) (is i j)) whole
          ∙ same? k j
          (λ z. rw (z, is_same {u = j} {v = j} refl, is_same e, e) (rw none (differ-other {u = 0} {v = 1} (λ w. omega arith) ∙ omega arith)))
          (λ z. rw (is-other z, here, differ-none (bit (look was place) (k % 64)) (omega arith)) (omega arith)))
          (λ q. rw (is-other {u = k} {v = j} (λ z. q (ap (λ i. i / 64) z)), get_or-set_other was place (v * WORDS + k / 64) word 0 (λ z. q (omega arith)))
          (omega arith)))
          (λ d. rw (is-other d, get_or-set_other was place (v * WORDS + k / 64) word 0 (λ z. d (omega arith))) (omega arith));
    }

-- ---- two rows set against each other

-- the words where two rows differ are the path
pub path_by : (rows words : List ℕ) (a b : ℕ) → length words ≡ WORDS
    → ((q : ℕ) → q < WORDS → look words q ≡ bit_xor (look rows (a * WORDS + q)) (look rows (b * WORDS + q))) → PathBy rows a b (record { words = words })
unfolding member in_table
path_by rows words a b long each ls n T t p q j = cases (dec_lt j SITES)
    (λ l. ap (λ x. bit x (j % 64)) (each (j / 64) (omega arith))
    ∙ bit_xor_lem (look rows (a * WORDS + j / 64)) (look rows (b * WORDS + j / 64)) (j % 64)
    ∙ ap₂ differ (t.told j a l p) (t.told j b l q)
    ∙ separates-from T j t.root a b t.root-site p q)
    (λ l. rw (get_or-eq_default words 0 {n = j / 64} (omega arith), zero-div)
    (sym (what_is_no_link_separates_nothing T j a b (omega (arith, T.links, t.few)) p q)))

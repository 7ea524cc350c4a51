-- Sums carried by a map of places, as the links of a region are carried to those of the joined tree: each place is hit as often as places are carried to it.
use Rattle.std.specs.Prelude.{◌≡◌, refl, ◌≢◌, ℕ, zero, suc, ◌+◌, ◌*◌, ◌<◌}
use Rattle.std.proofs.Common.{sym, arith}
use Rattle.lists.specs.Numbers.{is, sum}
use Rattle.lists.specs.Sums.{is_same, is-other, same?, sum-none, sum-add, sum-eq, sum-single}

-- how many of the first n places are carried to place j
unfoldable pub hits : ℕ → (ℕ → ℕ) → ℕ → ℕ
hits n to j = sum n (λ i. is (to i) j)

pub sum_carried : (n m : ℕ) (to g : ℕ → ℕ) → ((i : ℕ) → i < n → to i < m) → sum n (λ i. g (to i)) ≡ sum m (λ j. hits n to j * g j)
unfolding sum hits
sum_carried zero m to g h = omega (arith, sum-none m, sum-eq m (λ j. 0 * g j) (λ j. 0) (λ j l. omega arith))
sum_carried (suc n) m to g h =
    let own : is (to n) (to n) ≡ 1 = is_same refl in
    omega (
      arith,
      sum_carried n m to g (λ i l. h i (omega arith)),
      sum-eq m (λ j. (hits n to j + is (to n) j) * g j) (λ j. hits n to j * g j + is (to n) j * g j) (λ j l. omega arith),
      sum-add m (λ j. hits n to j * g j) (λ j. is (to n) j * g j),
      rw own at (sum-single m (to n) (λ j. is (to n) j * g j) (h n (omega arith))
          (λ j l d. rw (is-other {u = to n} {v = j} (λ e. d (sym e))) (omega arith))),
    )

pub hits-one : (n : ℕ) (to : ℕ → ℕ) (i : ℕ) → i < n → ((k : ℕ) → k < n → to k ≡ to i → k ≡ i) → hits n to (to i) ≡ 1
unfolding hits
hits-one n to i l h =
    omega (arith, is_same {u = to i} refl, sum-single n i (λ k. is (to k) (to i)) l (λ k p d. is-other (λ e. d (h k p e))))

pub hits-none : (n : ℕ) (to : ℕ → ℕ) (j : ℕ) → ((i : ℕ) → i < n → to i ≢ j) → hits n to j ≡ 0
unfolding hits
hits-none n to j h = omega (arith, sum-none n, sum-eq n (λ i. is (to i) j) (λ i. 0) (λ i l. is-other (h i l)))

-- ---- values spread to where their places are carried

unfoldable pub spread : ℕ → (ℕ → ℕ) → (ℕ → ℕ) → ℕ → ℕ
spread n to u j = sum n (λ i. is (to i) j * u i)

pub spread-own : (n : ℕ) (to u : ℕ → ℕ) (i : ℕ) → i < n → ((k : ℕ) → k < n → to k ≡ to i → k ≡ i) → spread n to u (to i) ≡ u i
unfolding spread
spread-own n to u i l h =
    let own : is (to i) (to i) ≡ 1 = is_same refl in
    omega (
      arith,
      rw own at (sum-single n i (λ k. is (to k) (to i) * u k) l (λ k p d. rw (is-other {u = to k} {v = to i} (λ e. d (h k p e))) (omega arith))),
    )

pub spread_none : (n : ℕ) (to u : ℕ → ℕ) (j : ℕ) → ((i : ℕ) → i < n → to i ≡ j → u i ≡ 0) → spread n to u j ≡ 0
unfolding spread
spread_none n to u j h = omega (
  arith,
  sum-none n,
  sum-eq n (λ i. is (to i) j * u i) (λ i. 0) (λ i l. same? (to i) j (λ e. rw (h i l e) (omega arith)) (λ d. rw (is-other d) (omega arith))),
)

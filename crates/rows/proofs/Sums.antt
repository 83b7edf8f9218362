-- A loop that sums rows: what it has and the sum of the rows that are left are the sum of all.
use Prim.Native.Nat.{ℕ, ◌+◌, ◌-◌, ◌≤◌, ◌<◌}
use mathlib.Core.Path.{◌≡◌, ap, ◌∙◌}
use mathlib.Core.List.{[], ◌∷◌}
use native.Mathlib.Nat.{zero-add}
use native.Mathlib.Omega.{arith}
use Rattle.rules.specs.Lists.{total}
use Rattle.rules.specs.Lent.{rows_from}
use Rattle.rules.proofs.Appended.{total-append}
use Rattle.rules.proofs.Rows.{rows_from-append, rows_next, rows_end}

abbrev pub Summed : (ℕ → ℕ) → ℕ → ℕ → ℕ → Type 0
Summed f n sum i = sum + total (rows_from f i (n - i)) ≡ total (rows_from f 0 n)

module _ (f : ℕ → ℕ) (n : ℕ) where
  pub sum-starts : Summed f n 0 0
  sum-starts =
      let all : n - 0 ≡ n = omega arith in
      rw all (zero-add (total (rows_from f 0 n)))

  pub sum-next : (sum i x : ℕ) → i < n → x ≡ f i → Summed f n sum i → Summed f n (sum + x) (i + 1)
  unfolding total
  sum-next sum i x h e s = omega (arith, ap total (rows_next f i n h))

  pub sum-ends : (sum i : ℕ) → n ≤ i → Summed f n sum i → sum ≡ total (rows_from f 0 n)
  unfolding total
  sum-ends sum i h s = omega (arith, ap total (rows_end f i n h))

-- the rows of one of n, after those before it, stand within those of all
pub part-within : (f : ℕ → ℕ) (i n : ℕ) → i < n → total (rows_from f 0 i) + f i ≤ total (rows_from f 0 n)
unfolding total
part-within f i n h =
    let all : n ≡ i + (n - i) = omega arith in
    let split : total (rows_from f 0 n) ≡ total (rows_from f 0 i) + total (rows_from f i (n - i)) = ap (λ (m : ℕ). total (rows_from f 0 m)) all ∙ ap total (rows_from-append f 0 i (n - i)) ∙ total-append (rows_from f 0 i) (rows_from f (0 + i) (n - i)) ∙ ap (λ (k : ℕ). total (rows_from f 0 i) + total (rows_from f k (n - i))) (zero-add i) in
    omega (arith, ap total (rows_next f i n h))

-- a sum with one number more
pub total-last : (f : ℕ → ℕ) (m : ℕ) → total (rows_from f 0 (m + 1)) ≡ total (rows_from f 0 m) + f m
unfolding rows_from total
total-last f m = omega (arith, ap total (rows_from-append f 0 m 1), total-append (rows_from f 0 m) (f (0 + m) ∷ []), ap f (zero-add m))

-- One above the largest number of the rows with p, by a loop.
use Prim.Native.Nat.{ℕ, ◌+◌, ◌-◌, ◌≤◌, ◌<◌, max}
use mathlib.Core.Path.{◌≡◌, refl, ap}
use mathlib.Core.List.{List, [], ◌∷◌, map}
use mathlib.Core.Bool.{Bool, true, false}
use native.Mathlib.Nat.{sub-zero}
use native.Mathlib.Omega.{arith}
use Rattle.rules.specs.Lists.{keep, one_above}
use Rattle.rules.specs.Lent.{rows_from}
use Rattle.rules.proofs.Rows.{rows_next, rows_end}

-- at row i, with v so far, v and what the rows that are left give are what all give
pub record Risen {A : Type 0} (p : A → Bool) (number : A → ℕ) (f : ℕ → A) (n i v : ℕ) : Type 0 where
  pub left : max v (one_above (map number (keep p (rows_from f i (n - i))))) ≡ one_above (map number (keep p (rows_from f 0 n)))

module _ {A : Type 0} {p : A → Bool} {number : A → ℕ} {f : ℕ → A} {n : ℕ} where
  pub rise-starts : Risen p number f n 0 0
  rise-starts = record { left = rw sub-zero (omega arith) }

  module _ {i v : ℕ} (k : Risen p number f n i v) where
    -- row i has p
    pub rise : {u : ℕ} → i < n → p (f i) ≡ true → u ≡ max v (number (f i) + 1) → Risen p number f n (i + 1) u
    unfolding keep one_above
    rise h e s = record { left = omega (arith, k.left, rw e at (ap (λ (l : List A). one_above (map number (keep p l))) (rows_next f i n h))) }

    -- row i does not
    pub rise-none : {u : ℕ} → i < n → p (f i) ≡ false → u ≡ v → Risen p number f n (i + 1) u
    unfolding keep
    rise-none h e s = record { left = omega (arith, k.left, rw e at (ap (λ (l : List A). one_above (map number (keep p l))) (rows_next f i n h))) }

    -- no row is left
    pub rise-ends : n ≤ i → v ≡ one_above (map number (keep p (rows_from f 0 n)))
    unfolding keep one_above
    rise-ends h = omega (arith, k.left, ap (λ (l : List A). one_above (map number (keep p l))) (rows_end f i n h))

-- every row has it, and is the number
pub rows-themselves : (xs : List ℕ) → map (λ x. x) (keep (λ _. true) xs) ≡ xs
unfolding keep
rows-themselves [] = refl
rows-themselves (x ∷ xs) = ap (λ (l : List ℕ). x ∷ l) (rows-themselves xs)

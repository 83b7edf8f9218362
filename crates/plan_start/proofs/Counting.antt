-- A loop that counts the rows with p: with v counted at row i, v and those that are left are all.
use Prim.Native.Nat.{ℕ, ◌+◌, ◌-◌, ◌≤◌, ◌<◌}
use mathlib.Core.Path.{◌≡◌, refl, ap}
use mathlib.Core.List.{List}
use mathlib.Core.Bool.{Bool, true, false, cond}
use native.Mathlib.Nat.{sub-zero}
use native.Mathlib.Omega.{arith}
use lib.ListN.{length}
use Rattle.rules.specs.Lists.{keep}
use Rattle.rules.specs.Lent.{rows_from}
use Rattle.rules.proofs.Rows.{rows_next, rows_end}

pub record Counted {A : Type 0} (p : A → Bool) (f : ℕ → A) (n i v : ℕ) : Type 0 where
  pub within : v ≤ i
  pub left : v + length (keep p (rows_from f i (n - i))) ≡ length (keep p (rows_from f 0 n))

module _ {A : Type 0} {p : A → Bool} {f : ℕ → A} {n : ℕ} where
  pub count-starts : Counted p f n 0 0
  count-starts = record { within = omega arith; left = rw sub-zero (omega arith) }

  module _ {i v : ℕ} (k : Counted p f n i v) where
    -- row i has p
    pub count-one : {u : ℕ} → i < n → p (f i) ≡ true → u ≡ v + 1 → Counted p f n (i + 1) u
    unfolding keep
    count-one h e s = record { within = omega arith; left = omega (arith, k.left, rw e at (ap (λ (l : List A). length (keep p l)) (rows_next f i n h))) }

    -- row i does not
    pub count_none : {u : ℕ} → i < n → p (f i) ≡ false → u ≡ v → Counted p f n (i + 1) u
    unfolding keep
    count_none h e s = record { within = omega arith; left = omega (arith, k.left, rw e at (ap (λ (l : List A). length (keep p l)) (rows_next f i n h))) }

    -- row i, whether it has p or not
    pub count_row : {u : ℕ} → i < n → u ≡ cond (p (f i)) (v + 1) v → Counted p f n (i + 1) u
    count_row {u} h s = go (p (f i)) refl s
      where
        go : (b : Bool) → p (f i) ≡ b → u ≡ cond b (v + 1) v → Counted p f n (i + 1) u
        go true e s' = count-one h e s'
        go false e s' = count_none h e s'

    -- no row is left
    pub count-ends : n ≤ i → v ≡ length (keep p (rows_from f 0 n))
    unfolding keep
    count-ends h = omega (arith, k.left, ap (λ (l : List A). length (keep p l)) (rows_end f i n h))

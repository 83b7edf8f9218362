-- A loop that looks for the first row with p: at row i none of those from row a on has it.
use Prim.Native.Nat.{ℕ, ◌+◌, ◌-◌, ◌≤◌, ◌<◌}
use mathlib.Core.Path.{◌≡◌, ap, ◌∙◌}
use mathlib.Core.Bool.{Bool, true, false, not}
use native.Mathlib.Nat.{sub-zero, zero-add}
use native.Mathlib.Omega.{arith}
use Rattle.rules.specs.Lists.{leading}
use Rattle.rules.specs.Lent.{rows_from}
use Rattle.rules.proofs.Rows.{rows_next, rows_end}

-- v rows stand before the first with p
pub record Sought {A : Type 0} (p : A → Bool) (f : ℕ → A) (n a i v : ℕ) : Type 0 where
  pub from : a ≤ i
  pub up_to : i ≤ n
  pub test : (i - a) + leading (λ x. not (p x)) (rows_from f i (n - i)) ≡ v

module _ {A : Type 0} {p : A → Bool} {f : ℕ → A} {n : ℕ} where
  -- from the first row on, or from row a on
  pub seek-starts : Sought p f n 0 0 (leading (λ x. not (p x)) (rows_from f 0 n))
  seek-starts = record { from = omega arith; up_to = omega arith; test = zero-add _ ∙ ap (λ (m : ℕ). leading (λ x. not (p x)) (rows_from f 0 m)) (sub-zero n) }

  pub seek-starts-at : (a : ℕ) → a ≤ n → Sought p f n a a (leading (λ x. not (p x)) (rows_from f a (n - a)))
  seek-starts-at a h = record { from = omega arith; up_to = h; test = omega arith }

  module _ {a i v : ℕ} (s : Sought p f n a i v) where
    -- row i does not have it
    pub seek-on : i < n → p (f i) ≡ false → Sought p f n a (i + 1) v
    unfolding leading
    seek-on h e = record { from = omega arith; up_to = omega arith; test = omega (arith, rw e at (ap (leading (λ x. not (p x))) (rows_next f i n h)), s.test) }

    -- row i has it
    pub seek_found : i < n → p (f i) ≡ true → i - a ≡ v
    unfolding leading
    seek_found h e = omega (arith, rw e at (ap (leading (λ x. not (p x))) (rows_next f i n h)), s.test)

    -- no row has it
    pub seek-ends : n ≤ i → i - a ≡ v
    unfolding leading
    seek-ends h = omega (arith, ap (leading (λ x. not (p x))) (rows_end f i n h), s.test)

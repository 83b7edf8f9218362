-- The greatest number with a property, as a loop that stops at the first failure finds it.
use Prim.Native.Nat.{ℕ, zero, suc, ◌≤◌, ◌<◌}
use mathlib.Core.Path.{◌≡◌, refl, sym, subst, ap, ◌∙◌}
use mathlib.Core.Logic.{inl, inr}
use mathlib.Core.Bool.{Bool, true, false, cond, ◌&&◌, and-false}
use native.Mathlib.Nat.{eq-or-lt_of_le, le_of_suc-le-suc}
use native.Mathlib.Omega.{arith}
use borrow.Author.Tests.{lt-leb, leb-false}
use lib.Dec.{leb}
use Rattle.rules.specs.Windows.{up_to, greatest}

module _ (p : ℕ → Bool) where
  -- past the first failure p does not hold up to j
  pub up_to-past : (k j : ℕ) → p (suc k) ≡ false → k < j → up_to p j ≡ false
  unfolding up_to
  up_to-past k zero e h = absurd (omega arith)
  up_to-past k (suc j) e h =
      elim (eq-or-lt_of_le (le_of_suc-le-suc h)) [
        | inl g ↦ rw (ap (λ (n : ℕ). p (suc n)) (sym g) ∙ e) (and-false (up_to p j))
        | inr g ↦ rw (up_to-past k j e g)
      ]

  -- k has p, or is 0, and no number above k, up to n, has it
  pub greatest-is : (n k : ℕ) → k ≤ n → (0 < k → p k ≡ true) → ((j : ℕ) → k < j → p j ≡ false) → greatest p n ≡ k
  unfolding greatest
  greatest-is zero k h holds above = omega arith
  greatest-is (suc n) k h holds above =
      elim (eq-or-lt_of_le h) [
        | inl g ↦ rw (subst (λ (m : ℕ). p m ≡ true) g (holds (omega arith))) (sym g)
        | inr g ↦ rw (above (suc n) g) (greatest-is n k (le_of_suc-le-suc g) holds above)
      ]

  -- it is one of the numbers up to n
  pub greatest-within : (n : ℕ) → greatest p n ≤ n
  unfolding greatest
  greatest-within zero = omega arith
  greatest-within (suc n) = go (p (suc n)) (greatest-within n)
    where
      go : (b : Bool) → greatest p n ≤ n → cond b (suc n) (greatest p n) ≤ suc n
      go true h = omega arith
      go false h = omega arith

  -- no number from m on is below m
  none_below : (m n : ℕ) → n < m → greatest (λ k. leb m k && p k) n ≡ 0
  unfolding greatest
  none_below m zero h = refl
  none_below m (suc n) h = rw (lt-leb m (suc n) h) (none_below m n (omega arith))

  -- the greatest from m on is the greatest, or there is none
  pub greatest-from : (m n : ℕ) → greatest (λ k. leb m k && p k) n ≡ cond (leb m (greatest p n)) (greatest p n) 0
  unfolding greatest
  greatest-from m zero = last (leb m 0)
    where
      last : (b : Bool) → ◌≡◌ {A = ℕ} 0 (cond b 0 0)
      last true = refl
      last false = refl
  greatest-from m (suc n) = go (p (suc n)) (leb m (suc n)) refl refl (greatest-from m n)
    where
      go : (a b : Bool) → p (suc n) ≡ a → leb m (suc n) ≡ b → greatest (λ k. leb m k && p k) n ≡ cond (leb m (greatest p n)) (greatest p n) 0 → cond (leb m (suc n) && p (suc n)) (suc n) (greatest (λ k. leb m k && p k) n) ≡ cond (leb m (cond (p (suc n)) (suc n) (greatest p n))) (cond (p (suc n)) (suc n) (greatest p n)) 0
      go true true e g ih = rw (e, g)
      go true false e g ih = rw (e, g) (none_below m n (omega (arith, leb-false m (suc n) g)))
      go false true e g ih = rw (e, g) ih
      go false false e g ih = rw (e, g) ih

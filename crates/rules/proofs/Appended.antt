-- Tests and sums of lists that stand one after the other.
use Prim.Native.Nat.{ℕ, ◌+◌, max}
use mathlib.Core.Path.{◌≡◌, refl, sym}
use mathlib.Core.List.{List, [], ◌∷◌, ◌++◌}
use mathlib.Core.Bool.{Bool, ◌&&◌, ◌||◌, and_assoc, or_assoc}
use native.Mathlib.Omega.{arith}
use Rattle.rules.specs.Lists.{any, all, total, one_above}

module _ {A : Type 0} (p : A → Bool) where
  -- one of both has p if one of the first or one of the second has
  pub any_append : (xs ys : List A) → any p (xs ++ ys) ≡ any p xs || any p ys
  unfolding any
  any_append [] ys = refl
  any_append (x ∷ xs) ys = rw (any_append xs ys) (sym (or_assoc (p x) (any p xs) (any p ys)))

  -- all of both have p if all of the first and all of the second have
  pub all_append : (xs ys : List A) → all p (xs ++ ys) ≡ all p xs && all p ys
  unfolding all
  all_append [] ys = refl
  all_append (x ∷ xs) ys = rw (all_append xs ys) (sym (and_assoc (p x) (all p xs) (all p ys)))

-- the sum of both
pub total-append : (xs ys : List ℕ) → total (xs ++ ys) ≡ total xs + total ys
unfolding total
total-append [] ys = omega arith
total-append (x ∷ xs) ys = omega (arith, total-append xs ys)

-- one above the larger of the two
pub above-append : (xs ys : List ℕ) → one_above (xs ++ ys) ≡ max (one_above xs) (one_above ys)
unfolding one_above
above-append [] ys = omega arith
above-append (x ∷ xs) ys = omega (arith, above-append xs ys)

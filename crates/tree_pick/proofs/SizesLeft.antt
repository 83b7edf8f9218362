-- The sum of the sizes from row `from` on.
use Prim.Native.Nat.{ℕ, ◌+◌, ◌-◌, ◌^◌, ◌<◌}
use mathlib.Core.Path.{◌≡◌, ap, ◌∙◌}
use mathlib.Core.List.{List, [], ◌∷◌}
use native.Mathlib.Omega.{arith}
use lib.ListN.{length, take, drop, length-drop}
use lib.Seq.{take_all}
use Rattle.std.specs.Prelude.{sum, fold}
use native.Mathlib.Nat.{add_assoc, zero-add}
use Rattle.rules.specs.Lists.{total}
use Rattle.tree_pick.proofs.Appended.{total-split}

-- the library's sum is `total`
from_sum : (n : ℕ) (xs : List ℕ) → fold ◌+◌ n xs ≡ n + total xs
unfolding total
from_sum n [] = omega arith
from_sum n (x ∷ xs) = from_sum (n + x) xs ∙ add_assoc n x (total xs)

sum-is : (xs : List ℕ) → sum xs ≡ total xs
sum-is xs = from_sum 0 xs ∙ zero-add (total xs)

module _ (sizes : List ℕ) (from : ℕ) where
  pub sizes-left : sum (take (length sizes - from) (drop from sizes)) ≡ total (drop from sizes)
  sizes-left = sum-is (take (length sizes - from) (drop from sizes)) ∙ ap total (take_all (length sizes - from) (drop from sizes) (omega (arith, length-drop from sizes)))

  pub sizes-fit : total sizes < 2 ^ 64 → sum (take (length sizes - from) (drop from sizes)) < 2 ^ 64
  sizes-fit h = omega (arith, sizes-left, total-split from sizes)

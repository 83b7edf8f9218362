-- Rows of w numbers: where row i lies.
use Prim.Native.Nat.{ℕ, ◌+◌, ◌*◌, ◌≤◌, ◌<◌}
use native.Mathlib.Nat.{mul-suc, mul-le-mul_left}
use native.Mathlib.Omega.{arith}

-- row i of n ends within them
pub row_ends : (w i n : ℕ) → i < n → w * i + w ≤ w * n
row_ends w i n h = omega (arith, mul-le-mul_left w h, mul-suc w i)

pub row_within : (w i n : ℕ) → 0 < w → i < n → w * i < w * n
row_within w i n p h = omega (arith, row_ends w i n h)

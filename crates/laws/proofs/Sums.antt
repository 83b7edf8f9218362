-- Sums of a number of each tree.
use Prim.Native.Nat.{ℕ, ◌+◌, ◌≤◌}
use mathlib.Core.Path.{refl}
use mathlib.Core.List.{List, [], ◌∷◌, map, Memᴰ}
use native.Mathlib.Omega.{arith}
use lib.ListN.{length}
use Rattle.rules.specs.Lists.{total}
use Rattle.rules.specs.Tables.{Tree}

-- sums of larger numbers are larger
pub total-le : (g h : Tree → ℕ) → ((t : Tree) → g t ≤ h t) → (ts : List Tree) → total (map g ts) ≤ total (map h ts)
unfolding total
total-le g h a [] = omega arith
total-le g h a (t ∷ ts) = omega (arith, a t, total-le g h a ts)

-- and by as much as one of them is
pub total-less : (k : ℕ) (g h : Tree → ℕ) → ((t : Tree) → g t ≤ h t) → {t : Tree} {ts : List Tree} → Memᴰ t ts
    → g t + k ≤ h t → total (map g ts) + k ≤ total (map h ts)
unfolding total
total-less k g h a {t} (Memᴰ.head {x = c} {xs} e) l =
    let here : g c + k ≤ h c = rw (← e) l in
    omega (arith, total-le g h a xs)
total-less k g h a (Memᴰ.tail {x = c} m) l = omega (arith, a c, total-less k g h a m l)

-- of numbers up to 1 the sum is at most how many there are
pub total-ones : (g : Tree → ℕ) (ts : List Tree) → ((t : Tree) → Memᴰ t ts → g t ≤ 1) → total (map g ts) ≤ length ts
unfolding total
total-ones g [] h = omega arith
total-ones g (t ∷ ts) h = omega (arith, h t (Memᴰ.head refl), total-ones g ts (λ c m. h c (Memᴰ.tail m)))

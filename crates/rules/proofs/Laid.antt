-- A slice after a call (`laid`): its length, its front, and that laying what stood there changes nothing.
use Prim.Native.Nat.{ℕ, ◌-◌, ◌≤◌, max}
use mathlib.Core.Path.{◌≡◌}
use mathlib.Core.List.{List}
use native.Mathlib.Omega.{arith}
use lib.ListN.{length, take, length-append, length-drop, length-replicate, take-append-drop}
use lib.Seq.{length-take-le}
use Rattle.rules.specs.Lent.{laid, laid_with}

-- "a laid slice keeps its length where the rows fit"
pub length-laid_with : {A : Type 0} (z : A) (used : ℕ) (new s : List A) → used ≤ length s → length new ≤ length s → length (laid_with z used new s) ≡ length s
unfolding laid_with
length-laid_with z used new s h l = simp (length-append, length-replicate, length-drop) (omega arith)

pub length-laid : (used : ℕ) (new s : List ℕ) → used ≤ length s → length new ≤ length s → length (laid used new s) ≡ length s
length-laid = length-laid_with 0

-- laying what stood there
pub laid_same : (used : ℕ) (s : List ℕ) → used ≤ length s → laid used (take used s) s ≡ s
unfolding laid_with
laid_same used s h =
    rw (length-take-le used s h, nothing, larger) (take-append-drop used s)
  where
    nothing : used - used ≡ 0
    nothing = omega arith

    larger : max used used ≡ used
    larger = omega arith

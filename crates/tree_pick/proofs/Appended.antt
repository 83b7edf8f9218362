-- Sums and last entries of lists that stand one after the other.
use Prim.Native.Nat.{ℕ, suc, ◌+◌, ◌<◌}
use mathlib.Core.Path.{◌≡◌, refl, sym, ap, ◌∙◌}
use mathlib.Core.List.{List, [], ◌∷◌, ◌++◌}
use native.Mathlib.Omega.{arith}
use lib.ListN.{length, take, drop, get_or, take-append-drop}
use lib.Seq.{take-suc}
use Rattle.rules.specs.Lists.{total}
use Rattle.rules.specs.Windows.{last}
use Rattle.rules.proofs.Appended.{total-append}

-- the last of a list and one more
pub last-append : (xs : List ℕ) (x : ℕ) → last (xs ++ (x ∷ [])) ≡ x
unfolding last
last-append [] x = refl
last-append (y ∷ []) x = refl
last-append (y ∷ (z ∷ ys)) x = last-append (z ∷ ys) x

-- the numbers before place k, and those from it on
pub total-split : (k : ℕ) (xs : List ℕ) → total xs ≡ total (take k xs) + total (drop k xs)
total-split k xs = sym (ap total (take-append-drop k xs)) ∙ total-append (take k xs) (drop k xs)

-- those up to and with place k
pub total-suc : (xs : List ℕ) (k : ℕ) → k < length xs → total (take (suc k) xs) ≡ total (take k xs) + get_or xs k 0
unfolding total
total-suc xs k h = omega (arith, ap total (take-suc xs k 0 h), total-append (take k xs) (get_or xs k 0 ∷ []))

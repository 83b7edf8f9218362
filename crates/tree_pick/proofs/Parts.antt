-- The last number of a part of a slice.
use Prim.Native.Nat.{ℕ, zero, suc, ◌+◌, ◌-◌, ◌≤◌, ◌<◌}
use mathlib.Core.Path.{◌≡◌, refl, sym, ◌∙◌}
use mathlib.Core.List.{List, [], ◌∷◌}
use native.Mathlib.Omega.{arith}
use lib.ListN.{length, take, drop, get_or, length-drop}
use lib.Seq.{take-suc, get_or-drop}
use Rattle.rules.specs.Windows.{last}
use Rattle.tree_pick.proofs.Appended.{last-append}

last_cons : (x : ℕ) (xs : List ℕ) → 0 < length xs → last (x ∷ xs) ≡ last xs
unfolding last
last_cons x [] h = absurd (omega arith)
last_cons x (y ∷ ys) h = refl

-- the last of the last ones
pub last-drop : (k : ℕ) (xs : List ℕ) → k < length xs → last (drop k xs) ≡ last xs
last-drop zero xs h = refl
last-drop (suc k) [] h = absurd (omega arith)
last-drop (suc k) (x ∷ xs) h = last-drop k xs (omega arith) ∙ sym (last_cons x xs (omega arith))

-- the last of a part
pub last-part : (s : List ℕ) (from count : ℕ) → from + count ≤ length s → 0 < count → last (take count (drop from s)) ≡ get_or s (from + (count - 1)) 0
last-part s from zero h l = absurd (omega arith)
last-part s from (suc k) h l =
    let there : k < length (drop from s) = omega (arith, length-drop from s) in
    let less : suc k - 1 ≡ k = omega arith in
    rw (take-suc (drop from s) k 0, less) (last-append (take k (drop from s)) (get_or (drop from s) k 0) ∙ get_or-drop from s k 0)

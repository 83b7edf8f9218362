-- A table of picks with one pick more.
use Prim.Native.Nat.{ℕ, ◌≤◌, ◌<◌}
use mathlib.Core.List.{List, [], ◌∷◌, ◌++◌}
use mathlib.Core.Logic.{inl, inr}
use native.Mathlib.Nat.{add-zero, eq-or-lt_of_le}
use native.Mathlib.Omega.{arith}
use lib.ListN.{length, get_or, length-append, get_or-append}
use lib.Seq.{get_or-append-add}
use Rattle.plan_passes.specs.declared.picks.PickRow.{PickRow}
use Rattle.plan_passes.specs.Picks.{PickWithin, PicksWithin}

-- the sources of one pick more lie within the slices
pub within-more : (ps : List PickRow) (p : PickRow) → PicksWithin ps → PickWithin p → PicksWithin (ps ++ (p ∷ []))
within-more ps p w h = record { at = at }
  where
    at : (k : ℕ) (d : PickRow) → k < length (ps ++ (p ∷ [])) → PickWithin (get_or (ps ++ (p ∷ [])) k d)
    at k d l =
        let last : k ≤ length ps = omega (arith, length-append ps (p ∷ [])) in
        elim (eq-or-lt_of_le last) [
          | inl e ↦ rw (e, ← add-zero (length ps), get_or-append-add ps (p ∷ []) 0 d) h
          | inr g ↦ rw (get_or-append ps (p ∷ []) d k g) (w.at k d g)
        ]

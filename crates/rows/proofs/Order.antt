-- A loop over rows that are to stand in r to the next one, each held against the row before it.
use Prim.Native.Nat.{ℕ, ◌+◌, ◌-◌, ◌≤◌, ◌<◌}
use mathlib.Core.Path.{◌≡◌}
use mathlib.Core.Bool.{Bool, true, false}
use native.Mathlib.Omega.{arith}
use Rattle.std.proofs.Common.{inl, inr}
use Rattle.std.proofs.lemmas.Bool.{cases_lt}
use Rattle.rules.specs.Lists.{linked}
use Rattle.rules.proofs.Rows.{rows_next, rows_end}
use Rattle.rows.proofs.Scans.{Left, scan-next, scan-stops, scan-ends}

module _ {A : Type 0} (r : A → A → Bool) {f : ℕ → A} {n i : ℕ} {v : Bool} (l : Left (linked r) f n (i - 1) v) where
  -- the row before row i stands in r to it
  pub link-next : 1 ≤ i → i < n → r (f (i - 1)) (f i) ≡ true → Left (linked r) f n (i + 1 - 1) v
  unfolding linked
  link-next some h e =
      let here : i - 1 + 1 ≡ i = omega arith in
      let there : i + 1 - 1 ≡ i - 1 + 1 = omega arith in
      rw there (scan-next l (omega arith) (rw (here, rows_next f i n h, e)))

  -- it does not
  pub link-breaks : 1 ≤ i → i < n → r (f (i - 1)) (f i) ≡ false → false ≡ v
  unfolding linked
  link-breaks some h e =
      let here : i - 1 + 1 ≡ i = omega arith in
      scan-stops l (omega arith) (rw (here, rows_next f i n h, e))

  -- there is no row i
  pub link-ends : n ≤ i → true ≡ v
  unfolding linked
  link-ends h = elim (cases_lt (i - 1) n) [
    | inl lt ↦ scan-stops l lt (rw (rows_end f (i - 1 + 1) n (omega arith)))
    | inr le ↦ scan-ends l le
  ]

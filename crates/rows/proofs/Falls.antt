-- The loop over trees whose runs are to fall: at tree i, whose runs begin at run `at`.
use Prim.Native.Nat.{ℕ, suc, ◌+◌, ◌-◌, ◌*◌, ◌≤◌, ◌<◌}
use mathlib.Core.Path.{◌≡◌, sym, ap, ◌∙◌}
use mathlib.Core.List.{List}
use mathlib.Core.Bool.{Bool, true, false, ◌&&◌}
use native.Mathlib.Nat.{sub-zero}
use native.Mathlib.Omega.{arith}
use lib.Dec.{ltb}
use lib.ListN.{get_or}
use Rattle.rules.specs.Lists.{linked, total}
use Rattle.rules.specs.Lent.{rows_from}
use Rattle.rules.proofs.Rows.{rows_next}
use Rattle.rows.specs.Shape.{falling_from}
use Rattle.rows.proofs.Sums.{Summed, sum-starts, sum-next}

-- the runs of the trees that are left fall exactly if those of all do, and `at` is the sum of the counts so far
pub record Falls (trees ids : List ℕ) (n at i : ℕ) : Type 0 where
  pub test : falling_from trees ids i at (n - i) ≡ falling_from trees ids 0 0 n
  pub sum : Summed (λ k. get_or trees (3 * k + 2) 0) n at i

module _ {trees ids : List ℕ} {n : ℕ} where
  pub falls-starts : Falls trees ids n 0 0
  falls-starts = record { test = ap (falling_from trees ids 0 0) (sub-zero n); sum = sum-starts (λ k. get_or trees (3 * k + 2) 0) n }

  module _ {at i : ℕ} (falls : Falls trees ids n at i) (h : i < n) (c : ℕ) (count : c ≡ get_or trees (3 * i + 2) 0) where
    -- the runs of tree i stand within those in use
    pub runs-within : at + c ≤ total (rows_from (λ k. get_or trees (3 * k + 2) 0) 0 n)
    unfolding total
    runs-within = omega (arith, ap total (rows_next (λ (k : ℕ). get_or trees (3 * k + 2) 0) i n h), falls.sum)

    -- what tree i says
    split : (b : Bool) → b ≡ linked (λ x y. ltb y x) (rows_from (λ k. get_or ids k 0) at (at + c - at)) → falling_from trees ids i at (n - i) ≡ b && falling_from trees ids (i + 1) (at + c) (n - (i + 1))
    unfolding falling_from
    split b e =
        let left : n - i ≡ suc (n - (i + 1)) = omega arith in
        let own : at + c - at ≡ c = omega arith in
        rw (left, e, own, count)

    pub falls-on : true ≡ linked (λ x y. ltb y x) (rows_from (λ k. get_or ids k 0) at (at + c - at)) → Falls trees ids n (at + c) (i + 1)
    falls-on e = record { test = sym (split true e) ∙ falls.test; sum = sum-next (λ k. get_or trees (3 * k + 2) 0) n at i c h count falls.sum }

    pub falls-breaks : false ≡ linked (λ x y. ltb y x) (rows_from (λ k. get_or ids k 0) at (at + c - at)) → false ≡ falling_from trees ids 0 0 n
    falls-breaks e = sym (split false e) ∙ falls.test

  pub falls-ends : {at i : ℕ} → Falls trees ids n at i → n ≤ i → true ≡ falling_from trees ids 0 0 n
  unfolding falling_from
  falls-ends {at} {i} falls h =
      let none : n - i ≡ 0 = omega arith in
      rw none at falls.test

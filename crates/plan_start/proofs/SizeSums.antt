-- Refusal 4: a sum that is tested before it is taken, and the loop over trees.
use Prim.Native.Nat.{ℕ, zero, suc, ◌+◌, ◌-◌, ◌*◌, ◌^◌, ◌≤◌, ◌<◌}
use mathlib.Core.Path.{◌≡◌, refl, sym, ap, ◌∙◌}
use mathlib.Core.List.{List, map}
use mathlib.Core.Bool.{Bool, true, false, ◌||◌}
use native.Mathlib.Nat.{sub-zero, zero-add, add-zero, add_assoc, not-suc-le-zero, le_of_suc-le-suc}
use native.Mathlib.Omega.{arith}
use lib.Dec.{leb}
use lib.ListN.{length, get_or, take, drop}
use borrow.Author.Tests.{le-leb, lt-leb, leb-false}
use Rattle.rules.specs.Lists.{any, total}
use Rattle.rules.specs.declared.tables.Run.{Run}
use Rattle.rules.specs.Tables.{L0Row}
use Rattle.rules.specs.Lent.{LentTrees, rows_from, l0_at, run_at, l0_count, run_count, trees_from, trees_of, l0_used, runs_used}
use Rattle.rules.specs.Planning.{sizes_over}
use Rattle.rules.proofs.Rows.{rows_are, rows_next, part-is, map-rows_from}
use Rattle.rules.proofs.Lookups.{or_left, or_right}
use Rattle.rows.proofs.Sums.{Summed, sum-starts, sum-next, sum-ends}
use Rattle.plan_start.specs.Sizes.{over_from}

-- a slice is its own rows
pub whole : (s : List ℕ) → rows_from (λ k. get_or s k 0) 0 (length s) ≡ s
whole s = rows_are (λ k. get_or s k 0) 0 0 s (λ k h. ap (λ (n : ℕ). get_or s n 0) (zero-add k))

-- ---- one sum
module _ (s : List ℕ) where
  -- one size more is too much
  pub sum-is-over : (sum i : ℕ) → i < length s → Summed (λ k. get_or s k 0) (length s) sum i → 2 ^ 64 ≤ sum + get_or s i 0 → true ≡ leb (2 ^ 64) (total s)
  unfolding total
  sum-is-over sum i h e o = sym (le-leb (2 ^ 64) (total s) (omega (arith, ap total (whole s), ap total (rows_next (λ (k : ℕ). get_or s k 0) i (length s) h), e)))

  -- all sizes are summed
  pub sum-is-not : (sum i : ℕ) → length s ≤ i → sum < 2 ^ 64 → Summed (λ k. get_or s k 0) (length s) sum i → false ≡ leb (2 ^ 64) (total s)
  sum-is-not sum i h l e = sym (lt-leb (2 ^ 64) (total s) (omega (arith, sum-ends (λ k. get_or s k 0) (length s) sum i h e, ap total (whole s))))

-- ---- the loop over trees, at tree i
pub record Over (trees l0_sizes run_sizes : List ℕ) (n l r i : ℕ) : Type 0 where
  pub test : over_from trees l0_sizes run_sizes i l r (n - i) ≡ over_from trees l0_sizes run_sizes 0 0 0 n
  pub rows : Summed (λ k. get_or trees (3 * k + 1) 0) n l i
  pub runs : Summed (λ k. get_or trees (3 * k + 2) 0) n r i

module _ {trees l0_sizes run_sizes : List ℕ} {n : ℕ} where
  pub over-starts : Over trees l0_sizes run_sizes n 0 0 0
  over-starts = record {
    test = ap (over_from trees l0_sizes run_sizes 0 0 0) (sub-zero n);
    rows = sum-starts (λ k. get_or trees (3 * k + 1) 0) n;
    runs = sum-starts (λ k. get_or trees (3 * k + 2) 0) n;
  }

  module _ {l r i : ℕ} (over : Over trees l0_sizes run_sizes n l r i) (h : i < n) (c d : ℕ) (rows : c ≡ get_or trees (3 * i + 1) 0) (runs : d ≡ get_or trees (3 * i + 2) 0) where
    pub rows-within : l + c ≤ total (rows_from (λ k. get_or trees (3 * k + 1) 0) 0 n)
    unfolding total
    rows-within = omega (arith, ap total (rows_next (λ (k : ℕ). get_or trees (3 * k + 1) 0) i n h), over.rows)

    pub runs-within : r + d ≤ total (rows_from (λ k. get_or trees (3 * k + 2) 0) 0 n)
    unfolding total
    runs-within = omega (arith, ap total (rows_next (λ (k : ℕ). get_or trees (3 * k + 2) 0) i n h), over.runs)

    split : (a b : Bool) → a ≡ leb (2 ^ 64) (total (take (l + c - l) (drop l l0_sizes))) → b ≡ leb (2 ^ 64) (total (take (r + d - r) (drop r run_sizes))) → over_from trees l0_sizes run_sizes i l r (n - i) ≡ a || b || over_from trees l0_sizes run_sizes (i + 1) (l + c) (r + d) (n - (i + 1))
    unfolding over_from
    split a b p q =
        let left : n - i ≡ suc (n - (i + 1)) = omega arith in
        let mine : l + c - l ≡ c = omega arith in
        let own : r + d - r ≡ d = omega arith in
        rw (left, p, q, mine, own, rows, runs)

    pub over-rows : true ≡ leb (2 ^ 64) (total (take (l + c - l) (drop l l0_sizes))) → true ≡ over_from trees l0_sizes run_sizes 0 0 0 n
    over-rows p = sym (split true (leb (2 ^ 64) (total (take (r + d - r) (drop r run_sizes)))) p refl) ∙ over.test

    pub over_runs : false ≡ leb (2 ^ 64) (total (take (l + c - l) (drop l l0_sizes))) → true ≡ leb (2 ^ 64) (total (take (r + d - r) (drop r run_sizes))) → true ≡ over_from trees l0_sizes run_sizes 0 0 0 n
    over_runs p q = sym (split false true p q) ∙ over.test

    pub over-on : false ≡ leb (2 ^ 64) (total (take (l + c - l) (drop l l0_sizes))) → false ≡ leb (2 ^ 64) (total (take (r + d - r) (drop r run_sizes))) → Over trees l0_sizes run_sizes n (l + c) (r + d) (i + 1)
    over-on p q = record {
      test = sym (split false false p q) ∙ over.test;
      rows = sum-next (λ k. get_or trees (3 * k + 1) 0) n l i c h rows over.rows;
      runs = sum-next (λ k. get_or trees (3 * k + 2) 0) n r i d h runs over.runs;
    }

  pub over-ends : {l r i : ℕ} → Over trees l0_sizes run_sizes n l r i → n ≤ i → false ≡ over_from trees l0_sizes run_sizes 0 0 0 n
  unfolding over_from
  over-ends {l} {r} {i} over h =
      let none : n - i ≡ 0 = omega arith in
      rw none at over.test

-- ---- refusal 4's rule on trees, slice by slice
over-is : (t : LentTrees) (i l r n : ℕ) → l + total (rows_from (l0_count t) i n) ≤ length t.l0_sizes → r + total (rows_from (run_count t) i n) ≤ length t.run_sizes
    → any (λ x. leb (2 ^ 64) (total (map (λ v. v.size) x.l0)) || leb (2 ^ 64) (total (map (λ v. v.size) x.runs))) (trees_from t i l r n) ≡ over_from t.trees t.l0_sizes t.run_sizes i l r n
unfolding trees_from any rows_from total over_from
over-is t i l r zero h k = refl
over-is t i l r (suc n) h k =
    let a : map (λ (v : L0Row). v.size) (rows_from (l0_at t) l (l0_count t i)) ≡ take (l0_count t i) (drop l t.l0_sizes) =
    map-rows_from (λ (v : L0Row). v.size) (l0_at t) l (l0_count t i) ∙ part-is t.l0_sizes l (l0_count t i) (omega arith) in
    let b : map (λ (v : Run). v.size) (rows_from (run_at t) r (run_count t i)) ≡ take (run_count t i) (drop r t.run_sizes) =
    map-rows_from (λ (v : Run). v.size) (run_at t) r (run_count t i) ∙ part-is t.run_sizes r (run_count t i) (omega arith) in
    rw (a, b, over-is t (i + 1) (l + l0_count t i) (r + run_count t i) n (omega arith) (omega arith))

pub flat-sizes : (t : LentTrees) → l0_used t ≤ length t.l0_sizes → runs_used t ≤ length t.run_sizes → sizes_over (trees_of t) ≡ over_from t.trees t.l0_sizes t.run_sizes 0 0 0 t.count
unfolding sizes_over trees_of l0_used runs_used
flat-sizes t h k = over-is t 0 0 0 t.count (omega arith) (omega arith)

-- ---- where no tree's sizes are over, those of each are below
under : (trees l0_sizes run_sizes : List ℕ) (i l r n : ℕ) → over_from trees l0_sizes run_sizes i l r n ≡ false → (k : ℕ) → k < n
    → (total (take (get_or trees (3 * (i + k) + 1) 0) (drop (l + total (rows_from (λ m. get_or trees (3 * m + 1) 0) i k)) l0_sizes)) < 2 ^ 64)
    × (total (take (get_or trees (3 * (i + k) + 2) 0) (drop (r + total (rows_from (λ m. get_or trees (3 * m + 2) 0) i k)) run_sizes)) < 2 ^ 64)
unfolding over_from rows_from total
under trees l0_sizes run_sizes i l r zero e k h = absurd (not-suc-le-zero h)
under trees l0_sizes run_sizes i l r (suc n) e zero h =
    let a = leb (2 ^ 64) (total (take (get_or trees (3 * i + 1) 0) (drop l l0_sizes))) in
    let b = leb (2 ^ 64) (total (take (get_or trees (3 * i + 2) 0) (drop r run_sizes))) in
    let both = or_left (a || b) _ e in
    rw (add-zero, add-zero, add-zero) (leb-false (2 ^ 64) _ (or_left a b both), leb-false (2 ^ 64) _ (or_right a b both))
under trees l0_sizes run_sizes i l r (suc n) e (suc k) h =
    let a = leb (2 ^ 64) (total (take (get_or trees (3 * i + 1) 0) (drop l l0_sizes))) in
    let b = leb (2 ^ 64) (total (take (get_or trees (3 * i + 2) 0) (drop r run_sizes))) in
    let next : i + suc k ≡ i + 1 + k = omega arith in
    rw (next, ← add_assoc l, ← add_assoc r)
    (under trees l0_sizes run_sizes (i + 1) (l + get_or trees (3 * i + 1) 0) (r + get_or trees (3 * i + 2) 0) n (or_right (a || b) _ e) k (le_of_suc-le-suc h))

pub not-over : (trees l0_sizes run_sizes : List ℕ) (n : ℕ) → over_from trees l0_sizes run_sizes 0 0 0 n ≡ false → (k : ℕ) → k < n
    → (total (take (get_or trees (3 * k + 1) 0) (drop (total (rows_from (λ m. get_or trees (3 * m + 1) 0) 0 k)) l0_sizes)) < 2 ^ 64)
    × (total (take (get_or trees (3 * k + 2) 0) (drop (total (rows_from (λ m. get_or trees (3 * m + 2) 0) 0 k)) run_sizes)) < 2 ^ 64)
not-over trees l0_sizes run_sizes n e k h = simp zero-add at (under trees l0_sizes run_sizes 0 0 0 n e k h)

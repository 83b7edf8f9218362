-- Flags that say of each row at its place whether it stays are what keep_tree_rows asks for.
use Prim.Native.Nat.{ℕ, ◌+◌, ◌≤◌, ◌<◌}
use mathlib.Core.Path.{◌≡◌, sym, ap, ◌∙◌}
use mathlib.Core.List.{List}
use mathlib.Core.Bool.{Bool, true}
use native.Mathlib.Omega.{arith}
use lib.ListN.{length, get_or}
use Rattle.rules.specs.Lists.{total}
use Rattle.rules.specs.declared.tables.Run.{Run}
use Rattle.rules.specs.Tables.{L0Row, Tree}
use Rattle.rules.specs.Lent.{LentTrees, rows_from, l0_at, run_at, l0_count, run_count, tree_at, trees_of, l0_used, runs_used}
use Rattle.rules.proofs.Rows.{get_or-rows_from}
use Rattle.rules.proofs.Packed.{length-trees_of, length-l0, length_runs, tree_is}
use Rattle.rows.specs.Movers.{marked}
use Rattle.rows.specs.Read.{Stands}
use Rattle.tree_rows.specs.Change.{L0Flags, RunFlags}
use Rattle.tree_rows.proofs.Standing.{rows_before_lem, runs-before, rows_of, runs_of_lem}
use Rattle.tree_rows.proofs.Flags.{flags-say}

module _ (t : LentTrees) (i : ℕ) (there : i < t.count) {l c r d : ℕ} (at : Stands t.trees t.count i l c r d) (flags : List ℕ) where
  listed : i < length (trees_of t)
  listed = omega (arith, length-trees_of t)

  -- a tree, for want of one
  abbrev none : Tree
  none = tree_at t 0 0 0

  -- L0 rows: every row before tree i's, p of its own, and every row behind them
  pub l0-flags : (p : L0Row → Bool) → l0_used t ≤ length flags → ((k : ℕ) → k < l → marked (get_or flags k 0) ≡ true) → ((k : ℕ) → k < c → marked (get_or flags (l + k) 0) ≡ p (l0_at t (l + k)))
      → ((k : ℕ) → l + c ≤ k → k < l0_used t → marked (get_or flags k 0) ≡ true) → L0Flags t i p flags
  l0-flags p have before mine after =
      flags-say (λ (x : Tree). x.l0) p (trees_of t) i none listed (l0_used t) flags (sym (length-l0 t)) have l c
      (rows_before_lem t i (omega arith) ∙ sym at.first_row)
      (rows_of t i none there ∙ sym at.rows)
      (l0_at t 0)
      before
      (λ k h. mine k h ∙ ap p (sym (row k h)))
      after
    where
      row : (k : ℕ) → k < c → get_or (get_or (trees_of t) i none).l0 k (l0_at t 0) ≡ l0_at t (l + k)
      row k h =
          ap (λ (x : Tree). get_or x.l0 k (l0_at t 0)) (tree_is t i none there)
          ∙ get_or-rows_from (l0_at t) (total (rows_from (l0_count t) 0 i)) (l0_count t i) k (l0_at t 0) (omega (arith, at.rows))
          ∙ ap (λ (n : ℕ). l0_at t (n + k)) (sym at.first_row)

  -- runs, likewise
  pub run-flags : (q : Run → Bool) → runs_used t ≤ length flags → ((k : ℕ) → k < r → marked (get_or flags k 0) ≡ true) → ((k : ℕ) → k < d → marked (get_or flags (r + k) 0) ≡ q (run_at t (r + k)))
      → ((k : ℕ) → r + d ≤ k → k < runs_used t → marked (get_or flags k 0) ≡ true) → RunFlags t i q flags
  run-flags q have before mine after =
      flags-say (λ (x : Tree). x.runs) q (trees_of t) i none listed (runs_used t) flags (sym (length_runs t)) have r d
      (runs-before t i (omega arith) ∙ sym at.first_run)
      (runs_of_lem t i none there ∙ sym at.runs)
      (run_at t 0)
      before
      (λ k h. mine k h ∙ ap q (sym (row k h)))
      after
    where
      row : (k : ℕ) → k < d → get_or (get_or (trees_of t) i none).runs k (run_at t 0) ≡ run_at t (r + k)
      row k h =
          ap (λ (x : Tree). get_or x.runs k (run_at t 0)) (tree_is t i none there)
          ∙ get_or-rows_from (run_at t) (total (rows_from (run_count t) 0 i)) (run_count t i) k (run_at t 0) (omega (arith, at.runs))
          ∙ ap (λ (n : ℕ). run_at t (n + k)) (sym at.first_run)

-- What a change of one tree asks of the table, and the slices that one is lent, of any table that has them.
use Rattle.std.specs.Prelude.{ℕ, ◌+◌, ◌*◌, ◌≤◌, ◌<◌, ◌≡◌, List, length, get_or}
use Rattle.rules.specs.Lists.{total}
use Rattle.rules.specs.Lent.{LentTrees, rows_from, run_count, l0_used, runs_used}
use Rattle.rules.specs.Bounds.{max_trees, max_l0, max_runs}

-- the slices of watermarks
pub record MarksOf (t : LentTrees) (marks' watermarks' : List ℕ) : Type 0 where
  pub watermark_marks : marks' ≡ t.watermark_marks
  pub watermarks : watermarks' ≡ t.watermarks

-- how many L0 rows, and how many runs, the first n trees have
abbrev pub rows_before : List ℕ → ℕ → ℕ
rows_before trees n = total (rows_from (λ k. get_or trees (3 * k + 1) 0) 0 n)

abbrev pub runs_before : List ℕ → ℕ → ℕ
runs_before trees n = total (rows_from (λ k. get_or trees (3 * k + 2) 0) 0 n)

-- a table within its bounds, lent at capacity, with tree i in it and a flag for each row in use
pub record KeepRoom (t : LentTrees) (i : ℕ) (l0_kept runs_kept : List ℕ) : Type 0 where
  pub few : t.count ≤ max_trees
  pub tree : i < t.count
  pub trees : length t.trees ≡ 3 * max_trees
  pub l0_ids : length t.l0_ids ≡ 4 * max_l0
  pub l0_sizes : length t.l0_sizes ≡ max_l0
  pub run_ids : length t.run_ids ≡ max_runs
  pub run_sizes : length t.run_sizes ≡ max_runs
  pub l0 : l0_used t ≤ max_l0
  pub runs : runs_used t ≤ max_runs
  pub l0_flags : l0_used t ≤ length l0_kept
  pub run_flags : runs_used t ≤ length runs_kept

-- a table within its bounds, lent at capacity, with tree i in it, whose runs begin at or before run `at` and end at or behind
-- it, and with room for one run more
pub record PutRoom (t : LentTrees) (i at : ℕ) : Type 0 where
  pub few : t.count ≤ max_trees
  pub tree : i < t.count
  pub trees : length t.trees ≡ 3 * max_trees
  pub run_ids : length t.run_ids ≡ max_runs
  pub run_sizes : length t.run_sizes ≡ max_runs
  pub runs : runs_used t + 1 ≤ max_runs
  pub first : runs_before t.trees i ≤ at
  pub last : at ≤ runs_before t.trees i + run_count t i

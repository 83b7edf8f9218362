-- The flags of the rows that go with a job, and the slices that finding reads.
use Rattle.std.specs.Prelude.{ℕ, ◌+◌, ◌*◌, ◌≤◌, ◌<◌, ◌≡◌, List, Bool, not, length, get_or, replicate}
use Rattle.rules.specs.Lists.{total}
use Rattle.rules.specs.declared.tables.Run.{Run}
use Rattle.rules.specs.Tables.{L0Row, among, view_id, run_id}
use Rattle.rules.specs.Lent.{LentTrees, LentJobs, rows_from, l0_at, l0_count}
use Rattle.rules.specs.Bounds.{max_trees, max_l0, max_runs, max_jobs, max_sources}
use Rattle.rules.specs.Finish.{named}
use Rattle.rows.specs.Movers.{marked}
use Rattle.tree_rows.specs.Change.{L0Flags, RunFlags}
use Rattle.tree_rows.specs.Slices.{rows_before, runs_before}
use Rattle.finishing.specs.Finding.{job_in, gone_with}

-- trees within their bounds, lent at capacity, with tree i among them
pub record TreeRoom (t : LentTrees) (i : ℕ) : Type 0 where
  pub few : t.count ≤ max_trees
  pub tree : i < t.count
  pub trees : length t.trees ≡ 3 * max_trees
  pub l0_ids : length t.l0_ids ≡ 4 * max_l0
  pub run_ids : length t.run_ids ≡ max_runs
  pub l0 : rows_before t.trees t.count ≤ max_l0
  pub runs : runs_before t.trees t.count ≤ max_runs

-- jobs within their bounds, lent at capacity, with job i among them
pub record JobRoom (j : LentJobs) (i : ℕ) : Type 0 where
  pub few : j.count ≤ max_jobs
  pub job : i < j.count
  pub job_specs : length j.job_specs ≡ 3 * max_jobs
  pub marks : length j.source_marks ≡ max_sources
  pub runs : length j.source_runs ≡ max_sources
  pub views : length j.source_views ≡ 2 * max_sources
  pub sources : total (rows_from (λ k. get_or j.job_specs (3 * k + 2) 0) 0 j.count) ≤ max_sources

-- the flags before any row goes
pub record Unflagged (l0_kept runs_kept : List ℕ) : Type 0 where
  pub l0 : l0_kept ≡ replicate max_l0 1
  pub runs : runs_kept ≡ replicate max_runs 1

-- "remove source L0 rows": those that stay
abbrev pub row_stays : LentJobs → ℕ → L0Row → Bool
row_stays j job v = not (among (view_id v) (named (job_in j job)))

-- "source runs and the destination run": those that stay
abbrev pub run_stays : LentJobs → ℕ → ℕ → Run → Bool
run_stays j drain job r = not (among (run_id r) (gone_with drain (job_in j job).destination (named (job_in j job))))

-- the flags say so of the rows of the tree, and keep those of the others
pub record Flags (t : LentTrees) (j : LentJobs) (drain job tree : ℕ) (l0_kept runs_kept : List ℕ) : Type 0 where
  pub rows : L0Flags t tree (row_stays j job) l0_kept
  pub runs : RunFlags t tree (run_stays j drain job) runs_kept
  pub own : (k : ℕ) → k < l0_count t tree → marked (get_or l0_kept (rows_before t.trees tree + k) 0) ≡ row_stays j job (l0_at t (rows_before t.trees tree + k))
  pub l0_long : length l0_kept ≡ max_l0
  pub runs_long : length runs_kept ≡ max_runs

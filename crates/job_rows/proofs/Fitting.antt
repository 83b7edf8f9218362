-- Rows that fit: what a table at capacity has room for, as the movers ask for it.
use Prim.Native.Nat.{ℕ, ◌*◌, ◌≤◌}
use mathlib.Core.Path.{◌≡◌}
use native.Mathlib.Omega.{arith}
use lib.ListN.{length}
use Rattle.rules.specs.Lists.{total}
use Rattle.rules.specs.Lent.{LentJobs, rows_from, source_count, sources_used}
use Rattle.rules.proofs.Bounds.{JobsGood}
use Rattle.job_rows.specs.Slices.{AtCapacity}

module _ {j : LentJobs} (room : AtCapacity j) where
  pub ids-fit : 2 * j.count ≤ length j.job_ids
  ids-fit = omega (arith, room)

  pub marks-fit : 2 * j.count ≤ length j.job_marks
  marks-fit = omega (arith, room)

  pub specs-fit : 3 * j.count ≤ length j.job_specs
  specs-fit = omega (arith, room)

  pub entries_fit : total (rows_from (source_count j) 0 j.count) ≤ 1024
  unfolding sources_used
  entries_fit = room.sources

  -- so many entries are in use
  module _ {used : ℕ} (u : used ≡ total (rows_from (source_count j) 0 j.count)) where
    pub flags-fit : {n : ℕ} → n ≡ 1024 → used ≤ n
    flags-fit e = omega (arith, entries_fit)

    pub source-marks-fit : 1 * used ≤ length j.source_marks
    source-marks-fit = omega (arith, entries_fit, room.source_marks)

    pub source-runs-fit : 1 * used ≤ length j.source_runs
    source-runs-fit = omega (arith, entries_fit, room.source_runs)

    pub source-views-fit : 2 * used ≤ length j.source_views
    source-views-fit = omega (arith, entries_fit, room.source_views)

-- a table that is not refused by itself
pub good-capacity : {j : LentJobs} → JobsGood j → AtCapacity j
good-capacity good = record {
  jobs = good.within.jobs;
  sources = good.within.sources;
  job_ids = good.lent.job_ids;
  job_marks = good.lent.job_marks;
  job_specs = good.lent.job_specs;
  source_marks = good.lent.source_marks;
  source_runs = good.lent.source_runs;
  source_views = good.lent.source_views;
}

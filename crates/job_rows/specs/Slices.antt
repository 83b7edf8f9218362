-- The job table as it is lent to a function that changes its rows, and as it stands afterwards.
use Rattle.std.specs.Prelude.{ℕ, ◌+◌, ◌*◌, ◌≤◌, ◌≡◌, List, map, Bool, false, length, get_or, take, replicate}
use Rattle.rules.specs.Lists.{any, keep, concat_map}
use Rattle.rules.specs.Tables.{same_ulid, Job}
use Rattle.rules.specs.Lent.{LentJobs, rows_from, jobs_of, sources_used, lay_jobs}
use Rattle.rules.specs.Bounds.{max_jobs, max_sources}
use Rattle.rules.specs.Jobs.{LentJob, job_of, inserted}
use Rattle.rows.specs.Movers.{marked}

-- "Every table is lent at its full capacity, with counts that say how much of it is used.": 64 jobs and 1,024 entries
pub record AtCapacity (j : LentJobs) : Type 0 where
  pub jobs : j.count ≤ max_jobs
  pub sources : sources_used j ≤ max_sources
  pub job_ids : length j.job_ids ≡ 2 * max_jobs
  pub job_marks : length j.job_marks ≡ 2 * max_jobs
  pub job_specs : length j.job_specs ≡ 3 * max_jobs
  pub source_marks : length j.source_marks ≡ max_sources
  pub source_runs : length j.source_runs ≡ max_sources
  pub source_views : length j.source_views ≡ 2 * max_sources

-- the flag of each source entry of the first n jobs: its job's
unfoldable pub entry_flags : List ℕ → List ℕ → ℕ → List ℕ
entry_flags specs staying n = concat_map (λ i. replicate (get_or specs (3 * i + 2) 0) (get_or staying i 0)) (rows_from (λ k. k) 0 n)

-- k is table j with the jobs for which the flags stand, whatever p the flags say of each job
pub record Keeps (j : LentJobs) (staying : List ℕ) (k : LentJobs) : Type 0 where
  pub kept : (p : Job → Bool) → map marked (take j.count staying) ≡ map p (jobs_of j) → k ≡ lay_jobs j (keep p (jobs_of j))

-- a job as it is lent by itself
abbrev pub lent_job : ℕ → ℕ → ℕ → ℕ → ℕ → ℕ → List ℕ → List ℕ → List ℕ → LentJob
lent_job high low status drain prefix destination marks runs views = record {
  id = record { high = high; low = low };
  status = status;
  drain = drain;
  prefix = prefix;
  destination = destination;
  marks = marks;
  runs = runs;
  views = views;
}

-- the job goes into the table
pub record HasRoom (j : LentJobs) (x : LentJob) : Type 0 where
  pub capacity : AtCapacity j
  pub job_fits : j.count + 1 ≤ max_jobs
  pub entries_fit : sources_used j + length x.marks ≤ max_sources
  pub runs_agree : length x.runs ≡ length x.marks
  pub views_agree : length x.views ≡ 2 * length x.marks

-- k is table j with the job at its place, where its id was not there
pub record Inserts (j : LentJobs) (x : LentJob) (k : LentJobs) : Type 0 where
  pub placed : any (λ y. same_ulid y.id x.id) (jobs_of j) ≡ false → k ≡ lay_jobs j (inserted (job_of x) (jobs_of j))

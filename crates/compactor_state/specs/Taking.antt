-- The job table while a merge changes it: remote jobs taken one by one, and the whole change.
use Rattle.std.specs.Prelude.{ℕ, ◌+◌, ◌<◌, ◌≤◌, ◌≡◌, List, [], ◌∷◌, true, false, cond, length, get_or}
use Rattle.rules.specs.Lists.{any, linked}
use Rattle.rules.specs.Tables.{same_ulid, ulid_below, Job}
use Rattle.rules.specs.Lent.{LentJobs, source_count, sources_used, job_at, jobs_of, sources_of, lay_jobs}
use Rattle.rules.specs.Bounds.{max_jobs, max_sources}
use Rattle.rules.specs.Jobs.{inserted, merged, too_many}
use Rattle.rows.specs.Movers.{marked}
use Rattle.merging.specs.Merge.{adopted, stays, inserted_all, all_new, Flags}
use Rattle.job_rows.specs.Slices.{AtCapacity}

-- the jobs with a flag, where flag i is that of the first
unfoldable pub with_flag : List ℕ → ℕ → List Job → List Job
with_flag flags i [] = []
with_flag flags i (j ∷ js) = cond (marked (get_or flags i 0)) (j ∷ with_flag flags (i + 1) js) (with_flag flags (i + 1) js)

-- remote job i, whose entries begin at entry `at`, stands in its table, and where it has a flag there is room for it in table l
pub record CanTake (l r : LentJobs) (flags : List ℕ) (i at : ℕ) : Type 0 where
  pub here : AtCapacity l
  pub there : AtCapacity r
  pub job : i < r.count
  pub entries : at + source_count r i ≤ max_sources
  pub job_fits : marked (get_or flags i 0) ≡ true → l.count + 1 ≤ max_jobs
  pub entries_fit : marked (get_or flags i 0) ≡ true → sources_used l + source_count r i ≤ max_sources

-- k is table l with remote job i at its place, where it has a flag and its id was not there, and else table l
pub record Took (l r : LentJobs) (flags : List ℕ) (i at : ℕ) (k : LentJobs) : Type 0 where
  pub left : marked (get_or flags i 0) ≡ false → k ≡ l
  pub put : marked (get_or flags i 0) ≡ true → any (λ y. same_ulid y.id (job_at r i at).id) (jobs_of l) ≡ false → k ≡ lay_jobs l (inserted (job_at r i at) (jobs_of l))

-- the remote jobs with a flag are new to table l, which has room for them all
pub record CanTakeAll (l r : LentJobs) (flags : List ℕ) : Type 0 where
  pub here : AtCapacity l
  pub there : AtCapacity r
  pub new : all_new (jobs_of l) (with_flag flags 0 (jobs_of r)) ≡ true
  pub jobs_fit : length (inserted_all (jobs_of l) (with_flag flags 0 (jobs_of r))) ≤ max_jobs
  pub entries_fit : length (sources_of (inserted_all (jobs_of l) (with_flag flags 0 (jobs_of r)))) ≤ max_sources

-- k is the table of which l is laid, with them at their places
pub record TookAll (l r : LentJobs) (flags : List ℕ) (k : LentJobs) : Type 0 where
  pub laid : (base : LentJobs) → l ≡ lay_jobs base (jobs_of l) → k ≡ lay_jobs base (inserted_all (jobs_of l) (with_flag flags 0 (jobs_of r)))

-- what is known when a merge begins to change table l
pub record Ready (l r : LentJobs) (taken staying : List ℕ) : Type 0 where
  pub here : AtCapacity l
  pub there : AtCapacity r
  pub rises : linked (λ (a b : Job). ulid_below a.id b.id) (jobs_of l) ≡ true
  pub rises_there : linked (λ (a b : Job). ulid_below a.id b.id) (jobs_of r) ≡ true
  pub takes : Flags (adopted (jobs_of l)) (jobs_of r) taken
  pub keeps : Flags (stays (adopted (jobs_of l)) (jobs_of r)) (jobs_of l) staying
  pub fits : too_many (merged (jobs_of l) (jobs_of r)) ≡ false

-- What merging finds out before it changes anything: which remote jobs are adopted and which local jobs stay, as flags.
use Rattle.std.specs.Prelude.{ℕ, ◌*◌, ◌<◌, ◌≤◌, ◌≡◌, List, [], ◌∷◌, Bool, true, ◌&&◌, not, length, get_or}
use Rattle.std.proofs.Math.Option.{Option, some, none}
use Rattle.rules.specs.Lists.{any, linked}
use Rattle.rules.specs.Tables.{same_ulid, ulid_below, Job}
use Rattle.rules.specs.Lent.{LentJobs, jobs_of, sources_used}
use Rattle.rules.specs.Bounds.{max_jobs, max_sources}
use Rattle.rules.specs.Jobs.{job_with, inserted, adopts}
use Rattle.rows.specs.Movers.{marked}

-- "The adoption table (local status against remote status)": a remote job against the local ones
abbrev pub adopted : List Job → Job → Bool
adopted known r = adopts (job_with r.id known) r

-- the remote job of an id, if there is one, is not taken
abbrev pub not_taken : (Job → Bool) → Option Job → Bool
not_taken p none = true
not_taken p (some r) = not (p r)

-- "Local jobs missing remotely stay.", and so do those of whose id no remote job is taken
abbrev pub stays : (Job → Bool) → List Job → Job → Bool
stays p rs l = not_taken p (job_with l.id rs)

-- jobs put at their places by id, one after the other
unfoldable pub inserted_all : List Job → List Job → List Job
inserted_all ks [] = ks
inserted_all ks (j ∷ js) = inserted_all (inserted j ks) js

-- none of them has an id that is there when its turn comes
unfoldable pub all_new : List Job → List Job → Bool
all_new ks [] = true
all_new ks (j ∷ js) = not (any (λ k. same_ulid k.id j.id) ks) && all_new (inserted j ks) js

-- a flag for each job, not 0 where p holds
pub record Flags (p : Job → Bool) (js : List Job) (flags : List ℕ) : Type 0 where
  pub room : length flags ≡ max_jobs
  pub says : (d : Job) (k : ℕ) → k < length js → marked (get_or flags k 0) ≡ p (get_or js k d)

-- a table that merging can look at: within the bounds, at capacity and by the rules as far as they are about ids and statuses
pub record GoodRows (j : LentJobs) : Type 0 where
  pub jobs : j.count ≤ max_jobs
  pub id_rows : length j.job_ids ≡ 2 * max_jobs
  pub mark_rows : length j.job_marks ≡ 2 * max_jobs
  pub spec_rows : length j.job_specs ≡ 3 * max_jobs
  pub entries : sources_used j ≤ max_sources
  pub rises : linked (λ (a b : Job). ulid_below a.id b.id) (jobs_of j) ≡ true
  pub status : (k : ℕ) → k < j.count → get_or j.job_marks (2 * k) 0 ≤ 5

-- a table with the count and the slices of table t, those of its source entries aside
pub record HasRows (j t : LentJobs) : Type 0 where
  pub jobs : j.count ≡ t.count
  pub id_rows : j.job_ids ≡ t.job_ids
  pub mark_rows : j.job_marks ≡ t.job_marks
  pub spec_rows : j.job_specs ≡ t.job_specs

-- what is found out of a local and a remote table: the flags
pub record Planned (l r : LentJobs) (taken staying : List ℕ) : Type 0 where
  pub takes : Flags (adopted (jobs_of l)) (jobs_of r) taken
  pub keeps : Flags (stays (adopted (jobs_of l)) (jobs_of r)) (jobs_of l) staying

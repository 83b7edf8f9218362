-- Nothing is lost: what adding, merging, retention, finish and drain leave of the tables that they are lent, and what they may
-- change. Each record relates the lists before a call to those after it.
use Rattle.std.specs.Prelude.{ℕ, ◌+◌, ◌≡◌, ◌⊎◌, Bool, true, false, not, eqb, length}
use mathlib.Core.List.{List, [], ◌∷◌, ◌++◌, map, Memᴰ}
use Rattle.std.proofs.Math.Option.{some, none}
use Rattle.rules.specs.Lists.{keep, last_of}
use Rattle.rules.specs.declared.tables.Ulid.{Ulid}
use Rattle.rules.specs.declared.tables.Run.{Run}
use Rattle.rules.specs.declared.tables.Source.{Source}
use Rattle.rules.specs.declared.tables.SourceId.TheVariants.{SortedRun}
use Rattle.rules.specs.Tables.{same_ulid, ulid_below, Tree, Job, among, run_id, view_id, active, finished, with_status}
use Rattle.rules.specs.Lent.{LentTrees, LentJobs, trees_of, jobs_of, sources_of}
use Rattle.rules.specs.Bounds.{good_jobs}
use Rattle.rules.specs.Validation.{tree_with}
use Rattle.rules.specs.Jobs.{job_with, adopts}
use Rattle.rules.specs.Finish.{named}
use Rattle.rules.specs.Calls.{FinishResult}

-- ---- jobs

-- the jobs of other ids, in their order
abbrev pub others_than : Ulid → List Job → List Job
others_than u js = keep (λ j. not (same_ulid j.id u)) js

-- how many entries have p: with sameness for p, how often an entry stands there
abbrev pub count : (Source → Bool) → List Source → ℕ
count p ss = length (keep p ss)

-- job j is added to the jobs js
pub record Added (j : Job) (js after : List Job) : Type 0 where
  -- it is there with all its entries
  pub new : job_with j.id after ≡ some j
  -- all other jobs are there with the same records, in the same order, and no more: "Adding an id already present replaces
  -- that record."
  pub others : others_than j.id after ≡ others_than j.id js
  -- no entry is lost or doubled
  pub entries : (p : Source → Bool) → count p (sources_of after) ≡ count p (sources_of (others_than j.id js)) + count p j.sources
  -- the table is one that refusal 2 lets pass
  pub good : good_jobs after ≡ true

-- the jobs `remote` are merged into the jobs `known`
pub record Merged (known remote after : List Job) : Type 0 where
  -- "Local jobs missing remotely stay."
  pub stays : (u : Ulid) → job_with u remote ≡ none → job_with u after ≡ job_with u known
  -- so does one whose remote record is not adopted
  pub not_adopted : (u : Ulid) (r : Job) → job_with u remote ≡ some r → adopts (job_with u known) r ≡ false
      → job_with u after ≡ job_with u known
  -- "remote record taken whole when adopted"
  pub adopted : (u : Ulid) (r : Job) → job_with u remote ≡ some r → adopts (job_with u known) r ≡ true
      → job_with u after ≡ some r
  -- no id disappears
  pub ids : (u : Ulid) (x : Job) → job_with u known ≡ some x → (y : Job) × (job_with u after ≡ some y)
  -- no job comes from elsewhere
  pub from : (u : Ulid) (y : Job) → job_with u after ≡ some y → (job_with u known ≡ some y) ⊎ (job_with u remote ≡ some y)
  -- the table is one that refusal 2 lets pass, so that an id has one job
  pub good : good_jobs after ≡ true

-- "Retention keeps active jobs and the finished job of largest id."
pub record Retained (js after : List Job) : Type 0 where
  -- the active jobs are there with the same records, in the same order
  pub actives : keep active after ≡ keep active js
  -- of the finished ones the last
  pub last : keep finished after ≡ last_of 1 (keep finished js)
  -- which has the largest id
  pub largest : (x y : Job) → Memᴰ x js → finished x ≡ true → Memᴰ y after → finished y ≡ true
      → (x ≡ y) ⊎ (ulid_below x.id y.id ≡ true)
  -- no job is there that was not
  pub only : (x : Job) → Memᴰ x after → Memᴰ x js
  -- the table is one that refusal 2 lets pass
  pub good : good_jobs after ≡ true

-- the job of id u gets status n
pub record StatusSet (u : Ulid) (n : ℕ) (js after : List Job) : Type 0 where
  -- all jobs are there, in the same order, with the same records but for statuses
  pub records : map (with_status 0) after ≡ map (with_status 0) js
  -- and the other jobs with the same statuses
  pub others : others_than u after ≡ others_than u js
  pub one : (x : Job) → job_with u js ≡ some x → job_with u after ≡ some (with_status n x)

-- ---- trees

-- the tree of prefix k is changed
pub record OneTree (k : ℕ) (Changed : Tree → Tree → Type 0) (ts after : List Tree) : Type 0 where
  -- all trees are there, in the same order
  pub prefixes : map (λ t. t.prefix) after ≡ map (λ t. t.prefix) ts
  -- the others with the same rows, runs and watermarks
  pub others : keep (λ t. not (eqb t.prefix k)) after ≡ keep (λ t. not (eqb t.prefix k)) ts
  pub own : (t : Tree) → tree_with k ts ≡ some t → (t' : Tree) × (tree_with k after ≡ some t') × Changed t t'

-- "Finish .. : remove source L0 rows, source runs and the destination run; put the output .."
pub record TreeFinished (j : Job) (out : Run) (t t' : Tree) : Type 0 where
  -- the L0 rows that are no sources stay, in their order
  pub rows : t'.l0 ≡ keep (λ v. not (among (view_id v) (named j))) t.l0
  -- the runs are the output, and before and after it those that are no sources and not the destination, in their order
  pub before : List Run
  pub after : List Run
  pub output : t'.runs ≡ before ++ (out ∷ after)
  pub runs : before ++ after ≡ keep (λ r. not (among (run_id r) (named j ++ (SortedRun j.destination ∷ [])))) t.runs

-- "Drain: .. source rows go"
pub record TreeDrained (j : Job) (t t' : Tree) : Type 0 where
  -- the L0 rows and the runs that are no sources stay, in their order
  pub rows : t'.l0 ≡ keep (λ v. not (among (view_id v) (named j))) t.l0
  pub runs : t'.runs ≡ keep (λ r. not (among (run_id r) (named j))) t.runs

-- ---- finish and drain, of the lent tables

-- the jobs with other marks: of the jobs a finish or drain changes no other slice
abbrev pub with_marks : LentJobs → List ℕ → LentJobs
with_marks j marks = record {
  count = j.count;
  job_ids = j.job_ids;
  job_marks = marks;
  job_specs = j.job_specs;
  source_marks = j.source_marks;
  source_runs = j.source_runs;
  source_views = j.source_views;
}

-- what a finish or drain of job u that is not refused leaves
pub record Ended (Changed : Job → Tree → Tree → Type 0) (u : Ulid) (t : LentTrees) (j : LentJobs) (r : FinishResult) : Type 0 where
  -- there is such a job
  pub job : Job
  pub there : job_with u (jobs_of j) ≡ some job
  -- its tree is changed, and its status becomes 4
  pub trees : (x : Tree) → tree_with job.prefix (trees_of t) ≡ some x
      → OneTree job.prefix (Changed job) (trees_of t) (trees_of r.trees)
  pub jobs : (x : Tree) → tree_with job.prefix (trees_of t) ≡ some x
      → StatusSet u 4 (jobs_of j) (jobs_of (with_marks j r.job_marks))
  -- "A missing segment is no refusal: status becomes 5 and nothing else changes."
  pub trees_missing : tree_with job.prefix (trees_of t) ≡ none → r.trees ≡ t
  pub jobs_missing : tree_with job.prefix (trees_of t) ≡ none
      → StatusSet u 5 (jobs_of j) (jobs_of (with_marks j r.job_marks))

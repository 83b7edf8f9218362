-- "Capacities", and refusals 1 and 2 of document 01.
use Rattle.std.specs.Prelude.{ℕ, ◌*◌, List, [], ◌∷◌, map, Bool, false, ◌&&◌, ◌||◌, not, leb, ltb, eqb, length}
use Rattle.rules.specs.Lists.{all, linked, distinct, ◌given◌else◌}
use Rattle.rules.specs.declared.tables.Run.{Run}
use Rattle.rules.specs.declared.tables.Source.{Source}
use Rattle.rules.specs.Tables.{same_ulid, ulid_below, Tree, Job}
use Rattle.rules.specs.Lent.{LentTrees, LentJobs, trees_of, jobs_of, l0_used, runs_used, sources_used, l0_of, runs_of}

-- "1 to 32 trees; 512 L0 rows and 512 runs over all trees; 64 jobs; 1,024 source entries over all jobs; .. at most 64
-- concurrent jobs (0 is allowed)"
abbrev pub max_trees : ℕ
max_trees = 32

abbrev pub max_l0 : ℕ
max_l0 = 512

abbrev pub max_runs : ℕ
max_runs = 512

abbrev pub max_jobs : ℕ
max_jobs = 64

abbrev pub max_sources : ℕ
max_sources = 1024

abbrev pub max_concurrent : ℕ
max_concurrent = 64

-- ---- refusal 1: "a lent table or option lies outside the bounds above on entry (0 trees too)"

unfoldable pub trees_outside : LentTrees → Bool
trees_outside t = eqb t.count 0 || ltb max_trees t.count || ltb max_l0 (l0_used t) || ltb max_runs (runs_used t)

unfoldable pub jobs_outside : LentJobs → Bool
jobs_outside j = ltb max_jobs j.count || ltb max_sources (sources_used j)

-- ---- refusal 2

-- "lent lengths disagree or a table isn't lent at its capacity"
unfoldable pub trees_at_capacity : LentTrees → Bool
trees_at_capacity t =
    eqb (length t.trees) (3 * max_trees)
    && eqb (length t.watermark_marks) (2 * max_trees)
    && eqb (length t.watermarks) (4 * max_trees)
    && eqb (length t.l0_ids) (4 * max_l0)
    && eqb (length t.l0_sizes) max_l0
    && eqb (length t.run_ids) max_runs
    && eqb (length t.run_sizes) max_runs

unfoldable pub jobs_at_capacity : LentJobs → Bool
jobs_at_capacity j =
    eqb (length j.job_ids) (2 * max_jobs)
    && eqb (length j.job_marks) (2 * max_jobs)
    && eqb (length j.job_specs) (3 * max_jobs)
    && eqb (length j.source_marks) max_sources
    && eqb (length j.source_runs) max_sources
    && eqb (length j.source_views) (2 * max_sources)

-- "a mark above 1" is bad
abbrev pub is_mark : ℕ → Bool
is_mark n = leb n 1

-- "first prefix not 0" is bad
abbrev pub first_is_root : List Tree → Bool
first_is_root [] = false
first_is_root (t ∷ ts) = eqb t.prefix 0

-- "run ids not strictly falling in a tree" is bad
unfoldable pub falling_ids : List Run → Bool
falling_ids rs = linked (λ a b. ltb b.id a.id) rs

abbrev pub good_marks : Tree → Bool
good_marks t = is_mark t.watermark.view_mark && is_mark t.watermark.sst_mark

-- "first prefix not 0; a prefix twice; run ids not strictly falling in a tree; a run id or L0 view id twice anywhere; ..
-- a mark above 1" are bad
unfoldable pub good_trees : List Tree → Bool
good_trees ts =
    first_is_root ts
    && distinct eqb (map (λ x. x.prefix) ts)
    && all (λ x. falling_ids x.runs) ts
    && distinct eqb (map (λ r. r.id) (runs_of ts))
    && distinct same_ulid (map (λ v. v.view) (l0_of ts))
    && all good_marks ts

unfoldable pub trees_misshapen : LentTrees → Bool
trees_misshapen t = not (trees_at_capacity t && good_trees (trees_of t))

unfoldable pub good_sources : List Source → Bool
good_sources ss = all (λ s. is_mark s.mark) ss

-- "status above 5 or a mark above 1" is bad, "a job to be added and a spec to validate included"
unfoldable pub good_job : Job → Bool
good_job j = leb j.status 5 && is_mark j.drain && good_sources j.sources

-- "job ids not strictly rising; status above 5 or a mark above 1" are bad
unfoldable pub good_jobs : List Job → Bool
good_jobs js = linked (λ a b. ulid_below a.id b.id) js && all good_job js

unfoldable pub jobs_misshapen : LentJobs → Bool
jobs_misshapen j = not (jobs_at_capacity j && good_jobs (jobs_of j))

-- the three slices of a spec or a job that is lent by itself: "lent lengths disagree" where they are not n, n and 2n long
abbrev pub lengths_agree : List ℕ → List ℕ → List ℕ → Bool
lengths_agree marks runs views = eqb (length runs) (length marks) && eqb (length views) (2 * length marks)

-- ---- "Checks run 1, 2, ..": of one table by itself

unfoldable pub trees_refusal : LentTrees → ℕ
trees_refusal t = 1 given trees_outside t else 2 given trees_misshapen t else 0

unfoldable pub jobs_refusal : LentJobs → ℕ
jobs_refusal j = 1 given jobs_outside j else 2 given jobs_misshapen j else 0

-- What is refused of a job to be added: before the room for it is looked at, and then for want of room.
use Rattle.std.specs.Prelude.{ℕ, ◌+◌, ◌*◌, List, cond, ◌||◌, ltb, get_or}
use Rattle.rules.specs.Lists.{total, ◌given◌else◌}
use Rattle.rules.specs.Lent.{LentJobs, rows_from, jobs_of}
use Rattle.rules.specs.Bounds.{max_jobs, max_sources, jobs_outside, jobs_misshapen}
use Rattle.rows.specs.Movers.{marked}
use Rattle.rules.specs.Jobs.{LentJob, job_of, job_misshapen, clashes}

-- "Checks run 1, 2, then those of the call." "Adding: 10, 14.": all but 14
unfoldable pub refused_first : LentJobs → LentJob → ℕ
refused_first t j =
    1 given jobs_outside t
    else 2 given jobs_misshapen t || job_misshapen j
    else 10 given clashes (job_of j) (jobs_of t)
    else 0

-- 14: "the result exceeds 64 jobs, 1,024 entries": those of the first `count` jobs that have a flag, and one job of n entries
abbrev pub refused_full : List ℕ → List ℕ → ℕ → ℕ → ℕ
refused_full flags specs count n =
    14 given
    ltb max_jobs (total (rows_from (λ k. cond (marked (get_or flags k 0)) 1 0) 0 count) + 1)
    || ltb max_sources (total (rows_from (λ k. cond (marked (get_or flags k 0)) (get_or specs (3 * k + 2) 0) 0) 0 count) + n)
    else 0

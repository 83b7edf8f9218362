-- Retention, by the statuses of the jobs as they lie in the slice.
use Rattle.std.specs.Prelude.{ℕ, ◌*◌, ◌≡◌, List, [], ◌∷◌, map, Bool, ◌&&◌, ◌||◌, not, leb, length, get_or, take}
use Rattle.rules.specs.Lists.{any}
use Rattle.rules.specs.Lent.{LentJobs, rows_from}
use Rattle.rules.specs.Bounds.{max_jobs}
use Rattle.rows.specs.Movers.{marked}

-- "Finished: 4, 5."
abbrev pub finished_status : ℕ → Bool
finished_status s = leb 4 s && leb s 5

-- "Retention keeps active jobs and the finished job of largest id.": of each job, in rising id order, whether it is kept
unfoldable pub kept_statuses : List ℕ → List Bool
kept_statuses [] = []
kept_statuses (s ∷ ss) = (leb s 3 || not (any finished_status ss)) ∷ kept_statuses ss

-- a flag for each job of the table, not 0 where it is kept
pub record Retains (j : LentJobs) (flags : List ℕ) : Type 0 where
  pub room : length flags ≡ max_jobs
  pub says : map marked (take j.count flags) ≡ kept_statuses (rows_from (λ k. get_or j.job_marks (2 * k) 0) 0 j.count)

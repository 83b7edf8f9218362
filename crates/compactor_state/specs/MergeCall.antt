-- What is refused of two tables to be merged.
use Rattle.std.specs.Prelude.{ℕ, ◌||◌}
use Rattle.rules.specs.Lists.{◌given◌else◌}
use Rattle.rules.specs.Lent.{LentJobs}
use Rattle.rules.specs.Bounds.{jobs_outside, jobs_misshapen}

-- "Merge: 1 and 2 on both job tables, then 14.": up to 14
unfoldable pub tables_refusal : LentJobs → LentJobs → ℕ
tables_refusal l r = 1 given jobs_outside l || jobs_outside r else 2 given jobs_misshapen l || jobs_misshapen r else 0

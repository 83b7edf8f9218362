-- Refusals 1 and 2 of a call that is lent trees and jobs.
use Rattle.std.specs.Prelude.{ℕ, ◌||◌}
use Rattle.rules.specs.Lists.{◌given◌else◌}
use Rattle.rules.specs.Lent.{LentTrees, LentJobs}
use Rattle.rules.specs.Bounds.{trees_outside, jobs_outside, trees_misshapen, jobs_misshapen}

-- "Checks run 1, 2, then those of the call.": 1 of either table, then 2 of either
unfoldable pub tables_refusal : LentTrees → LentJobs → ℕ
tables_refusal t j = 1 given trees_outside t || jobs_outside j else 2 given trees_misshapen t || jobs_misshapen j else 0

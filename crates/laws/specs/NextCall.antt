-- What a call leaves, the next call takes: the tables afterwards are not refused 1 or 2.
use Rattle.std.specs.Prelude.{◌≡◌}
use Rattle.rules.specs.Lent.{LentJobs}
use Rattle.rules.specs.Bounds.{trees_refusal, jobs_refusal}
use Rattle.rules.specs.Calls.{FinishResult}
use Rattle.laws.specs.NothingLost.{with_marks}

-- after a finish or drain
pub record NextTakes (j : LentJobs) (r : FinishResult) : Type 0 where
  pub trees : trees_refusal r.trees ≡ 0
  pub jobs : jobs_refusal (with_marks j r.job_marks) ≡ 0

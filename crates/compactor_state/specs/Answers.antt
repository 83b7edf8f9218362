-- What a call that changes the job table answers, and how it leaves the table, its count with it.
use Rattle.std.specs.Prelude.{◌≡◌, Result}
use Rattle.rules.specs.declared.answers.Refusal.{Refusal}
use Rattle.rules.specs.Answers.{jobs_answer}
use Rattle.rules.specs.Lent.{LentJobs}
use Rattle.rules.specs.Calls.{JobsResult}

pub record Answers {A : Type 0} (promised : JobsResult) (answered : Result A Refusal) (left : LentJobs) : Type 0 where
  pub answer : jobs_answer answered left.count ≡ promised.answer
  pub jobs : left ≡ promised.jobs

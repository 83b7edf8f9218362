-- "Where an answer is an enum, the promises use a definition. The definition gives this paper's number and values for each
-- of the enum's cases."
use Rattle.std.specs.Prelude.{ℕ, Result}
use Rattle.std.specs.declared.result.Result.TheVariants.{Ok, Err}
use Rattle.rules.specs.declared.answers.Refusal.{Refusal}
use Rattle.rules.specs.declared.answers.Planned.{Planned as Made}
use Rattle.rules.specs.declared.answers.Finished.{Finished}
use Rattle.rules.specs.declared.answers.Finished.TheVariants.{Committed as Done, SegmentMissing as Missing}
use Rattle.rules.specs.declared.answers.Refusal.TheVariants.{OutOfBounds, Misshapen, BadOptions, SizesTooLarge, PlanTooSmall, UnknownPrefix, NoSources, NotConsecutive, WrongDestination, Clashes, NoSuchJob, WrongKind, RunsOutOfOrder, TableFull}

abbrev pub number_of : Refusal → ℕ
number_of OutOfBounds = 1
number_of Misshapen = 2
number_of BadOptions = 3
number_of SizesTooLarge = 4
number_of PlanTooSmall = 5
number_of UnknownPrefix = 6
number_of NoSources = 7
number_of NotConsecutive = 8
number_of WrongDestination = 9
number_of Clashes = 10
number_of NoSuchJob = 11
number_of WrongKind = 12
number_of RunsOutOfOrder = 13
number_of TableFull = 14

-- 01's number of what a call or a check says, 0 for none
abbrev pub refused : {A : Type 0} → Result A Refusal → ℕ
refused (Ok x) = 0
refused (Err r) = number_of r

-- ---- planning and validation: what they answer, and what the code's answer says of it

pub data PlanAnswer : Type 0 where
  Planned : ℕ → ℕ → PlanAnswer
  Refused : ℕ → PlanAnswer

pub data ValidateAnswer : Type 0 where
  Accepted : ValidateAnswer
  Refused : ℕ → ValidateAnswer

abbrev pub plan_answer : Result Made Refusal → PlanAnswer
plan_answer (Ok made) = PlanAnswer.Planned made.specs made.passes
plan_answer (Err r) = PlanAnswer.Refused (number_of r)

abbrev pub validate_answer : {A : Type 0} → Result A Refusal → ValidateAnswer
validate_answer (Ok x) = Accepted
validate_answer (Err r) = ValidateAnswer.Refused (number_of r)

-- ---- finish and drain: what they answer, and what the code's answer says of it

pub data FinishAnswer : Type 0 where
  Committed : FinishAnswer
  SegmentMissing : FinishAnswer
  Refused : ℕ → FinishAnswer

abbrev pub finish_answer : Result Finished Refusal → FinishAnswer
finish_answer (Ok Done) = FinishAnswer.Committed
finish_answer (Ok Missing) = FinishAnswer.SegmentMissing
finish_answer (Err r) = FinishAnswer.Refused (number_of r)

-- ---- adding, merging, retention: what they answer, and what the code's answer says of it

pub data JobsAnswer : Type 0 where
  Jobs : ℕ → JobsAnswer
  Refused : ℕ → JobsAnswer

-- n is the job count that the table has afterwards
abbrev pub jobs_answer : {A : Type 0} → Result A Refusal → ℕ → JobsAnswer
jobs_answer (Ok x) n = JobsAnswer.Jobs n
jobs_answer (Err r) n = JobsAnswer.Refused (number_of r)

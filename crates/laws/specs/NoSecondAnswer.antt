-- "That no second answer fits is proved": a promise is that the answer and every lent table afterwards ARE what a definition
-- of rules/specs/Calls.antt computes from the input, so that two that keep it are the same. It would not hold of a promise
-- that bounds an answer, or that tells answers by their numbers alone (`Refused 0` has that of an accepted call).
use Rattle.std.specs.Prelude.{ℕ, ◌≡◌, List, Result}
use Rattle.rules.specs.declared.Options.{Options}
use Rattle.rules.specs.declared.answers.Refusal.{Refusal}
use Rattle.rules.specs.declared.answers.Planned.{Planned}
use Rattle.rules.specs.Answers.{number_of, PlanAnswer, plan_answer, ValidateAnswer, validate_answer}
use Rattle.rules.specs.Answers.PlanAnswer.{Refused as plan_refused}
use Rattle.rules.specs.Answers.ValidateAnswer.{Refused as validate_refused}
use Rattle.rules.specs.Answers.{JobsAnswer, jobs_answer}
use Rattle.rules.specs.Answers.JobsAnswer.{Refused as jobs_refused}
use Rattle.rules.specs.declared.answers.Finished.{Finished}
use Rattle.rules.specs.Answers.{FinishAnswer, finish_answer}
use Rattle.rules.specs.Answers.FinishAnswer.{Refused as finish_refused}
use Rattle.rules.specs.declared.tables.Ulid.{Ulid}
use Rattle.rules.specs.declared.tables.Run.{Run}
use Rattle.rules.specs.Lent.{LentTrees, LentJobs}
use Rattle.rules.specs.Planning.{LentPlan}
use Rattle.rules.specs.Validation.{LentSpec}
use Rattle.rules.specs.Jobs.{LentJob}
use Rattle.rules.specs.Calls.{plan_number, plan_values, jobs_number, jobs_values, finish_number, finish_values, PlanResult, plan_call, validate_call, JobsResult, add_call, merge_call, retain_call, FinishResult, finish_call, drain_call}

-- two answers, with the tables afterwards, that both keep the promise of r
abbrev pub OnePlan : PlanResult → Type 0
OnePlan r =
    (a b : PlanAnswer) (p q : LentPlan) → a ≡ r.answer → p ≡ r.plan → b ≡ r.answer → q ≡ r.plan
    → (a ≡ b) × (p ≡ q)

abbrev pub OneJobs : JobsResult → Type 0
OneJobs r =
    (a b : JobsAnswer) (s t : LentJobs) → a ≡ r.answer → s ≡ r.jobs → b ≡ r.answer → t ≡ r.jobs
    → (a ≡ b) × (s ≡ t)

abbrev pub OneFinish : FinishResult → Type 0
OneFinish r =
    (a b : FinishAnswer) (s t : LentTrees) (m n : List ℕ)
    → a ≡ r.answer → s ≡ r.trees → m ≡ r.job_marks → b ≡ r.answer → t ≡ r.trees → n ≡ r.job_marks
    → (a ≡ b) × (s ≡ t) × (m ≡ n)

pub record NoSecondAnswer : Type 0 where
  pub plan : (o : Options) (t : LentTrees) (j : LentJobs) (p : LentPlan) → OnePlan (plan_call o t j p)
  pub validate : (t : LentTrees) (s : LentSpec) (a b : ValidateAnswer) → a ≡ validate_call t s → b ≡ validate_call t s → a ≡ b
  pub add : (t : LentJobs) (j : LentJob) → OneJobs (add_call t j)
  pub merge : (t r : LentJobs) → OneJobs (merge_call t r)
  pub retain : (t : LentJobs) → OneJobs (retain_call t)
  pub finish : (t : LentTrees) (j : LentJobs) (u : Ulid) (out : Run) → OneFinish (finish_call t j u out)
  pub drain : (t : LentTrees) (j : LentJobs) (u : Ulid) → OneFinish (drain_call t j u)
  -- "The definition gives this paper's number and values for each of the enum's cases.": these settle an answer
  pub plan_told : (a b : PlanAnswer) → plan_number a ≡ plan_number b → plan_values a ≡ plan_values b → a ≡ b
  pub jobs_told : (a b : JobsAnswer) → jobs_number a ≡ jobs_number b → jobs_values a ≡ jobs_values b → a ≡ b
  pub finish_told : (a b : FinishAnswer) → finish_number a ≡ finish_number b → finish_values a ≡ finish_values b → a ≡ b
  -- each refusal has a number of its own, so that they settle what the code answers too
  pub refusals : (r s : Refusal) → number_of r ≡ number_of s → r ≡ s
  pub plan_answers : (a b : Result Planned Refusal) → plan_answer a ≡ plan_answer b → a ≡ b
  pub validate_answers : (a b : Result Unit Refusal) → validate_answer a ≡ validate_answer b → a ≡ b
  pub jobs_answers : (a b : Result Unit Refusal) (m n : ℕ) → jobs_answer a m ≡ jobs_answer b n → a ≡ b
  pub finish_answers : (a b : Result Finished Refusal) → finish_answer a ≡ finish_answer b → a ≡ b
  -- and no call answers `Refused 0`
  pub plan_never : (o : Options) (t : LentTrees) (j : LentJobs) (p : LentPlan) → (plan_call o t j p).answer ≡ plan_refused 0 → ⊥
  pub validate_never : (t : LentTrees) (s : LentSpec) → validate_call t s ≡ validate_refused 0 → ⊥
  pub add_never : (t : LentJobs) (j : LentJob) → (add_call t j).answer ≡ jobs_refused 0 → ⊥
  pub merge_never : (t r : LentJobs) → (merge_call t r).answer ≡ jobs_refused 0 → ⊥
  pub retain_never : (t : LentJobs) → (retain_call t).answer ≡ jobs_refused 0 → ⊥
  pub finish_never : (t : LentTrees) (j : LentJobs) (u : Ulid) (out : Run) → (finish_call t j u out).answer ≡ finish_refused 0 → ⊥
  pub drain_never : (t : LentTrees) (j : LentJobs) (u : Ulid) → (drain_call t j u).answer ≡ finish_refused 0 → ⊥

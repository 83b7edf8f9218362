-- What each public call answers and leaves behind: one definition a call. "Each returns its number alone; every lent table
-- and output keeps its bytes."
use Rattle.std.specs.Prelude.{ℕ, zero, suc, List, [], ◌∷◌, length}
use Rattle.std.proofs.Math.Option.{Option, some, none}
use Rattle.rules.specs.declared.Options.{Options}
use Rattle.rules.specs.Answers.{PlanAnswer, ValidateAnswer}
use Rattle.rules.specs.Answers.PlanAnswer.{Planned, Refused as plan_refused}
use Rattle.rules.specs.Answers.ValidateAnswer.{Accepted, Refused as validate_refused}
use Rattle.rules.specs.Answers.{JobsAnswer}
use Rattle.rules.specs.Answers.JobsAnswer.{Jobs, Refused as jobs_refused}
use Rattle.rules.specs.Answers.{FinishAnswer}
use Rattle.rules.specs.Answers.FinishAnswer.{Committed, SegmentMissing, Refused as finish_refused}
use Rattle.rules.specs.declared.tables.Ulid.{Ulid}
use Rattle.rules.specs.declared.tables.Run.{Run}
use Rattle.rules.specs.Tables.{Tree, Job}
use Rattle.rules.specs.Lent.{LentTrees, LentJobs, trees_of, jobs_of, lay_trees, lay_jobs}
use Rattle.rules.specs.Limit.{limit_of}
use Rattle.rules.specs.Plan.{Plan, planned}
use Rattle.rules.specs.Planning.{LentPlan, plan_refusal, lay_plan}
use Rattle.rules.specs.Validation.{LentSpec, tree_with, validate_refusal}
use Rattle.rules.specs.Jobs.{LentJob, job_of, job_with, inserted, merged, retained, add_refusal, merge_refusal, retain_refusal}
use Rattle.rules.specs.Finish.{in_tree, set_status, finish_tree, drain_tree, finish_refusal, drain_refusal}

-- ---- the answers: 01's number, 0 for none, and the values of each case: the specs and passes, the new job count, and 0
-- for a commit or 1 for a missing segment

unfoldable pub plan_number : PlanAnswer → ℕ
plan_number (Planned specs passes) = 0
plan_number (plan_refused n) = n

unfoldable pub plan_values : PlanAnswer → List ℕ
plan_values (Planned specs passes) = specs ∷ passes ∷ []
plan_values (plan_refused n) = []

unfoldable pub validate_number : ValidateAnswer → ℕ
validate_number Accepted = 0
validate_number (validate_refused n) = n

unfoldable pub jobs_number : JobsAnswer → ℕ
jobs_number (Jobs count) = 0
jobs_number (jobs_refused n) = n

unfoldable pub jobs_values : JobsAnswer → List ℕ
jobs_values (Jobs count) = count ∷ []
jobs_values (jobs_refused n) = []

unfoldable pub finish_number : FinishAnswer → ℕ
finish_number Committed = 0
finish_number SegmentMissing = 0
finish_number (finish_refused n) = n

unfoldable pub finish_values : FinishAnswer → List ℕ
finish_values Committed = 0 ∷ []
finish_values SegmentMissing = 1 ∷ []
finish_values (finish_refused n) = []

-- ---- planning

pub record PlanResult : Type 0 where
  pub answer : PlanAnswer
  pub plan : LentPlan

-- the answer has the number of specs, and "the number of passes that picked something"
abbrev pub plan_by : ℕ → Plan → LentPlan → PlanResult
plan_by zero made p = record { answer = Planned (length made.specs) made.passes; plan = lay_plan p made.specs }
plan_by (suc n) made p = record { answer = plan_refused (suc n); plan = p }

unfoldable pub plan_call : Options → LentTrees → LentJobs → LentPlan → PlanResult
plan_call o t j p = plan_by (plan_refusal o t j p) (planned (limit_of o.threshold) o (trees_of t) (jobs_of j)) p

-- ---- validation, which changes no table

abbrev pub validate_by : ℕ → ValidateAnswer
validate_by zero = Accepted
validate_by (suc n) = validate_refused (suc n)

unfoldable pub validate_call : LentTrees → LentSpec → ValidateAnswer
validate_call t s = validate_by (validate_refusal t s)

-- ---- adding, merging, retention

pub record JobsResult : Type 0 where
  pub answer : JobsAnswer
  pub jobs : LentJobs

abbrev pub jobs_by : ℕ → List Job → LentJobs → JobsResult
jobs_by zero js t = record { answer = Jobs (length js); jobs = lay_jobs t js }
jobs_by (suc n) js t = record { answer = jobs_refused (suc n); jobs = t }

unfoldable pub add_call : LentJobs → LentJob → JobsResult
add_call t j = jobs_by (add_refusal t j) (inserted (job_of j) (jobs_of t)) t

unfoldable pub merge_call : LentJobs → LentJobs → JobsResult
merge_call t r = jobs_by (merge_refusal t r) (merged (jobs_of t) (jobs_of r)) t

unfoldable pub retain_call : LentJobs → JobsResult
retain_call t = jobs_by (retain_refusal t) (retained (jobs_of t)) t

-- ---- finish and drain: of the jobs only `job_marks` is lent to change

pub record FinishResult : Type 0 where
  pub answer : FinishAnswer
  pub trees : LentTrees
  pub job_marks : List ℕ

-- "Status becomes 4.", and a drain's "status 4"
abbrev pub marks_at : ℕ → Ulid → LentJobs → List ℕ
marks_at status u j = (lay_jobs j (set_status u status (jobs_of j))).job_marks

-- "A missing segment is no refusal: status becomes 5 and nothing else changes."
abbrev pub finished_in : (Tree → Tree) → Ulid → LentTrees → LentJobs → Option Tree → FinishResult
finished_in f u t j none = record { answer = SegmentMissing; trees = t; job_marks = marks_at 5 u j }
finished_in f u t j (some x) =
    record { answer = Committed; trees = lay_trees t (in_tree x.prefix f (trees_of t)); job_marks = marks_at 4 u j }

abbrev pub finished_for : (Job → Tree → Tree) → Ulid → LentTrees → LentJobs → Option Job → FinishResult
finished_for f u t j none = record { answer = finish_refused 11; trees = t; job_marks = j.job_marks }
finished_for f u t j (some x) = finished_in (f x) u t j (tree_with x.prefix (trees_of t))

abbrev pub finish_by : ℕ → (Job → Tree → Tree) → Ulid → LentTrees → LentJobs → FinishResult
finish_by zero f u t j = finished_for f u t j (job_with u (jobs_of j))
finish_by (suc n) f u t j = record { answer = finish_refused (suc n); trees = t; job_marks = j.job_marks }

unfoldable pub finish_call : LentTrees → LentJobs → Ulid → Run → FinishResult
finish_call t j u out = finish_by (finish_refusal t j u out) (λ x. finish_tree x out) u t j

unfoldable pub drain_call : LentTrees → LentJobs → Ulid → FinishResult
drain_call t j u = finish_by (drain_refusal t j u) drain_tree u t j

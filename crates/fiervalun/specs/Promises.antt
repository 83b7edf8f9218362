-- A C call answers 01's number, 0 where its work is done; values come out through pointers, which "keep their value on a
-- refusal": value k of a case, or where the case has none what stood there.
use Rattle.std.specs.Prelude.{ℕ, ◌≡◌, List, get_or}
use Rattle.rules.specs.Answers.{PlanAnswer}
use Rattle.rules.specs.Answers.{JobsAnswer}
use Rattle.rules.specs.Answers.{FinishAnswer}
use Rattle.rules.specs.Planning.{LentPlan}
use Rattle.rules.specs.Calls.{plan_number, plan_values, PlanResult, jobs_number, jobs_values, JobsResult, finish_number, finish_values, FinishResult}

-- ---- what is told of an answer

-- the specs and the passes
pub record PlanTold (a : PlanAnswer) (number specs passes specs' passes' : ℕ) : Type 0 where
  pub numbered : number ≡ plan_number a
  pub spec_count : specs' ≡ get_or (plan_values a) 0 specs
  pub pass_count : passes' ≡ get_or (plan_values a) 1 passes

-- the new job count
pub record JobsTold (a : JobsAnswer) (number count count' : ℕ) : Type 0 where
  pub numbered : number ≡ jobs_number a
  pub counted : count' ≡ get_or (jobs_values a) 0 count

-- 0 for a commit, 1 for a missing segment
pub record FinishTold (a : FinishAnswer) (number outcome outcome' : ℕ) : Type 0 where
  pub numbered : number ≡ finish_number a
  pub told : outcome' ≡ get_or (finish_values a) 0 outcome

-- ---- what each call promises: what is told, and every slice that it may change

pub record PlanPromise (is : PlanResult) (number : ℕ) (plan : LentPlan) (specs passes specs' passes' : ℕ) : Type 0 where
  pub answer : PlanTold is.answer number specs passes specs' passes'
  pub lent : plan ≡ is.plan

-- adding, merging, retention
pub record JobsPromise (is : JobsResult) (number count count' : ℕ) (ids marks specs entry_marks entry_runs entry_views : List ℕ) : Type 0 where
  pub answer : JobsTold is.answer number count count'
  pub job_ids : ids ≡ is.jobs.job_ids
  pub job_marks : marks ≡ is.jobs.job_marks
  pub job_specs : specs ≡ is.jobs.job_specs
  pub source_marks : entry_marks ≡ is.jobs.source_marks
  pub source_runs : entry_runs ≡ is.jobs.source_runs
  pub source_views : entry_views ≡ is.jobs.source_views

-- finish and drain
pub record FinishPromise (is : FinishResult) (number outcome outcome' : ℕ) (trees' marks watermarks' l0_ids' l0_sizes' run_ids' run_sizes' job_marks' : List ℕ) : Type 0 where
  pub answer : FinishTold is.answer number outcome outcome'
  pub trees : trees' ≡ is.trees.trees
  pub watermark_marks : marks ≡ is.trees.watermark_marks
  pub watermarks : watermarks' ≡ is.trees.watermarks
  pub l0_ids : l0_ids' ≡ is.trees.l0_ids
  pub l0_sizes : l0_sizes' ≡ is.trees.l0_sizes
  pub run_ids : run_ids' ≡ is.trees.run_ids
  pub run_sizes : run_sizes' ≡ is.trees.run_sizes
  pub job_marks : job_marks' ≡ is.job_marks

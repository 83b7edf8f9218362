-- What adding, merging and retention answer, in C's form.
use Prim.Native.Nat.{ℕ}
use mathlib.Core.Path.{ap, ◌∙◌}
use mathlib.Core.List.{List}
use lib.ListN.{get_or}
use Rattle.std.specs.Prelude.{Result}
use Rattle.rules.specs.declared.answers.Refusal.{Refusal}
use Rattle.rules.specs.Answers.{JobsAnswer, jobs_answer}
use Rattle.rules.specs.Tables.{Job}
use Rattle.rules.specs.Lent.{LentJobs}
use Rattle.rules.specs.Calls.{jobs_number, jobs_values, jobs_by}
use Rattle.compactor_state.specs.Answers.{Answers}
use Rattle.fiervalun.specs.Promises.{JobsPromise, JobsTold}

pub promised : {A : Type 0} (n : ℕ) (js : List Job) (t k : LentJobs) {a : Result A Refusal} {number count : ℕ} → Answers (jobs_by n js t) a k → JobsTold (jobs_answer a k.count) number t.count count
    → JobsPromise (jobs_by n js t) number t.count count k.job_ids k.job_marks k.job_specs k.source_marks k.source_runs k.source_views
promised n js t k p told = record {
  answer = record { numbered = told.numbered ∙ ap jobs_number p.answer; counted = told.counted ∙ ap (λ (a : JobsAnswer). get_or (jobs_values a) 0 t.count) p.answer };
  job_ids = ap (λ (j : LentJobs). j.job_ids) p.jobs;
  job_marks = ap (λ (j : LentJobs). j.job_marks) p.jobs;
  job_specs = ap (λ (j : LentJobs). j.job_specs) p.jobs;
  source_marks = ap (λ (j : LentJobs). j.source_marks) p.jobs;
  source_runs = ap (λ (j : LentJobs). j.source_runs) p.jobs;
  source_views = ap (λ (j : LentJobs). j.source_views) p.jobs;
}

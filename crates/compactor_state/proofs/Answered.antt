-- A call that changes the job table, refused and done.
use Prim.Native.Nat.{ℕ, zero, suc}
use mathlib.Core.Path.{◌≡◌, refl, ap}
use mathlib.Core.List.{List}
use native.Mathlib.Omega.{arith}
use Rattle.std.specs.declared.result.Result.TheVariants.{Ok, Err}
use Rattle.rules.specs.declared.answers.Refusal.{Refusal}
use Rattle.rules.specs.Answers.{number_of}
use Rattle.rules.specs.Answers.JobsAnswer.{Jobs, Refused}
use Rattle.rules.specs.Tables.{Job}
use Rattle.rules.specs.Lent.{LentJobs, lay_jobs}
use Rattle.rules.specs.Calls.{jobs_by}
use Rattle.rules.proofs.Refused.{numbered}
use Rattle.compactor_state.specs.Answers.{Answers}

-- "Each returns its number alone; every lent table and output keeps its bytes."
pub call-refused : {A : Type 0} (r : Refusal) {n : ℕ} (js : List Job) (t : LentJobs) → number_of r ≡ n → Answers {A = A} (jobs_by n js t) (Err r) t
call-refused r {n = zero} js t e = absurd (numbered r e)
call-refused r {n = suc n} js t e = record { answer = ap Refused e; jobs = refl }

-- k is the table with the jobs js
pub call-done : {A : Type 0} {x : A} {n : ℕ} (js : List Job) (t k : LentJobs) → n ≡ 0 → k ≡ lay_jobs t js → Answers {A = A} (jobs_by n js t) (Ok x) k
unfolding lay_jobs
call-done {n = suc n} js t k h e = absurd (omega arith)
call-done {n = zero} js t k h e = record { answer = ap (λ (j : LentJobs). Jobs j.count) e; jobs = e }

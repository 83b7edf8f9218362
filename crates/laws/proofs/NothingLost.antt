-- Nothing is lost, of the calls: what they lay reads back.
use Prim.Native.Nat.{ℕ}
use mathlib.Core.Path.{◌≡◌, refl, sym, ap, ◌∙◌, subst}
use mathlib.Core.List.{List}
use mathlib.Core.Bool.{true, false, ◌||◌}
use mathlib.Core.Option.{Option, some, none}
use lib.Dec.{eqb}
use borrow.Author.Tests.{eqb-true, not-false}
use Rattle.rules.specs.declared.tables.Ulid.{Ulid}
use Rattle.rules.specs.declared.tables.Run.{Run}
use Rattle.rules.specs.Tables.{Tree, Job}
use Rattle.rules.specs.Lent.{LentTrees, LentJobs, trees_of, jobs_of}
use Rattle.rules.specs.Bounds.{jobs_outside, good_job, good_jobs, jobs_misshapen, lengths_agree}
use Rattle.rules.specs.Validation.{tree_with}
use Rattle.rules.specs.Jobs.{LentJob, job_of, job_with, inserted, job_misshapen, merged, retained, add_refusal, merge_refusal, retain_refusal}
use Rattle.rules.specs.Finish.{in_tree, finish_tree, drain_tree, finish_refusal, drain_refusal}
use Rattle.rules.specs.Calls.{FinishResult, marks_at, finished_in, finished_for, finish_by, add_call, merge_call, retain_call, finish_call, drain_call}
use Rattle.rules.proofs.Lookups.{and_right, or_left, or_right, found-has}
use Rattle.rules.proofs.Bounds.{jobs-good, jobs-rules}
use Rattle.rules.proofs.ReadBack.{trees-back, jobs-back}
use Rattle.rules.proofs.Refusals.{passed, finish-there, drain-there}
use Rattle.laws.specs.NothingLost.{Added, Merged, Retained, OneTree, StatusSet, TreeFinished, TreeDrained, Ended, with_marks}
use Rattle.laws.proofs.Adding.{added}
use Rattle.laws.proofs.Merging.{merges}
use Rattle.laws.proofs.Retention.{retains}
use Rattle.laws.proofs.Ending.{status-set, marks-read, one-tree, finished-stays, tree-finished, drained-stays, tree-drained}

-- ---- jobs

-- a job that is not refused 2 keeps its rules
job-shapely : (j : LentJob) → job_misshapen j ≡ false → good_job (job_of j) ≡ true
unfolding job_misshapen
job-shapely j h = and_right (lengths_agree j.marks j.runs j.views) (good_job (job_of j)) (not-false _ h)

add-lays : (t : LentJobs) (j : LentJob) → add_refusal t j ≡ 0 → jobs_of (add_call t j).jobs ≡ inserted (job_of j) (jobs_of t)
unfolding add_call
add-lays t j h = rw h (jobs-back t (inserted (job_of j) (jobs_of t)))

pub add-good : (t : LentJobs) (j : LentJob) → add_refusal t j ≡ 0 → (good_jobs (jobs_of t) ≡ true) × (good_job (job_of j) ≡ true)
unfolding add_refusal
add-good t j h =
    let shapely = (passed 1 (jobs_misshapen t || job_misshapen j) _ (passed 0 (jobs_outside t) _ h).1).0 in
    (jobs-rules t (or_left (jobs_misshapen t) (job_misshapen j) shapely), job-shapely j (or_right (jobs_misshapen t) (job_misshapen j) shapely))

pub add-keeps : (t : LentJobs) (j : LentJob) → add_refusal t j ≡ 0 → Added (job_of j) (jobs_of t) (jobs_of (add_call t j).jobs)
add-keeps t j h =
    let good = add-good t j h in
    subst (Added (job_of j) (jobs_of t)) (sym (add-lays t j h)) (added (job_of j) (jobs_of t) good.1 good.0)

merge-lays : (t r : LentJobs) → merge_refusal t r ≡ 0 → jobs_of (merge_call t r).jobs ≡ merged (jobs_of t) (jobs_of r)
unfolding merge_call
merge-lays t r h = rw h (jobs-back t (merged (jobs_of t) (jobs_of r)))

pub merge-good : (t r : LentJobs) → merge_refusal t r ≡ 0 → (good_jobs (jobs_of t) ≡ true) × (good_jobs (jobs_of r) ≡ true)
unfolding merge_refusal
merge-good t r h =
    let shapely = (passed 1 (jobs_misshapen t || jobs_misshapen r) _ (passed 0 (jobs_outside t || jobs_outside r) _ h).1).0 in
    (jobs-rules t (or_left (jobs_misshapen t) (jobs_misshapen r) shapely), jobs-rules r (or_right (jobs_misshapen t) (jobs_misshapen r) shapely))

pub merge_keeps : (t r : LentJobs) → merge_refusal t r ≡ 0 → Merged (jobs_of t) (jobs_of r) (jobs_of (merge_call t r).jobs)
merge_keeps t r h =
    let good = merge-good t r h in
    subst (Merged (jobs_of t) (jobs_of r)) (sym (merge-lays t r h)) (merges (jobs_of t) (jobs_of r) good.0 good.1)

retain-lays : (t : LentJobs) → retain_refusal t ≡ 0 → jobs_of (retain_call t).jobs ≡ retained (jobs_of t)
unfolding retain_call
retain-lays t h = rw h (jobs-back t (retained (jobs_of t)))

pub retain-keeps : (t : LentJobs) → retain_refusal t ≡ 0 → Retained (jobs_of t) (jobs_of (retain_call t).jobs)
retain-keeps t h = subst (Retained (jobs_of t)) (sym (retain-lays t h)) (retains (jobs_of t) (jobs-good t h).rules)

-- ---- finish and drain
module _ (Changed : Job → Tree → Tree → Type 0) (f : Job → Tree → Tree) (stays : (j : Job) (t : Tree) → (f j t).prefix ≡ t.prefix) (changed : (j : Job) (t : Tree) → Changed j t (f j t)) (u : Ulid) (t : LentTrees) (j : LentJobs) where
  -- the job is there
  ended-for : (job : Job) → job_with u (jobs_of j) ≡ some job → (r : FinishResult) → r ≡ finished_for f u t j (some job)
      → Ended Changed u t j r
  ended-for job there r is = record {
    job = job;
    there = there;
    trees = λ x k.
        let same : x.prefix ≡ job.prefix = eqb-true x.prefix job.prefix (found-has (λ c. eqb c.prefix job.prefix) (trees_of t) x k) in
        subst (OneTree job.prefix (Changed job) (trees_of t))
        (sym (ap (λ (y : FinishResult). trees_of y.trees) (result k) ∙ trees-back t (in_tree x.prefix (f job) (trees_of t)) ∙ ap (λ (n : ℕ). in_tree n (f job) (trees_of t)) same))
        (one-tree job.prefix (f job) (stays job) (Changed job) (changed job) (trees_of t));
    jobs = λ x k. marks 4 (ap (λ (y : FinishResult). y.job_marks) (result k));
    trees_missing = λ k. ap (λ (y : FinishResult). y.trees) (result k);
    jobs_missing = λ k. marks 5 (ap (λ (y : FinishResult). y.job_marks) (result k));
  }
    where
      result : {x : Option Tree} → tree_with job.prefix (trees_of t) ≡ x → r ≡ finished_in (f job) u t j x
      result k = is ∙ ap (finished_in (f job) u t j) k

      marks : (n : ℕ) → r.job_marks ≡ marks_at n u j → StatusSet u n (jobs_of j) (jobs_of (with_marks j r.job_marks))
      marks n e = subst (StatusSet u n (jobs_of j)) (sym (ap (λ (m : List ℕ). jobs_of (with_marks j m)) e ∙ marks-read u n j)) (status-set u n (jobs_of j))

  ended : (r : FinishResult) → r ≡ finished_for f u t j (job_with u (jobs_of j)) → (job_with u (jobs_of j) ≡ none → ⊥)
      → Ended Changed u t j r
  ended r is there = go (job_with u (jobs_of j)) refl
    where
      go : (x : Option Job) → job_with u (jobs_of j) ≡ x → Ended Changed u t j r
      go none e = absurd (there e)
      go (some x) e = ended-for x e r (is ∙ ap (finished_for f u t j) e)

pub finish-keeps : (t : LentTrees) (j : LentJobs) (u : Ulid) (out : Run) → finish_refusal t j u out ≡ 0
    → Ended (λ x. TreeFinished x out) u t j (finish_call t j u out)
unfolding finish_call
finish-keeps t j u out h =
    ended (λ x. TreeFinished x out) (λ x. finish_tree x out) (λ x. finished-stays x out) (λ x. tree-finished x out) u t j (finish_call t j u out)
    (ap (λ (n : ℕ). finish_by n (λ x. finish_tree x out) u t j) h) (finish-there t j u out h)

pub drain-keeps : (t : LentTrees) (j : LentJobs) (u : Ulid) → drain_refusal t j u ≡ 0 → Ended TreeDrained u t j (drain_call t j u)
unfolding drain_call
drain-keeps t j u h =
    ended TreeDrained drain_tree drained-stays tree-drained u t j (drain_call t j u)
    (ap (λ (n : ℕ). finish_by n drain_tree u t j) h) (drain-there t j u h)

-- Each call's answer carries its refusal's number, and "every lent table and output keeps its bytes" where it is refused.
use Prim.Native.Nat.{ℕ, zero, suc}
use mathlib.Core.Path.{◌≡◌, refl, sym, ap, ◌∙◌}
use mathlib.Core.List.{List}
use mathlib.Core.Bool.{Bool, true, false, ◌||◌}
use mathlib.Core.Option.{Option, some, none}
use native.Mathlib.Omega.{arith}
use Rattle.rules.specs.declared.Options.{Options}
use Rattle.rules.specs.Lists.{◌given◌else◌}
use Rattle.rules.specs.declared.tables.Ulid.{Ulid}
use Rattle.rules.specs.declared.tables.Run.{Run}
use Rattle.rules.specs.Tables.{Tree, Job}
use Rattle.rules.specs.Lent.{LentTrees, LentJobs, trees_of, jobs_of}
use Rattle.rules.specs.Bounds.{trees_outside, jobs_outside, trees_misshapen, jobs_misshapen}
use Rattle.rules.specs.Limit.{limit_of}
use Rattle.rules.specs.Plan.{Plan, planned}
use Rattle.rules.specs.Planning.{LentPlan, plan_refusal}
use Rattle.rules.specs.Validation.{LentSpec, tree_with, validate_refusal}
use Rattle.rules.specs.Jobs.{LentJob, job_of, job_with, inserted, merged, retained, add_refusal, merge_refusal, retain_refusal}
use Rattle.rules.specs.Finish.{finish_tree, drain_tree, finish_job_refusal, finish_refusal, drain_job_refusal, drain_refusal}
use Rattle.rules.specs.Calls.{plan_number, validate_number, jobs_number, finish_number, plan_by, plan_call, validate_by, validate_call, jobs_by, add_call, merge_call, retain_call, finished_in, finished_for, finish_by, finish_call, drain_call}

-- ---- planning

plan-by : (n : ℕ) (made : Plan) (p : LentPlan) → plan_number (plan_by n made p).answer ≡ n
unfolding plan_number
plan-by zero made p = refl
plan-by (suc n) made p = refl

pub plan-number : (o : Options) (t : LentTrees) (j : LentJobs) (p : LentPlan) → plan_number (plan_call o t j p).answer ≡ plan_refusal o t j p
unfolding plan_call
plan-number o t j p = plan-by (plan_refusal o t j p) (planned (limit_of o.threshold) o (trees_of t) (jobs_of j)) p

pub plan-refused : (o : Options) (t : LentTrees) (j : LentJobs) (p : LentPlan) (n : ℕ) → plan_refusal o t j p ≡ suc n → (plan_call o t j p).plan ≡ p
unfolding plan_call
plan-refused o t j p n e = rw e

-- ---- validation

validate-by : (n : ℕ) → validate_number (validate_by n) ≡ n
unfolding validate_number
validate-by zero = refl
validate-by (suc n) = refl

pub validate-number : (t : LentTrees) (s : LentSpec) → validate_number (validate_call t s) ≡ validate_refusal t s
unfolding validate_call
validate-number t s = validate-by (validate_refusal t s)

-- ---- adding, merging, retention

jobs-by : (n : ℕ) (js : List Job) (t : LentJobs) → jobs_number (jobs_by n js t).answer ≡ n
unfolding jobs_number
jobs-by zero js t = refl
jobs-by (suc n) js t = refl

pub add-number : (t : LentJobs) (j : LentJob) → jobs_number (add_call t j).answer ≡ add_refusal t j
unfolding add_call
add-number t j = jobs-by (add_refusal t j) (inserted (job_of j) (jobs_of t)) t

pub add-refused : (t : LentJobs) (j : LentJob) (n : ℕ) → add_refusal t j ≡ suc n → (add_call t j).jobs ≡ t
unfolding add_call
add-refused t j n e = rw e

pub merge-number : (t r : LentJobs) → jobs_number (merge_call t r).answer ≡ merge_refusal t r
unfolding merge_call
merge-number t r = jobs-by (merge_refusal t r) (merged (jobs_of t) (jobs_of r)) t

pub merge-refused : (t r : LentJobs) (n : ℕ) → merge_refusal t r ≡ suc n → (merge_call t r).jobs ≡ t
unfolding merge_call
merge-refused t r n e = rw e

pub retain-number : (t : LentJobs) → jobs_number (retain_call t).answer ≡ retain_refusal t
unfolding retain_call
retain-number t = jobs-by (retain_refusal t) (retained (jobs_of t)) t

pub retain-refused : (t : LentJobs) (n : ℕ) → retain_refusal t ≡ suc n → (retain_call t).jobs ≡ t
unfolding retain_call
retain-refused t n e = rw e

-- ---- finish and drain

-- a refusal of the job's own, behind 1 and 2
own : (a b : Bool) (n : ℕ) → (1 given a else 2 given b else n) ≡ 0 → n ≡ 0
own true b n h = absurd (omega arith)
own false true n h = absurd (omega arith)
own false false n h = h

-- where the work is done there is a job, and its answer has no number
finished-in : (f : Tree → Tree) (u : Ulid) (t : LentTrees) (j : LentJobs) (x : Option Tree) → finish_number (finished_in f u t j x).answer ≡ 0
unfolding finish_number
finished-in f u t j none = refl
finished-in f u t j (some x) = refl

finish-by : (n : ℕ) (f : Job → Tree → Tree) (u : Ulid) (t : LentTrees) (j : LentJobs) → (n ≡ 0 → job_with u (jobs_of j) ≡ none → ⊥) → finish_number (finish_by n f u t j).answer ≡ n
unfolding finish_number
finish-by (suc n) f u t j there = refl
finish-by zero f u t j there = go (job_with u (jobs_of j)) refl
  where
    go : (x : Option Job) → job_with u (jobs_of j) ≡ x → finish_number (finished_for f u t j x).answer ≡ 0
    go none e = absurd (there refl e)
    go (some x) e = finished-in (f x) u t j (tree_with x.prefix (trees_of t))

-- with no job the refusal is 11 at the latest
no-job : (a b : Bool) → (1 given a else 2 given b else 11) ≡ 0 → ⊥
no-job a b h = let z : ◌≡◌ {A = ℕ} 11 0 = own a b 11 h in omega arith

module _ (t : LentTrees) (j : LentJobs) (u : Ulid) where
  abbrev first : ℕ → ℕ
  first later = 1 given trees_outside t || jobs_outside j else 2 given trees_misshapen t || jobs_misshapen j else later

  pub finish-there : (out : Run) → finish_refusal t j u out ≡ 0 → job_with u (jobs_of j) ≡ none → ⊥
  unfolding finish_refusal finish_job_refusal
  finish-there out z e =
      no-job (trees_outside t || jobs_outside j) (trees_misshapen t || jobs_misshapen j)
      (sym (ap (λ (x : Option Job). first (finish_job_refusal out (trees_of t) x)) e) ∙ z)

  pub drain-there : drain_refusal t j u ≡ 0 → job_with u (jobs_of j) ≡ none → ⊥
  unfolding drain_refusal drain_job_refusal
  drain-there z e =
      no-job (trees_outside t || jobs_outside j) (trees_misshapen t || jobs_misshapen j)
      (sym (ap (λ (x : Option Job). first (drain_job_refusal x)) e) ∙ z)

  pub finish-number : (out : Run) → finish_number (finish_call t j u out).answer ≡ finish_refusal t j u out
  unfolding finish_call
  finish-number out = finish-by (finish_refusal t j u out) (λ x. finish_tree x out) u t j (finish-there out)

  pub drain-number : finish_number (drain_call t j u).answer ≡ drain_refusal t j u
  unfolding drain_call
  drain-number = finish-by (drain_refusal t j u) drain_tree u t j drain-there

pub finish-refused : (t : LentTrees) (j : LentJobs) (u : Ulid) (out : Run) (n : ℕ) → finish_refusal t j u out ≡ suc n → ((finish_call t j u out).trees ≡ t) × ((finish_call t j u out).job_marks ≡ j.job_marks)
unfolding finish_call
finish-refused t j u out n e = (rw e, rw e)

pub drain-refused : (t : LentTrees) (j : LentJobs) (u : Ulid) (n : ℕ) → drain_refusal t j u ≡ suc n → ((drain_call t j u).trees ≡ t) × ((drain_call t j u).job_marks ≡ j.job_marks)
unfolding drain_call
drain-refused t j u n e = (rw e, rw e)

-- ---- a check that is passed, and those after it
pub passed : (n : ℕ) (b : Bool) (later : ℕ) → (suc n given b else later) ≡ 0 → (b ≡ false) × (later ≡ 0)
passed n true later h = absurd (omega arith)
passed n false later h = (refl, h)

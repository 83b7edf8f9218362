-- No second answer: what equals one thing is one thing, and a refusal's number is never 0.
use Prim.Native.Nat.{ℕ, zero, suc}
use mathlib.Core.Path.{◌≡◌, refl, sym, ap, ◌∙◌}
use mathlib.Core.List.{List, [], ◌∷◌, nil≢cons}
use mathlib.Core.Option.{Option, some, none}
use native.Mathlib.Omega.{arith}
use Rattle.rules.specs.declared.answers.Refusal.{Refusal}
use Rattle.rules.specs.declared.answers.Planned.{Planned as Made}
use Rattle.rules.specs.Answers.{PlanAnswer, plan_answer, validate_answer}
use Rattle.rules.specs.Answers.PlanAnswer.{Planned, Refused as plan_refused}
use Rattle.rules.specs.Answers.ValidateAnswer.{Refused as validate_refused}
use Rattle.std.specs.Prelude.{Result}
use Rattle.std.specs.declared.result.Result.TheVariants.{Ok, Err}
use Rattle.rules.proofs.Refused.{numbered, one-number}
use Rattle.rules.specs.Answers.{JobsAnswer, jobs_answer}
use Rattle.rules.specs.Answers.JobsAnswer.{Jobs, Refused as jobs_refused}
use Rattle.rules.specs.declared.answers.Finished.{Finished}
use Rattle.rules.specs.declared.answers.Finished.TheVariants.{Committed as Done, SegmentMissing as Missing}
use Rattle.rules.specs.Answers.{FinishAnswer, finish_answer}
use Rattle.rules.specs.Answers.FinishAnswer.{Committed, SegmentMissing, Refused as finish_refused}
use Rattle.rules.specs.declared.tables.Ulid.{Ulid}
use Rattle.rules.specs.Tables.{Tree, Job}
use Rattle.rules.specs.Lent.{LentTrees, LentJobs, trees_of, jobs_of}
use Rattle.rules.specs.Limit.{limit_of}
use Rattle.rules.specs.Plan.{Plan, planned}
use Rattle.rules.specs.Planning.{LentPlan, plan_refusal}
use Rattle.rules.specs.Validation.{tree_with, validate_refusal}
use Rattle.rules.specs.Jobs.{job_of, job_with, inserted, merged, retained, add_refusal, merge_refusal, retain_refusal}
use Rattle.rules.specs.Finish.{finish_tree, drain_tree, finish_refusal, drain_refusal}
use Rattle.rules.specs.Calls.{plan_number, plan_values, validate_number, jobs_number, jobs_values, finish_number, finish_values, PlanResult, plan_by, plan_call, validate_by, validate_call, JobsResult, jobs_by, add_call, merge_call, retain_call, FinishResult, finished_in, finished_for, finish_by, finish_call, drain_call}
use Rattle.laws.specs.NoSecondAnswer.{OnePlan, OneJobs, OneFinish, NoSecondAnswer}

-- ---- two that keep a promise
one-plan : (r : PlanResult) → OnePlan r
one-plan r a b p q h i k l = (h ∙ sym k, i ∙ sym l)

one-jobs : (r : JobsResult) → OneJobs r
one-jobs r a b s t h i k l = (h ∙ sym k, i ∙ sym l)

one-finish : (r : FinishResult) → OneFinish r
one-finish r a b s t m n h i e k l f = (h ∙ sym k, i ∙ sym l, e ∙ sym f)

-- ---- number and values settle an answer
plan-told : (a b : PlanAnswer) → plan_number a ≡ plan_number b → plan_values a ≡ plan_values b → a ≡ b
unfolding plan_number plan_values
plan-told (Planned s p) (Planned t q) n v = let same : s ≡ t = cc in let more : p ≡ q = cc in rw (same, more)
plan-told (Planned s p) (plan_refused m) n v = absurd (nil≢cons (sym v))
plan-told (plan_refused m) (Planned s p) n v = absurd (nil≢cons v)
plan-told (plan_refused m) (plan_refused k) n v = ap plan_refused n

jobs-told : (a b : JobsAnswer) → jobs_number a ≡ jobs_number b → jobs_values a ≡ jobs_values b → a ≡ b
unfolding jobs_number jobs_values
jobs-told (Jobs s) (Jobs t) n v = let same : s ≡ t = cc in ap Jobs same
jobs-told (Jobs s) (jobs_refused m) n v = absurd (nil≢cons (sym v))
jobs-told (jobs_refused m) (Jobs s) n v = absurd (nil≢cons v)
jobs-told (jobs_refused m) (jobs_refused k) n v = ap jobs_refused n

finish-told : (a b : FinishAnswer) → finish_number a ≡ finish_number b → finish_values a ≡ finish_values b → a ≡ b
unfolding finish_number finish_values
finish-told Committed Committed n v = refl
finish-told Committed SegmentMissing n v = absurd (let z : ◌≡◌ {A = ℕ} 0 1 = cc in omega arith)
finish-told Committed (finish_refused m) n v = absurd (nil≢cons (sym v))
finish-told SegmentMissing Committed n v = absurd (let z : ◌≡◌ {A = ℕ} 1 0 = cc in omega arith)
finish-told SegmentMissing SegmentMissing n v = refl
finish-told SegmentMissing (finish_refused m) n v = absurd (nil≢cons (sym v))
finish-told (finish_refused m) Committed n v = absurd (nil≢cons v)
finish-told (finish_refused m) SegmentMissing n v = absurd (nil≢cons v)
finish-told (finish_refused m) (finish_refused k) n v = ap finish_refused n

-- ---- and so does what is said of the code's answer
plan-answers : (a b : Result Made Refusal) → plan_answer a ≡ plan_answer b → a ≡ b
unfolding plan_values plan_number
plan-answers (Ok x) (Ok y) e = let specs : x.specs ≡ y.specs = cc in let passes : x.passes ≡ y.passes = cc in λ i. Ok (record { specs = specs i; passes = passes i })
plan-answers (Ok x) (Err s) e = absurd (nil≢cons (sym (ap plan_values e)))
plan-answers (Err r) (Ok y) e = absurd (nil≢cons (ap plan_values e))
plan-answers (Err r) (Err s) e = ap Err (one-number r s (ap plan_number e))

validate-answers : (a b : Result Unit Refusal) → validate_answer a ≡ validate_answer b → a ≡ b
unfolding validate_number
validate-answers (Ok x) (Ok y) e = ap Ok refl
validate-answers (Ok x) (Err s) e = absurd (numbered s (sym (ap validate_number e)))
validate-answers (Err r) (Ok y) e = absurd (numbered r (ap validate_number e))
validate-answers (Err r) (Err s) e = ap Err (one-number r s (ap validate_number e))

jobs-answers : (a b : Result Unit Refusal) (m n : ℕ) → jobs_answer a m ≡ jobs_answer b n → a ≡ b
unfolding jobs_number
jobs-answers (Ok x) (Ok y) m n e = ap Ok refl
jobs-answers (Ok x) (Err s) m n e = absurd (numbered s (sym (ap jobs_number e)))
jobs-answers (Err r) (Ok y) m n e = absurd (numbered r (ap jobs_number e))
jobs-answers (Err r) (Err s) m n e = ap Err (one-number r s (ap jobs_number e))

finish-answers : (a b : Result Finished Refusal) → finish_answer a ≡ finish_answer b → a ≡ b
unfolding finish_number finish_values
finish-answers (Ok Done) (Ok Done) e = refl
finish-answers (Ok Done) (Ok Missing) e = absurd (let z : ◌≡◌ {A = List ℕ} (0 ∷ []) (1 ∷ []) = ap finish_values e in let y : ◌≡◌ {A = ℕ} 0 1 = cc in omega arith)
finish-answers (Ok Missing) (Ok Done) e = absurd (let z : ◌≡◌ {A = List ℕ} (1 ∷ []) (0 ∷ []) = ap finish_values e in let y : ◌≡◌ {A = ℕ} 1 0 = cc in omega arith)
finish-answers (Ok Missing) (Ok Missing) e = refl
finish-answers (Ok Done) (Err s) e = absurd (nil≢cons (sym (ap finish_values e)))
finish-answers (Ok Missing) (Err s) e = absurd (nil≢cons (sym (ap finish_values e)))
finish-answers (Err r) (Ok Done) e = absurd (nil≢cons (ap finish_values e))
finish-answers (Err r) (Ok Missing) e = absurd (nil≢cons (ap finish_values e))
finish-answers (Err r) (Err s) e = ap Err (one-number r s (ap finish_number e))

-- ---- no refusal has number 0
plan-never : (n : ℕ) (made : Plan) (p : LentPlan) → (plan_by n made p).answer ≡ plan_refused 0 → ⊥
unfolding plan_values plan_number
plan-never zero made p e = nil≢cons (sym (ap plan_values e))
plan-never (suc n) made p e = let z : suc n ≡ 0 = ap plan_number e in omega arith

validate-never : (n : ℕ) → validate_by n ≡ validate_refused 0 → ⊥
unfolding validate_number
validate-never zero e = let z : ◌≡◌ {A = ℕ} 0 1 = cc in omega arith
validate-never (suc n) e = let z : suc n ≡ 0 = ap validate_number e in omega arith

jobs-never : (n : ℕ) (js : List Job) (t : LentJobs) → (jobs_by n js t).answer ≡ jobs_refused 0 → ⊥
unfolding jobs_values jobs_number
jobs-never zero js t e = nil≢cons (sym (ap jobs_values e))
jobs-never (suc n) js t e = let z : suc n ≡ 0 = ap jobs_number e in omega arith

finish-never : (n : ℕ) (f : Job → Tree → Tree) (u : Ulid) (t : LentTrees) (j : LentJobs) → (finish_by n f u t j).answer ≡ finish_refused 0 → ⊥
unfolding finish_values finish_number
finish-never (suc n) f u t j e = let z : suc n ≡ 0 = ap finish_number e in omega arith
finish-never zero f u t j e = go (job_with u (jobs_of j)) e
  where
    in-tree : (g : Tree → Tree) (x : Option Tree) → (finished_in g u t j x).answer ≡ finish_refused 0 → ⊥
    in-tree g none e = nil≢cons (sym (ap finish_values e))
    in-tree g (some x) e = nil≢cons (sym (ap finish_values e))

    go : (x : Option Job) → (finished_for f u t j x).answer ≡ finish_refused 0 → ⊥
    go none e = let z : ◌≡◌ {A = ℕ} 11 0 = ap finish_number e in omega arith
    go (some x) e = in-tree (f x) (tree_with x.prefix (trees_of t)) e

pub no-second-answer : NoSecondAnswer
unfolding plan_call validate_call add_call merge_call retain_call finish_call drain_call
no-second-answer = record {
  plan = λ o t j p. one-plan (plan_call o t j p);
  validate = λ t s a b h k. h ∙ sym k;
  add = λ t j. one-jobs (add_call t j);
  merge = λ t r. one-jobs (merge_call t r);
  retain = λ t. one-jobs (retain_call t);
  finish = λ t j u out. one-finish (finish_call t j u out);
  drain = λ t j u. one-finish (drain_call t j u);
  plan_told = plan-told;
  jobs_told = jobs-told;
  finish_told = finish-told;
  refusals = one-number;
  plan_answers = plan-answers;
  validate_answers = validate-answers;
  jobs_answers = jobs-answers;
  finish_answers = finish-answers;
  plan_never = λ o t j p e. plan-never (plan_refusal o t j p) (planned (limit_of o.threshold) o (trees_of t) (jobs_of j)) p e;
  validate_never = λ t s e. validate-never (validate_refusal t s) e;
  add_never = λ t j e. jobs-never (add_refusal t j) (inserted (job_of j) (jobs_of t)) t e;
  merge_never = λ t r e. jobs-never (merge_refusal t r) (merged (jobs_of t) (jobs_of r)) t e;
  retain_never = λ t e. jobs-never (retain_refusal t) (retained (jobs_of t)) t e;
  finish_never = λ t j u out e. finish-never (finish_refusal t j u out) (λ x. finish_tree x out) u t j e;
  drain_never = λ t j u e. finish-never (drain_refusal t j u) drain_tree u t j e;
}

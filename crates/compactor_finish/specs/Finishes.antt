-- What finish and drain find, as the change needs it, and what a call leaves.
use Rattle.std.specs.Prelude.{ℕ, ◌+◌, ◌*◌, ◌≤◌, ◌<◌, ◌≡◌, List, Bool, length, get_or, set, Result}
use Rattle.std.specs.declared.result.Result.TheVariants.{Ok, Err}
use Rattle.rules.specs.declared.answers.Refusal.{Refusal}
use Rattle.rules.specs.declared.answers.Finished.{Finished}
use Rattle.rules.specs.Answers.{number_of, finish_answer}
use Rattle.rules.specs.Answers.FinishAnswer.{Committed, SegmentMissing, Refused as refused}
use Rattle.rules.specs.Lists.{keep}
use Rattle.rules.specs.declared.tables.Ulid.{Ulid}
use Rattle.rules.specs.declared.tables.Run.{Run}
use Rattle.rules.specs.declared.tables.Watermark.{Watermark}
use Rattle.rules.specs.Tables.{L0Row, Tree}
use Rattle.rules.specs.Lent.{LentTrees, LentJobs, trees_of, lay_trees, runs_of}
use Rattle.rules.specs.Bounds.{max_l0, max_runs, trees_refusal, jobs_refusal}
use Rattle.rules.specs.Calls.{FinishResult, finish_call, drain_call}
use Rattle.tree_rows.specs.Change.{changed_at, keep_rows, put_run, put_watermark, L0Flags, RunFlags}
use Rattle.tree_rows.specs.Slices.{runs_before}
use Rattle.finishing.specs.declared.work.Work.{Work}
use Rattle.finishing.specs.Finding.{job_in, JobFound, TreeOrNone}
use Rattle.compactor_finish.specs.declared.finish.Change.{Change}
use Rattle.compactor_finish.specs.Ending.{with_marks}

-- "Each returns its number alone; every lent table and output keeps its bytes."
abbrev pub refused_with : ℕ → LentTrees → LentJobs → FinishResult
refused_with n t j = record { answer = refused n; trees = t; job_marks = j.job_marks }

-- 1, 2, 11, 12 or 7: the call is refused so, whatever the output
pub record Refuses (t : LentTrees) (j : LentJobs) (u : Ulid) (kind n : ℕ) : Type 0 where
  pub finish : kind ≡ 0 → (out : Run) → finish_call t j u out ≡ refused_with n t j
  pub drain : kind ≡ 1 → drain_call t j u ≡ refused_with n t j

-- both tables are good, and the job is found, and its tree where the segment is there
pub record Finds (t : LentTrees) (j : LentJobs) (u : Ulid) (kind : ℕ) (w : Work) : Type 0 where
  pub trees : trees_refusal t ≡ 0
  pub jobs : jobs_refusal j ≡ 0
  pub job : JobFound j u kind w.job
  pub tree : TreeOrNone t (job_in j w.job).prefix w.tree

abbrev pub WorkCase : LentTrees → LentJobs → Ulid → ℕ → Result Work Refusal → Type 0
WorkCase t j u kind (Err r) = Refuses t j u kind (number_of r)
WorkCase t j u kind (Ok w) = Finds t j u kind w

-- "A missing segment is no refusal: status becomes 5 and nothing else changes."
pub record SegmentGone (x : FinishResult) (t : LentTrees) (j : LentJobs) (job : ℕ) : Type 0 where
  pub room : 2 * job < length j.job_marks
  pub is : x ≡ record { answer = SegmentMissing; trees = t; job_marks = set j.job_marks (2 * job) 5 }

-- the flags keep the rows with p and the runs with q of the tree, among which there is room for the output after k runs, and the
-- watermark is w
pub record Commits (x : FinishResult) (t : LentTrees) (j : LentJobs) (out : Run) (job tree at : ℕ) (w : Watermark) (l0_kept runs_kept : List ℕ) : Type 0 where
  pub p : L0Row → Bool
  pub q : Run → Bool
  pub k : ℕ
  pub good : trees_refusal t ≡ 0
  pub room : 2 * job < length j.job_marks
  pub there : tree < t.count
  pub rows : L0Flags t tree p l0_kept
  pub runs : RunFlags t tree q runs_kept
  pub l0_long : length l0_kept ≡ max_l0
  pub runs_long : length runs_kept ≡ max_runs
  pub fits : length (runs_of (changed_at tree (keep_rows p q) (trees_of t))) + 1 ≤ max_runs
  pub place : at ≡ runs_before t.trees tree + k
  pub low : (d : Tree) → k ≤ length (keep q (get_or (trees_of t) tree d).runs)
  pub is : x ≡ record { answer = Committed; trees = lay_trees t (changed_at tree (λ y. put_watermark w (put_run k out (keep_rows p q y))) (trees_of t)); job_marks = set j.job_marks (2 * job) 4 }

abbrev pub FinishCase : LentTrees → LentJobs → Ulid → Run → ℕ → ℕ → List ℕ → List ℕ → Result Change Refusal → Type 0
FinishCase t j u out job tree l0_kept runs_kept (Err r) = finish_call t j u out ≡ refused_with (number_of r) t j
FinishCase t j u out job tree l0_kept runs_kept (Ok c) = Commits (finish_call t j u out) t j out job tree c.at c.watermark l0_kept runs_kept

-- the same of a drain, which puts no run in
pub record Drains (x : FinishResult) (t : LentTrees) (j : LentJobs) (job tree : ℕ) (w : Watermark) (l0_kept runs_kept : List ℕ) : Type 0 where
  pub p : L0Row → Bool
  pub q : Run → Bool
  pub good : trees_refusal t ≡ 0
  pub room : 2 * job < length j.job_marks
  pub there : tree < t.count
  pub rows : L0Flags t tree p l0_kept
  pub runs : RunFlags t tree q runs_kept
  pub l0_long : length l0_kept ≡ max_l0
  pub runs_long : length runs_kept ≡ max_runs
  pub is : x ≡ record { answer = Committed; trees = lay_trees t (changed_at tree (λ y. put_watermark w (keep_rows p q y)) (trees_of t)); job_marks = set j.job_marks (2 * job) 4 }

-- what a call answers and leaves
pub record Leaves (x : FinishResult) (j : LentJobs) (answer' : Result Finished Refusal) (trees' : LentTrees) (jobs' : LentJobs) : Type 0 where
  pub answer : finish_answer answer' ≡ x.answer
  pub trees : trees' ≡ x.trees
  pub jobs : jobs' ≡ with_marks x.job_marks j

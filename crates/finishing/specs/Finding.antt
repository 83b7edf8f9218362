-- What finish and drain find before they change anything.
use Rattle.std.specs.Prelude.{ℕ, ◌+◌, ◌*◌, ◌≤◌, ◌<◌, ◌≡◌, List, [], ◌∷◌, ◌++◌, Bool, cond, eqb, length, get_or, Result}
use Rattle.std.specs.declared.option.Option.{Option}
use Rattle.std.specs.declared.option.Option.TheVariants.{None, Some}
use Rattle.std.specs.declared.result.Result.TheVariants.{Ok, Err}
use Rattle.std.proofs.Math.Option.{some, none}
use Rattle.rules.specs.Lists.{total}
use Rattle.rules.specs.declared.tables.Ulid.{Ulid}
use Rattle.rules.specs.declared.tables.Run.{Run}
use Rattle.rules.specs.declared.tables.SourceId.{SourceId}
use Rattle.rules.specs.declared.tables.SourceId.TheVariants.{SortedRun}
use Rattle.rules.specs.Tables.{Job, id_of}
use Rattle.rules.specs.Lent.{LentTrees, LentJobs, rows_from, source_at, tree_at, trees_of, job_at, jobs_of, l0_count, run_count, source_count}
use Rattle.rules.specs.Validation.{tree_with}
use Rattle.rules.specs.Jobs.{job_with}
use Rattle.rules.specs.Finish.{finish_job_refusal, drain_job_refusal}
use Rattle.rules.specs.declared.answers.Refusal.{Refusal}
use Rattle.rules.specs.Answers.{number_of}
use Rattle.rows.specs.declared.sources.Sources.{Sources}
use Rattle.rows.specs.declared.read.JobRows.{JobRows}
use Rattle.finishing.specs.declared.work.Work.{Work}

-- job i, its sources where they lie
abbrev pub job_in : LentJobs → ℕ → Job
job_in j i = job_at j i (total (rows_from (source_count j) 0 i))

-- refused 11, 12 or 7: the number of the job's own refusal, whatever the output
pub record NoWork (t : LentTrees) (j : LentJobs) (u : Ulid) (kind n : ℕ) : Type 0 where
  pub refused : n ≡ 0 → ⊥
  pub finish : kind ≡ 0 → (out : Run) → finish_job_refusal out (trees_of t) (job_with u (jobs_of j)) ≡ n
  pub drain : kind ≡ 1 → drain_job_refusal (job_with u (jobs_of j)) ≡ n

-- the job of the id, of the kind that was asked for, and with sources where it is to finish
pub record JobFound (j : LentJobs) (u : Ulid) (drain i : ℕ) : Type 0 where
  pub place : i < j.count
  pub job : job_with u (jobs_of j) ≡ some (job_in j i)
  pub kind : get_or j.job_marks (2 * i + 1) 0 ≡ drain
  pub sources : drain ≡ 0 → get_or j.job_specs (3 * i + 2) 0 ≡ 0 → ⊥

-- the tree of its prefix
pub record TreeFound (t : LentTrees) (prefix i : ℕ) : Type 0 where
  pub place : i < t.count
  pub tree : tree_with prefix (trees_of t) ≡ some (tree_at t i (total (rows_from (l0_count t) 0 i)) (total (rows_from (run_count t) 0 i)))

-- or none
abbrev pub TreeOrNone : LentTrees → ℕ → Option ℕ → Type 0
TreeOrNone t prefix None = tree_with prefix (trees_of t) ≡ none
TreeOrNone t prefix (Some i) = TreeFound t prefix i

abbrev pub WorkFound : LentTrees → LentJobs → Ulid → ℕ → Result Work Refusal → Type 0
WorkFound t j u drain (Err r) = NoWork t j u drain (number_of r)
WorkFound t j u drain (Ok w) = JobFound j u drain w.job × TreeOrNone t (job_in j w.job).prefix w.tree

-- ---- the rows that go

-- what n source entries from entry `from` on name
abbrev pub names_in : List ℕ → List ℕ → List ℕ → ℕ → ℕ → List SourceId
names_in marks runs views from n = rows_from (λ k. id_of (source_at marks runs views k)) from n

-- "source runs and the destination run": what goes with these sources, of a drain and of a tiered job
abbrev pub gone_with : ℕ → ℕ → List SourceId → List SourceId
gone_with drain destination names = names ++ cond (eqb drain 1) [] (SortedRun destination ∷ [])

-- the same by the destination, which a drain has none of
abbrev pub gone_beside : Option ℕ → List SourceId → List SourceId
gone_beside None names = names
gone_beside (Some destination) names = names ++ (SortedRun destination ∷ [])

-- the flag of a row: 0 takes it out
abbrev pub flag_of : Bool → ℕ
flag_of goes = cond goes 0 1

-- what these source entries of a table name
abbrev pub names_at : Sources → JobRows → List SourceId
names_at s e = names_in s.marks.now s.runs.now s.views.now e.first e.count

-- the slices of the source entries have these entries and those before them
pub record SourceRoom (s : Sources) (e : JobRows) : Type 0 where
  pub marks : e.first + e.count ≤ length s.marks.now
  pub runs : e.first + e.count ≤ length s.runs.now
  pub views : 2 * (e.first + e.count) ≤ length s.views.now

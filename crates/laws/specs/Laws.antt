-- All that this crate proves, in one record: what each statement holds of, and under which premises.
use Rattle.std.specs.Prelude.{ℕ, ◌+◌, ◌≤◌, ◌≡◌, List, true, length}
use Rattle.rules.specs.declared.Options.{Options}
use Rattle.rules.specs.declared.tables.Ulid.{Ulid}
use Rattle.rules.specs.declared.tables.Run.{Run}
use Rattle.rules.specs.Tables.{Tree, Job}
use Rattle.rules.specs.Lent.{LentTrees, LentJobs, jobs_of}
use Rattle.rules.specs.Bounds.{good_trees, good_job, good_jobs, jobs_refusal}
use Rattle.rules.specs.Limit.{limit_of}
use Rattle.rules.specs.Pick.{Spec, last_run}
use Rattle.rules.specs.Plan.{first_fresh}
use Rattle.rules.specs.Planning.{LentPlan, spec_places, source_places, plan_refusal, spec_sources}
use Rattle.rules.specs.Jobs.{LentJob, job_of, inserted, merged, retained, add_refusal, merge_refusal, retain_refusal}
use Rattle.rules.specs.Finish.{finish_tree, drain_tree, in_tree, set_status, finish_refusal, drain_refusal}
use Rattle.rules.specs.Calls.{add_call, merge_call, retain_call, finish_call, drain_call}
use Rattle.laws.specs.Demand3.{RunsBelow, SourcesBelow, Given, Demand3}
use Rattle.laws.specs.Fuel.{Fuel}
use Rattle.laws.specs.Disjoint.{Disjoint}
use Rattle.laws.specs.Shapes.{Shapes}
use Rattle.laws.specs.NamesOnce.{NamesOnce}
use Rattle.laws.specs.NothingLost.{Added, Merged, Retained, StatusSet, OneTree, TreeFinished, TreeDrained, Ended}
use Rattle.laws.specs.NextCall.{NextTakes}
use Rattle.laws.specs.NoSecondAnswer.{NoSecondAnswer}
use Rattle.laws.specs.PlanFits.{PlanFits, PlanFitsLent, PlanHasPlaces}
use Rattle.laws.specs.ReadsBack.{ReadsBack, KeepsLengths}
use Rattle.laws.specs.Validates.{Validates}
use Rattle.laws.specs.PlanLaid.{PlanLaid}
use Rattle.laws.specs.PlanCall.{Accepted, Demand3Call, Proposed}

pub record Laws : Type 0 where
  -- demand 3, for every limit
  pub demand3 : (lim : ℕ → ℕ) (o : Options) (ts : List Tree) (js : List Job) → Given o ts js → Demand3 lim o ts js
  -- of its last premise only the sources need a look
  pub sources_suffice : (ts : List Tree) (js : List Job) → first_fresh ts js + length ts ≤ last_run → SourcesBelow ts js
      → RunsBelow ts js
  -- demand 3 of the public call
  pub demand3_call : (o : Options) (t : LentTrees) (j : LentJobs) (p : LentPlan) → Accepted o t j p → Demand3Call o t j p
  -- what an accepted call proposes
  pub proposed : (o : Options) (t : LentTrees) (j : LentJobs) (p : LentPlan) → plan_refusal o t j p ≡ 0 → Proposed o t j
  -- the bounds on the recursions suffice
  pub fuel : (lim : ℕ → ℕ) (o : Options) → Fuel lim o
  -- a plan proposes what is free, and once
  pub disjoint : (lim : ℕ → ℕ) (o : Options) (ts : List Tree) (js : List Job) → Disjoint lim o ts js
  -- what specs are made of
  pub shapes : (lim : ℕ → ℕ) (o : Options) → 1 ≤ o.min → o.min ≤ o.max → (ts : List Tree) (js : List Job) → Shapes lim o ts js
  -- no row is a source twice, and no run a destination
  pub names_once : (lim : ℕ → ℕ) (o : Options) → 1 ≤ o.min → o.min ≤ o.max → (ts : List Tree) (js : List Job)
      → NamesOnce lim o ts js
  -- a plan has at most F specs, and at most as many sources as there are L0 rows and runs
  pub plan_fits : (lim : ℕ → ℕ) (o : Options) (ts : List Tree) (js : List Job) → PlanFits lim o ts js
  pub plan_fits_lent : (lim : ℕ → ℕ) (o : Options) (t : LentTrees) (j : LentJobs) → PlanFitsLent lim o t j
  -- so that the lent plan of a call that is not refused has a place for each
  pub plan_has_places : (o : Options) (t : LentTrees) (j : LentJobs) (p : LentPlan) → plan_refusal o t j p ≡ 0
      → PlanHasPlaces (limit_of o.threshold) o t j p
  -- what a plan proposes, validation accepts
  pub planned_validate : (lim : ℕ → ℕ) (o : Options) → 1 ≤ o.min → o.min ≤ o.max → (ts : List Tree) (js : List Job)
      → good_trees ts ≡ true → Validates lim o ts js
  -- what is laid in a lent plan reads back, and the rest of it keeps its bytes
  pub plan_reads_back : (p : LentPlan) (ss : List Spec) → ReadsBack p ss
  pub plan_keeps_lengths : (p : LentPlan) (ss : List Spec) → length ss ≤ spec_places p → length (spec_sources ss) ≤ source_places p
      → KeepsLengths p ss
  -- all three of the lent plan after a call
  pub plan_laid : (o : Options) (t : LentTrees) (j : LentJobs) (p : LentPlan) → plan_refusal o t j p ≡ 0 → PlanLaid o t j p
  -- nothing is lost: of lists
  pub added : (j : Job) (js : List Job) → good_job j ≡ true → good_jobs js ≡ true → Added j js (inserted j js)
  pub merges : (known remote : List Job) → good_jobs known ≡ true → good_jobs remote ≡ true
      → Merged known remote (merged known remote)
  pub retains : (js : List Job) → good_jobs js ≡ true → Retained js (retained js)
  pub status_set : (u : Ulid) (n : ℕ) (js : List Job) → StatusSet u n js (set_status u n js)
  pub finishes : (k : ℕ) (j : Job) (out : Run) (ts : List Tree) → OneTree k (TreeFinished j out) ts (in_tree k (finish_tree j out) ts)
  pub drains : (k : ℕ) (j : Job) (ts : List Tree) → OneTree k (TreeDrained j) ts (in_tree k (drain_tree j) ts)
  -- and of each call that is not refused
  pub add_keeps : (t : LentJobs) (j : LentJob) → add_refusal t j ≡ 0 → Added (job_of j) (jobs_of t) (jobs_of (add_call t j).jobs)
  pub merge_keeps : (t r : LentJobs) → merge_refusal t r ≡ 0 → Merged (jobs_of t) (jobs_of r) (jobs_of (merge_call t r).jobs)
  pub retain_keeps : (t : LentJobs) → retain_refusal t ≡ 0 → Retained (jobs_of t) (jobs_of (retain_call t).jobs)
  pub finish_keeps : (t : LentTrees) (j : LentJobs) (u : Ulid) (out : Run) → finish_refusal t j u out ≡ 0
      → Ended (λ x. TreeFinished x out) u t j (finish_call t j u out)
  pub drain_keeps : (t : LentTrees) (j : LentJobs) (u : Ulid) → drain_refusal t j u ≡ 0 → Ended TreeDrained u t j (drain_call t j u)
  -- what a call leaves, the next call takes: no table is refused 1 or 2
  pub add_next : (t : LentJobs) (j : LentJob) → add_refusal t j ≡ 0 → jobs_refusal (add_call t j).jobs ≡ 0
  pub merge_next : (t r : LentJobs) → merge_refusal t r ≡ 0 → jobs_refusal (merge_call t r).jobs ≡ 0
  pub retain_next : (t : LentJobs) → retain_refusal t ≡ 0 → jobs_refusal (retain_call t).jobs ≡ 0
  pub finish_next : (t : LentTrees) (j : LentJobs) (u : Ulid) (out : Run) → finish_refusal t j u out ≡ 0
      → NextTakes j (finish_call t j u out)
  pub drain_next : (t : LentTrees) (j : LentJobs) (u : Ulid) → drain_refusal t j u ≡ 0 → NextTakes j (drain_call t j u)
  -- no second answer fits
  pub no_second_answer : NoSecondAnswer

-- What planning's own functions say: which call is refused by itself, what the passes start from, what they leave.
use Rattle.std.specs.Prelude.{ℕ, ◌*◌, ◌≤◌, ◌≡◌, List, false, length}
use Rattle.rules.specs.declared.Options.{Options}
use Rattle.rules.specs.Answers.{PlanAnswer}
use Rattle.rules.specs.Lists.{◌given◌else◌}
use Rattle.rules.specs.Lent.{LentTrees, LentJobs, trees_of, jobs_of, l0_used, runs_used, sources_used}
use Rattle.rules.specs.Bounds.{max_trees, max_l0, max_runs, max_jobs, max_sources, max_concurrent}
use Rattle.rules.specs.Limit.{limit_of}
use Rattle.rules.specs.Plan.{free_slots, planned}
use Rattle.rules.specs.Planning.{LentPlan, bad_options, sizes_over, plan_too_small}
use Rattle.rules.specs.Calls.{PlanResult}
use Rattle.tree_pick.specs.Pick.{Bounded}
use Rattle.plan_start.specs.Sizes.{over_from}
use Rattle.plan_passes.specs.declared.picks.Picks.{Picks}
use Rattle.plan_passes.specs.Picks.{PicksWithin, picks_in}
use Rattle.plan_passes.specs.Passes.{Plans}

-- the plan as a call is lent it, slice by slice, and what a call answers and leaves behind
abbrev pub lent_plan : List ℕ → List ℕ → List ℕ → List ℕ → LentPlan
lent_plan specs marks runs views = record { specs = specs; marks = marks; runs = runs; views = views }

abbrev pub plan_result : PlanAnswer → LentPlan → PlanResult
plan_result answer plan = record { answer = answer; plan = plan }

-- "Planning: 3, 4, 5.", behind 1 and 2
unfoldable pub planning_refusal : Options → LentTrees → LentJobs → LentPlan → ℕ
planning_refusal o t j p =
    3 given bad_options o
    else 4 given sizes_over (trees_of t)
    else 5 given plan_too_small (free_slots o (jobs_of j)) t p
    else 0

-- what planning needs to know of a call that is not refused
pub record Ready (o : Options) (t : LentTrees) (j : LentJobs) : Type 0 where
  pub bounded : Bounded o
  pub concurrent : o.concurrent ≤ max_concurrent
  pub trees : t.count ≤ max_trees
  pub l0 : l0_used t ≤ max_l0
  pub runs : runs_used t ≤ max_runs
  pub jobs : j.count ≤ max_jobs
  pub sources : sources_used j ≤ max_sources
  pub tree_rows : length t.trees ≡ 3 * max_trees
  pub l0_ids : length t.l0_ids ≡ 4 * max_l0
  pub l0_sizes : length t.l0_sizes ≡ max_l0
  pub run_ids : length t.run_ids ≡ max_runs
  pub run_sizes : length t.run_sizes ≡ max_runs
  pub job_marks : length j.job_marks ≡ 2 * max_jobs
  pub job_specs : length j.job_specs ≡ 3 * max_jobs
  pub source_marks : length j.source_marks ≡ max_sources
  pub source_runs : length j.source_runs ≡ max_sources
  pub source_views : length j.source_views ≡ 2 * max_sources
  pub summed : over_from t.trees t.l0_sizes t.run_sizes 0 0 0 t.count ≡ false

-- the picks are the plan
pub record Proposes (o : Options) (t : LentTrees) (j : LentJobs) (passes : ℕ) (picks : Picks) : Type 0 where
  pub room : picks.count ≤ length picks.rows.now
  pub within : PicksWithin (picks_in picks)
  pub plans : Plans (planned (limit_of o.threshold) o (trees_of t) (jobs_of j)) t passes picks

-- Demand 3 of the public planning call, and what the call proposes: wherever it is not refused, whatever slices it is lent.
use Rattle.std.specs.Prelude.{◌+◌, ◌/◌, ◌≤◌, min, ◌≡◌, true, eqb, length, take}
use mathlib.Core.List.{List, map, Memᴰ}
use Rattle.rules.specs.declared.Options.{Options}
use Rattle.rules.specs.Answers.PlanAnswer.{Planned}
use Rattle.rules.specs.Lists.{keep, distinct, total}
use Rattle.rules.specs.Tables.{Tree, same_id}
use Rattle.rules.specs.Lent.{LentTrees, LentJobs, rows_from, trees_of, jobs_of}
use Rattle.rules.specs.Limit.{limit_of}
use Rattle.rules.specs.Pick.{Spec, last_run}
use Rattle.rules.specs.Plan.{Plan, first_fresh, free_slots, planned, own_list_of}
use Rattle.rules.specs.Planning.{LentPlan, plan_refusal, spec_sources, lay_plan}
use Rattle.rules.specs.Calls.{plan_call}
use Rattle.laws.specs.Demand3.{gets, from_rows, aside, largest, RunsBelow}
use Rattle.laws.specs.Disjoint.{Disjoint}
use Rattle.laws.specs.Shapes.{Shapes}

-- the plan that the call is to hand back
abbrev pub plan_of : Options → LentTrees → LentJobs → Plan
plan_of o t j = planned (limit_of o.threshold) o (trees_of t) (jobs_of j)

-- a tree's own list
abbrev pub own_of : Options → LentTrees → LentJobs → Tree → List Spec
own_of o t j x = own_list_of (limit_of o.threshold) o (trees_of t) (jobs_of j) x

-- demand 3's premises: the call is not refused, and its own two
pub record Accepted (o : Options) (t : LentTrees) (j : LentJobs) (p : LentPlan) : Type 0 where
  pub accepted : plan_refusal o t j p ≡ 0
  -- the first fresh number plus T is at most 4,294,967,295
  pub room : first_fresh (trees_of t) (jobs_of j) + t.count ≤ last_run
  -- every run number in a tree's active jobs is below that first number
  pub below : RunsBelow (trees_of t) (jobs_of j)

pub record Demand3Call (o : Options) (t : LentTrees) (j : LentJobs) (p : LentPlan) : Type 0 where
  -- (a) and (d) as the answer has them: the specs are F, or where that is less, as many as all own lists together; the
  -- passes are the largest number of specs that any tree got
  pub answer :
      (plan_call o t j p).answer
      ≡ Planned
      (min (free_slots o (jobs_of j)) (total (map (λ x. length (own_of o t j x)) (trees_of t))))
      (largest (map (λ x. length (gets (plan_of o t j) x)) (trees_of t)))
  -- the lent plan holds just these specs
  pub plan : (plan_call o t j p).plan ≡ lay_plan p (plan_of o t j).specs
  -- (b) the specs of each tree are the first entries of its own list, fresh destination numbers aside
  pub entries : (x : Tree) → Memᴰ x (trees_of t)
      → map aside (gets (plan_of o t j) x) ≡ take (length (gets (plan_of o t j) x)) (map aside (own_of o t j x))
  -- (c) a tree with an own list of length L gets at least min(L, F / T rounded down), whatever the other trees hold
  pub share : (x : Tree) → Memᴰ x (trees_of t)
      → min (length (own_of o t j x)) (free_slots o (jobs_of j) / t.count) ≤ length (gets (plan_of o t j) x)

-- what an accepted call proposes
pub record Proposed (o : Options) (t : LentTrees) (j : LentJobs) : Type 0 where
  -- each spec is of step 1 or of step 2, for one of the trees, and a tree takes step 1 at most once
  pub shapes : Shapes (limit_of o.threshold) o (trees_of t) (jobs_of j)
  -- it uses nothing that active jobs of its tree use, and no two of one tree use one thing
  pub disjoint : Disjoint (limit_of o.threshold) o (trees_of t) (jobs_of j)
  -- no row or run is a source twice
  pub sources : distinct same_id (spec_sources (plan_of o t j).specs) ≡ true
  -- where fresh numbers do not stop, no two specs have one destination
  pub destinations : first_fresh (trees_of t) (jobs_of j) + t.count ≤ last_run
      → distinct eqb (map (λ s. s.destination) (plan_of o t j).specs) ≡ true
  -- and those of step 1 are the fresh numbers from the first on, in the order of the plan
  pub fresh : first_fresh (trees_of t) (jobs_of j) + t.count ≤ last_run
      → map (λ s. s.destination) (keep from_rows (plan_of o t j).specs)
      ≡ rows_from (λ k. first_fresh (trees_of t) (jobs_of j) + k) 0 (length (keep from_rows (plan_of o t j).specs))

-- A plan fits: refusal 5's "fewer spec places than F or fewer source places than L0 rows plus runs" asks for enough. Of every
-- plan, on whatever tables and options.
use Rattle.std.specs.Prelude.{ℕ, ◌+◌, ◌≤◌, length, List}
use Rattle.rules.specs.declared.Options.{Options}
use Rattle.rules.specs.Tables.{Tree, Job}
use Rattle.rules.specs.Lent.{LentTrees, LentJobs, trees_of, jobs_of, l0_of, runs_of, l0_used, runs_used}
use Rattle.rules.specs.Plan.{free_slots, planned}
use Rattle.rules.specs.Planning.{LentPlan, spec_places, source_places, spec_sources}

pub record PlanFits (lim : ℕ → ℕ) (o : Options) (ts : List Tree) (js : List Job) : Type 0 where
  -- at most F specs
  pub specs : length (planned lim o ts js).specs ≤ free_slots o js
  -- and at most as many sources as there are L0 rows and runs
  pub sources : length (spec_sources (planned lim o ts js).specs) ≤ length (l0_of ts) + length (runs_of ts)

-- of the lent tables: the rows that are in use
pub record PlanFitsLent (lim : ℕ → ℕ) (o : Options) (t : LentTrees) (j : LentJobs) : Type 0 where
  pub specs : length (planned lim o (trees_of t) (jobs_of j)).specs ≤ free_slots o (jobs_of j)
  pub sources : length (spec_sources (planned lim o (trees_of t) (jobs_of j)).specs) ≤ l0_used t + runs_used t

-- of a lent plan that is not refused 5: its places suffice
pub record PlanHasPlaces (lim : ℕ → ℕ) (o : Options) (t : LentTrees) (j : LentJobs) (p : LentPlan) : Type 0 where
  pub specs : length (planned lim o (trees_of t) (jobs_of j)).specs ≤ spec_places p
  pub sources : length (spec_sources (planned lim o (trees_of t) (jobs_of j)).specs) ≤ source_places p

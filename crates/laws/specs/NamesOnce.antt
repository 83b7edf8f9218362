-- No row is a source twice and no run a destination twice, where no table names it twice, as refusal 2 has it. Under options
-- with 1 ≤ min ≤ max.
use Rattle.std.specs.Prelude.{ℕ, ◌+◌, ◌≤◌, ◌≡◌, List, map, true, eqb, length}
use Rattle.rules.specs.declared.Options.{Options}
use Rattle.rules.specs.Lists.{keep, distinct}
use Rattle.rules.specs.Tables.{Tree, Job, same_ulid, same_id}
use Rattle.rules.specs.Lent.{rows_from, l0_of, runs_of}
use Rattle.rules.specs.Pick.{ids_of, last_run}
use Rattle.rules.specs.Plan.{first_fresh, planned, own_list_of}
use Rattle.rules.specs.Planning.{spec_sources}
use Rattle.laws.specs.Demand3.{from_rows}

-- "a run id or L0 view id twice anywhere" is refused, and so is "a prefix twice"
pub record RowsOnce (ts : List Tree) : Type 0 where
  pub prefixes : distinct eqb (map (λ t. t.prefix) ts) ≡ true
  pub runs : distinct eqb (ids_of (runs_of ts)) ≡ true
  pub views : distinct same_ulid (map (λ v. v.view) (l0_of ts)) ≡ true

pub record NamesOnce (lim : ℕ → ℕ) (o : Options) (ts : List Tree) (js : List Job) : Type 0 where
  -- no row is a source twice in a tree's own list
  pub own : (t : Tree) → distinct eqb (ids_of t.runs) ≡ true → distinct same_ulid (map (λ v. v.view) t.l0) ≡ true
      → distinct same_id (spec_sources (own_list_of lim o ts js t)) ≡ true
  -- nor in a plan
  pub plan : RowsOnce ts → distinct same_id (spec_sources (planned lim o ts js).specs) ≡ true
  -- in a plan whose fresh numbers do not stop no two specs have one destination
  pub destinations : RowsOnce ts → first_fresh ts js + length ts ≤ last_run
      → distinct eqb (map (λ s. s.destination) (planned lim o ts js).specs) ≡ true
  -- and those of step 1 are the fresh numbers from the first on, in the order of the plan
  pub fresh : RowsOnce ts → first_fresh ts js + length ts ≤ last_run
      → map (λ s. s.destination) (keep from_rows (planned lim o ts js).specs)
      ≡ rows_from (λ k. first_fresh ts js + k) 0 (length (keep from_rows (planned lim o ts js).specs))

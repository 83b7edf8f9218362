-- The picks of a planning call, as they lie in a table of its own.
use Rattle.std.specs.Prelude.{ℕ, ◌+◌, ◌*◌, ◌<◌, ◌≤◌, ◌≡◌, List, [], ◌∷◌, ◌++◌, map, length, get_or, take}
use Rattle.rules.specs.declared.tables.SourceId.{SourceId}
use Rattle.rules.specs.declared.tables.SourceId.TheVariants.{SortedRun, SstView}
use Rattle.rules.specs.Lent.{LentTrees, rows_from, ulid_at}
use Rattle.rules.specs.Bounds.{max_l0, max_runs}
use Rattle.rules.specs.Pick.{Spec}
use Rattle.plan_passes.specs.declared.picks.SourceKind.{SourceKind}
use Rattle.plan_passes.specs.declared.picks.SourceKind.TheVariants.{SstViews, SortedRuns}
use Rattle.plan_passes.specs.declared.picks.PickRow.{PickRow}
use Rattle.plan_passes.specs.declared.picks.Picks.{Picks}

-- L0 row i or run i of the slices of all trees, as a source
abbrev pub source_in : LentTrees → SourceKind → ℕ → SourceId
source_in t SstViews i = SstView (ulid_at t.l0_ids (4 * i))
source_in t SortedRuns i = SortedRun (get_or t.run_ids i 0)

-- the spec that was picked
abbrev pub spec_of : LentTrees → PickRow → Spec
spec_of t p = record { prefix = p.prefix; sources = rows_from (source_in t p.kind) p.from p.count; destination = p.destination }

abbrev pub specs_of : LentTrees → List PickRow → List Spec
specs_of t ps = map (spec_of t) ps

-- "Every table is lent at its full capacity"
pub record SourcesLent (t : LentTrees) : Type 0 where
  pub views : 4 * max_l0 ≤ length t.l0_ids
  pub ids : max_runs ≤ length t.run_ids

-- so many rows there are of a kind
abbrev pub rows_of : SourceKind → ℕ
rows_of SstViews = max_l0
rows_of SortedRuns = max_runs

-- its sources lie within the slices
abbrev pub PickWithin : PickRow → Type 0
PickWithin p = p.from + p.count ≤ rows_of p.kind

-- so do those of each pick
pub record PicksWithin (ps : List PickRow) : Type 0 where
  pub at : (k : ℕ) (d : PickRow) → k < length ps → PickWithin (get_or ps k d)

-- the picks in use
abbrev pub picks_in : Picks → List PickRow
picks_in p = take p.count p.rows.now

-- the table with none in use
abbrev pub emptied : Picks → Picks
emptied p = record { rows = p.rows; count = 0 }

-- one pick more
pub record PickAdded (before : Picks) (p : PickRow) (after : Picks) : Type 0 where
  pub same : after.rows.ghost_name ≡ before.rows.ghost_name
  pub kept : length after.rows.now ≡ length before.rows.now
  pub counted : after.count ≡ before.count + 1
  pub rows : picks_in after ≡ picks_in before ++ (p ∷ [])

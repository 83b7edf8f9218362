-- A spec to validate, and a tree's rows in the order in which validation reads them, as they lie in the lent slices.
use Rattle.std.specs.Prelude.{ℕ, ◌≡◌, ◌+◌, ◌-◌, ◌*◌, List, cond, ltb, length, get_or}
use Rattle.std.specs.declared.option.Option.TheVariants.{None, Some}
use Rattle.std.specs.declared.option.Option.{Option as Found}
use Rattle.std.proofs.Math.Option.{Option, some, none}
use Rattle.rules.specs.declared.tables.SourceId.{SourceId}
use Rattle.rules.specs.declared.tables.SourceId.TheVariants.{SortedRun, SstView}
use Rattle.rules.specs.Tables.{id_of}
use Rattle.rules.specs.Lent.{rows_from, ulid_at, source_at}
use Rattle.rules.specs.Validation.{LentSpec, lent_spec, lower}
use Rattle.rows.specs.declared.sources.Sources.{Sources}
use Rattle.size_tiered_compaction.specs.declared.validate.Spec.{Spec}
use Rattle.size_tiered_compaction.specs.declared.validate.LogicalOrder.{LogicalOrder}

-- the spec is that of the definitions
abbrev pub spec_in : Spec → LentSpec
spec_in s = lent_spec s.drain s.prefix s.destination s.sources.marks.now s.sources.runs.now s.sources.views.now

-- place q of "the tree's L0 then runs, as one list", where the tree has so many L0 rows
abbrev pub order_at : List ℕ → List ℕ → ℕ → ℕ → SourceId
order_at l0_ids run_ids rows q = cond (ltb q rows) (SstView (ulid_at l0_ids (4 * q))) (SortedRun (get_or run_ids (q - rows) 0))

abbrev pub order_in : LogicalOrder → ℕ → SourceId
order_in o = order_at o.l0_ids.now o.run_ids.now o.rows

-- how many places it has
abbrev pub places_in : LogicalOrder → ℕ
places_in o = o.rows + length o.run_ids.now

-- what source k names
abbrev pub named_at : List ℕ → List ℕ → List ℕ → ℕ → SourceId
named_at marks runs views k = id_of (source_at marks runs views k)

abbrev pub named_in : Sources → ℕ → SourceId
named_in s = named_at s.marks.now s.runs.now s.views.now

-- what all of them name
abbrev pub names_in : Sources → List SourceId
names_in s = rows_from (named_in s) 0 (length s.marks.now)

-- sources with as many runs and views as marks
pub record Agree (s : Sources) : Type 0 where
  pub runs : length s.runs.now ≡ length s.marks.now
  pub views : length s.views.now ≡ 2 * length s.marks.now

-- the code's answer as 01's: a run, or none
abbrev pub lowest_of : Found ℕ → Option ℕ
lowest_of None = none
lowest_of (Some r) = some r

-- the lower of two, either of which may be missing
abbrev pub joined_low : Option ℕ → Option ℕ → Option ℕ
joined_low none later = later
joined_low (some r) later = some (lower r later)

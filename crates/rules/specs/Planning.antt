-- Planning's refusals 3, 4 and 5 of document 01, and the plan as it lies in the lent slices.
use Rattle.std.specs.Prelude.{ℕ, ◌+◌, ◌/◌, ◌^◌, min, List, [], ◌∷◌, map, Bool, ◌&&◌, ◌||◌, not, leb, ltb, length}
use Rattle.rules.specs.declared.Options.{Options}
use Rattle.rules.specs.Lists.{any, concat_map, total, ◌given◌else◌}
use Rattle.rules.specs.declared.tables.SourceId.{SourceId}
use Rattle.rules.specs.declared.tables.SourceId.TheVariants.{SortedRun, SstView}
use Rattle.rules.specs.Tables.{Tree}
use Rattle.rules.specs.Lent.{LentTrees, LentJobs, trees_of, jobs_of, l0_used, runs_used, laid, ulid_words}
use Rattle.rules.specs.Bounds.{max_concurrent, trees_outside, jobs_outside, trees_misshapen, jobs_misshapen}
use Rattle.rules.specs.Pick.{Spec, sizes_of, l0_sizes_of}
use Rattle.rules.specs.Plan.{free_slots}

pub record LentPlan : Type 0 where
  pub specs : List ℕ
  pub marks : List ℕ
  pub runs : List ℕ
  pub views : List ℕ

-- 3: "not 1 <= min <= max <= 64"
abbrev pub bad_options : Options → Bool
bad_options o = not (leb 1 o.min && leb o.min o.max && leb o.max 64)

-- 4: "one tree's L0 sizes, or its run sizes, sum above 2^64 - 1"
unfoldable pub sizes_over : List Tree → Bool
sizes_over ts = any (λ t. leb (2 ^ 64) (total (l0_sizes_of t.l0)) || leb (2 ^ 64) (total (sizes_of t.runs))) ts

-- whole spec places, three numbers each
abbrev pub spec_places : LentPlan → ℕ
spec_places p = length p.specs / 3

-- whole source places: a mark, a run and the two words of a view each
abbrev pub source_places : LentPlan → ℕ
source_places p = min (length p.marks) (min (length p.runs) (length p.views / 2))

-- "the plan is refusal 5's": "lent plan has fewer spec places than F or fewer source places than L0 rows plus runs"
unfoldable pub plan_too_small : ℕ → LentTrees → LentPlan → Bool
plan_too_small F t p = ltb (spec_places p) F || ltb (source_places p) (l0_used t + runs_used t)

-- "Checks run 1, 2, then those of the call. Planning: 3, 4, 5."
unfoldable pub plan_refusal : Options → LentTrees → LentJobs → LentPlan → ℕ
plan_refusal o t j p =
    1 given trees_outside t || jobs_outside j || ltb max_concurrent o.concurrent
    else 2 given trees_misshapen t || jobs_misshapen j
    else 3 given bad_options o
    else 4 given sizes_over (trees_of t)
    else 5 given plan_too_small (free_slots o (jobs_of j)) t p
    else 0

-- ---- the plan in the lent slices. Where a call makes a row, its idle parts are zeros

abbrev pub mark_of : SourceId → ℕ
mark_of (SortedRun r) = 1
mark_of (SstView v) = 0

abbrev pub run_of : SourceId → ℕ
run_of (SortedRun r) = r
run_of (SstView v) = 0

abbrev pub view_words : SourceId → List ℕ
view_words (SortedRun r) = 0 ∷ 0 ∷ []
view_words (SstView v) = ulid_words v

abbrev pub spec_words : Spec → List ℕ
spec_words s = s.prefix ∷ s.destination ∷ length s.sources ∷ []

-- the sources of all specs, in spec order
abbrev pub spec_sources : List Spec → List SourceId
spec_sources ss = concat_map (λ s. s.sources) ss

-- "Places of the plan beyond the answer keep their bytes."
unfoldable pub lay_plan : LentPlan → List Spec → LentPlan
lay_plan p ss = record {
  specs = laid 0 (concat_map spec_words ss) p.specs;
  marks = laid 0 (map mark_of (spec_sources ss)) p.marks;
  runs = laid 0 (map run_of (spec_sources ss)) p.runs;
  views = laid 0 (concat_map view_words (spec_sources ss)) p.views;
}

-- Demand 3: what a planning call proposes, against what each tree would get if it were asked alone. Of every limit, so of
-- every threshold. T is the number of trees, F that of free slots.
use Rattle.std.specs.Prelude.{ℕ, ◌+◌, ◌/◌, ◌≤◌, ◌<◌, min, max, ◌≡◌, Bool, true, false, cond, eqb, length, take}
use mathlib.Core.List.{List, [], ◌∷◌, map, Memᴰ}
use Rattle.rules.specs.declared.Options.{Options}
use Rattle.rules.specs.Lists.{keep, total, distinct}
use Rattle.rules.specs.declared.tables.SourceId.{SourceId}
use Rattle.rules.specs.declared.tables.Source.{Source}
use Rattle.rules.specs.declared.tables.SourceId.TheVariants.{SortedRun, SstView}
use Rattle.rules.specs.Tables.{Tree, Job, among, active}
use Rattle.rules.specs.Windows.{used_ids}
use Rattle.rules.specs.Pick.{Spec, last_run}
use Rattle.rules.specs.Plan.{Plan, first_fresh, free_slots, planned, own_list_of}

-- the specs that tree t gets, in their order
abbrev pub gets : Plan → Tree → List Spec
gets p t = keep (λ s. eqb s.prefix t.prefix) p.specs

-- a spec of step 1: its sources are L0 rows, and its destination is a fresh number
abbrev pub first_is_row : List SourceId → Bool
first_is_row [] = false
first_is_row (SortedRun r ∷ xs) = false
first_is_row (SstView v ∷ xs) = true

abbrev pub from_rows : Spec → Bool
from_rows s = first_is_row s.sources

-- "fresh destination numbers aside": 0 in their place
abbrev pub aside : Spec → Spec
aside s = record { prefix = s.prefix; sources = s.sources; destination = cond (from_rows s) 0 s.destination }

-- the largest of some numbers, 0 for none
abbrev pub largest : List ℕ → ℕ
largest [] = 0
largest (n ∷ ns) = max n (largest ns)

-- every run number in a tree's active jobs is below the first fresh number: the runs among their sources, those of drains too,
-- and the destinations of the tiered ones
abbrev pub RunsBelow : List Tree → List Job → Type 0
RunsBelow ts js = (t : Tree) → Memᴰ t ts → (n : ℕ) → among (SortedRun n) (used_ids js t.prefix) ≡ true → n < first_fresh ts js

-- the runs among their sources: the destinations are below by themselves
abbrev pub SourcesBelow : List Tree → List Job → Type 0
SourcesBelow ts js =
    (t : Tree) → Memᴰ t ts → (j : Job) → Memᴰ j js → active j ≡ true → j.prefix ≡ t.prefix
    → (s : Source) → Memᴰ s j.sources → s.mark ≡ 1 → s.run < first_fresh ts js

-- demand 3's premises. The first three hold wherever planning is not refused
pub record Given (o : Options) (ts : List Tree) (js : List Job) : Type 0 where
  -- 1 ≤ min ≤ max
  pub least : 1 ≤ o.min
  pub most : o.min ≤ o.max
  -- no prefix twice
  pub prefixes : distinct eqb (map (λ t. t.prefix) ts) ≡ true
  -- the first fresh number plus T is at most 4,294,967,295
  pub room : first_fresh ts js + length ts ≤ last_run
  -- every run number in a tree's active jobs is below that first number
  pub below : RunsBelow ts js

pub record Demand3 (lim : ℕ → ℕ) (o : Options) (ts : List Tree) (js : List Job) : Type 0 where
  -- (a) the plan has F specs, or where that is less, as many as all own lists together
  pub proposes :
      length (planned lim o ts js).specs ≡ min (free_slots o js) (total (map (λ t. length (own_list_of lim o ts js t)) ts))
  -- (b) the specs of each tree are the first entries of its own list, fresh destination numbers aside
  pub entries : (t : Tree) → Memᴰ t ts
      → map aside (gets (planned lim o ts js) t)
      ≡ take (length (gets (planned lim o ts js) t)) (map aside (own_list_of lim o ts js t))
  -- (c) a tree with an own list of length L gets at least min(L, F / T rounded down), whatever the other trees hold
  pub share : (t : Tree) → Memᴰ t ts
      → min (length (own_list_of lim o ts js t)) (free_slots o js / length ts) ≤ length (gets (planned lim o ts js) t)
  -- (d) the pass count is the largest number of specs that any tree got
  pub passes : (planned lim o ts js).passes ≡ largest (map (λ t. length (gets (planned lim o ts js) t)) ts)

-- What the specs of a plan are made of: a tree's oldest L0 rows, at most once in a call, or runs that stand one after another
-- and go to the last of them. Under options with 1 ≤ min ≤ max.
use Rattle.std.specs.Prelude.{ℕ, ◌≤◌, ◌≡◌, ◌⊎◌, true, eqb, length}
use mathlib.Core.List.{List, ◌++◌, map, Memᴰ}
use Rattle.rules.specs.declared.Options.{Options}
use Rattle.rules.specs.Lists.{keep, distinct}
use Rattle.rules.specs.declared.tables.SourceId.TheVariants.{SortedRun}
use Rattle.rules.specs.Tables.{Tree, Job, view_id}
use Rattle.rules.specs.Windows.{last}
use Rattle.rules.specs.Pick.{Spec, ids_of, oldest}
use Rattle.rules.specs.Plan.{planned, own_list_of}
use Rattle.laws.specs.Demand3.{gets, from_rows}

-- step 1: at least min L0 rows are there, and its sources are the oldest of them, at most max
pub record OfRows (o : Options) (t : Tree) (s : Spec) : Type 0 where
  pub enough : o.min ≤ length t.l0
  pub sources : s.sources ≡ map view_id (oldest o t)

-- step 2: its sources are 1 to max of the tree's runs, one after another, and its destination is the last of them
pub record OfRuns (o : Options) (t : Tree) (s : Spec) : Type 0 where
  pub ids : List ℕ
  pub before : List ℕ
  pub after : List ℕ
  pub sources : s.sources ≡ map SortedRun ids
  pub place : ids_of t.runs ≡ before ++ (ids ++ after)
  pub least : 1 ≤ length ids
  pub most : length ids ≤ o.max
  pub destination : s.destination ≡ last ids

-- a spec for tree t
pub record Made (o : Options) (t : Tree) (s : Spec) : Type 0 where
  pub prefix : s.prefix ≡ t.prefix
  pub step : OfRows o t s ⊎ OfRuns o t s

pub record Shapes (lim : ℕ → ℕ) (o : Options) (ts : List Tree) (js : List Job) : Type 0 where
  -- each spec of a plan is for one of the trees
  pub made : (s : Spec) → Memᴰ s (planned lim o ts js).specs → (t : Tree) × Memᴰ t ts × Made o t s
  -- each entry of a tree's own list is for that tree
  pub own_made : (t : Tree) (s : Spec) → Memᴰ s (own_list_of lim o ts js t) → Made o t s
  -- a tree takes step 1 at most once in a call
  pub rows_once : distinct eqb (map (λ t. t.prefix) ts) ≡ true → (t : Tree) → Memᴰ t ts
      → length (keep from_rows (gets (planned lim o ts js) t)) ≤ 1

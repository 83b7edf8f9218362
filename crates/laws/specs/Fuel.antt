-- The bounds on the recursions of rules are no bounds: "until there is none", "Planning ends after a pass without a pick".
use Rattle.std.specs.Prelude.{ℕ, ◌+◌, ◌≤◌, ◌≡◌, List, [], ◌∷◌, Bool, length}
use Rattle.rules.specs.declared.Options.{Options}
use Rattle.rules.specs.declared.tables.SourceId.{SourceId}
use Rattle.rules.specs.Tables.{Tree, Job}
use Rattle.rules.specs.Windows.{eligible, greatest}
use Rattle.rules.specs.Pick.{own_first, own_list}
use Rattle.rules.specs.Plan.{free_slots, ordered, start, planned, passes_from, own_list_of}

pub record Fuel (lim : ℕ → ℕ) (o : Options) : Type 0 where
  -- asking a tree more often than it has rows adds nothing to its own list
  pub own : 1 ≤ o.min → o.min ≤ o.max → (used : SourceId → Bool) (fresh : ℕ) (t : Tree) (n : ℕ)
      → length t.l0 + length t.runs ≤ n
      → own_first lim o n used fresh t ≡ own_list lim o used fresh t
  -- it is what a tree gets that is asked alone, with a slot for each of its rows
  pub alone : 1 ≤ o.min → o.min ≤ o.max → (t : Tree) (js : List Job) → length t.l0 + length t.runs ≤ free_slots o js
      → (planned lim o (t ∷ []) js).specs ≡ own_list_of lim o (t ∷ []) js t
  -- more passes than there are free slots add nothing to a plan
  pub passes : (ts : List Tree) (js : List Job) (n : ℕ) → free_slots o js ≤ n
      → passes_from lim o (ordered ts) n 0 (start o ts js) ≡ planned lim o ts js
  -- no window is longer than the runs that are left
  pub windows : (used : SourceId → Bool) (ids sizes : List ℕ) → length sizes ≤ length ids → (n : ℕ) → length ids ≤ n
      → greatest (eligible lim o.min o.max used ids sizes) n ≡ greatest (eligible lim o.min o.max used ids sizes) (length ids)

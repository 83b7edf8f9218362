-- The table of chain lengths of all trees, beside the runs.
use Rattle.std.specs.Prelude.{ℕ, ◌+◌, ◌*◌, ◌<◌, List, get_or, take, drop}
use Rattle.rules.specs.Lists.{total}
use Rattle.rules.specs.Lent.{rows_from}
use Rattle.tree_pick.specs.Backpressure.{Chains}

-- how many runs tree i has, and where they begin
abbrev pub runs_of_tree : List ℕ → ℕ → ℕ
runs_of_tree trees i = get_or trees (3 * i + 2) 0

abbrev pub first_run : List ℕ → ℕ → ℕ
first_run trees i = total (rows_from (λ k. get_or trees (3 * k + 2) 0) 0 i)

-- the chains of each of the first n trees
pub record ChainsFilled (lim : ℕ → ℕ) (trees run_sizes : List ℕ) (n : ℕ) (chains : List ℕ) : Type 0 where
  pub at : (i : ℕ) → i < n → Chains lim (take (runs_of_tree trees i) (drop (first_run trees i) run_sizes)) (take (runs_of_tree trees i) (drop (first_run trees i) chains))

-- Where the rows of a tree, or the source entries of a job, lie.
use Rattle.std.specs.Prelude.{ℕ, ◌+◌, ◌*◌, ◌≤◌, ◌≡◌, List, get_or}
use Rattle.rules.specs.Lists.{total}
use Rattle.rules.specs.Lent.{rows_from}

-- tree i of n: its c L0 rows start at row l and its d runs at run r, after those of the trees before it, and they stand
-- within those of all
pub record Stands (trees : List ℕ) (n i l c r d : ℕ) : Type 0 where
  pub first_row : l ≡ total (rows_from (λ k. get_or trees (3 * k + 1) 0) 0 i)
  pub rows : c ≡ get_or trees (3 * i + 1) 0
  pub first_run : r ≡ total (rows_from (λ k. get_or trees (3 * k + 2) 0) 0 i)
  pub runs : d ≡ get_or trees (3 * i + 2) 0
  pub rows_within : l + c ≤ total (rows_from (λ k. get_or trees (3 * k + 1) 0) 0 n)
  pub runs_within : r + d ≤ total (rows_from (λ k. get_or trees (3 * k + 2) 0) 0 n)

-- job i of n: its c source entries start at entry s, after those of the jobs before it, and they stand within those of all
pub record Entries (job_specs : List ℕ) (n i s c : ℕ) : Type 0 where
  pub first : s ≡ total (rows_from (λ k. get_or job_specs (3 * k + 2) 0) 0 i)
  pub count : c ≡ get_or job_specs (3 * i + 2) 0
  pub within : s + c ≤ total (rows_from (λ k. get_or job_specs (3 * k + 2) 0) 0 n)

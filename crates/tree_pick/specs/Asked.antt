-- The trees of a planning call, in the order in which they are asked.
use Rattle.std.specs.Prelude.{ℕ, ◌+◌, ◌*◌, ◌≡◌, List, get_or, take, drop}
use Rattle.rules.specs.Tables.{L0Row, Tree}
use Rattle.rules.specs.Lent.{LentTrees, rows_from, ulid_at, l0_at, run_at}
use Rattle.tree_pick.specs.declared.tree.AskedTree.{AskedTree}
use Rattle.tree_pick.specs.declared.tree.TreePart.{TreePart}

-- L0 row i of a tree's slices
abbrev pub row_in : List ℕ → List ℕ → ℕ → L0Row
row_in l0_ids l0_sizes i = record { view = ulid_at l0_ids (4 * i); sst = ulid_at l0_ids (4 * i + 2); size = get_or l0_sizes i 0 }

-- the tree's rows and runs lie there
pub record AskedAt (a : AskedTree) (t : LentTrees) (x : Tree) : Type 0 where
  pub prefix : x.prefix ≡ a.prefix
  pub l0 : x.l0 ≡ rows_from (l0_at t) a.l0_from a.l0_count
  pub runs : x.runs ≡ rows_from (run_at t) a.run_from a.run_count

-- the parts of the slices, and of the table of chain lengths, that are the tree's
pub record PartOf (a : AskedTree) (t : LentTrees) (chains : List ℕ) (p : TreePart) : Type 0 where
  pub prefix : p.prefix ≡ a.prefix
  pub l0_ids : p.l0_ids.now ≡ take (4 * a.l0_count) (drop (4 * a.l0_from) t.l0_ids)
  pub l0_sizes : p.l0_sizes.now ≡ take a.l0_count (drop a.l0_from t.l0_sizes)
  pub run_ids : p.run_ids.now ≡ take a.run_count (drop a.run_from t.run_ids)
  pub run_sizes : p.run_sizes.now ≡ take a.run_count (drop a.run_from t.run_sizes)
  pub lengths : p.chains.now ≡ take a.run_count (drop a.run_from chains)

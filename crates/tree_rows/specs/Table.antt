-- A lent table that is changed: what stands in its slices is a table of the definitions, and the slices stay the ones that
-- were lent.
use Rattle.std.specs.Prelude.{◌≡◌, length}
use Rattle.rules.specs.Lent.{LentTrees, lent_trees}
use Rattle.tree_rows.specs.declared.table.TreeTable.{TreeTable}

abbrev pub table_in : TreeTable → LentTrees
table_in t =
    lent_trees t.count t.rows.now t.watermark_marks.now t.watermarks.now t.l0_ids.now t.l0_sizes.now t.run_ids.now t.run_sizes.now

pub record SameSlices (a b : TreeTable) : Type 0 where
  pub rows : b.rows.ghost_name ≡ a.rows.ghost_name
  pub watermark_marks : b.watermark_marks.ghost_name ≡ a.watermark_marks.ghost_name
  pub watermarks : b.watermarks.ghost_name ≡ a.watermarks.ghost_name
  pub l0_ids : b.l0_ids.ghost_name ≡ a.l0_ids.ghost_name
  pub l0_sizes : b.l0_sizes.ghost_name ≡ a.l0_sizes.ghost_name
  pub run_ids : b.run_ids.ghost_name ≡ a.run_ids.ghost_name
  pub run_sizes : b.run_sizes.ghost_name ≡ a.run_sizes.ghost_name

-- each slice is as long as it was
pub record SameLengths (a b : TreeTable) : Type 0 where
  pub rows : length b.rows.now ≡ length a.rows.now
  pub watermark_marks : length b.watermark_marks.now ≡ length a.watermark_marks.now
  pub watermarks : length b.watermarks.now ≡ length a.watermarks.now
  pub l0_ids : length b.l0_ids.now ≡ length a.l0_ids.now
  pub l0_sizes : length b.l0_sizes.now ≡ length a.l0_sizes.now
  pub run_ids : length b.run_ids.now ≡ length a.run_ids.now
  pub run_sizes : length b.run_sizes.now ≡ length a.run_sizes.now

-- ---- a table with some of its slices from another: what a change touches, and the rest as it stood

-- trees, L0 rows and runs
abbrev pub with_rows : LentTrees → LentTrees → LentTrees
with_rows t s = lent_trees t.count s.trees t.watermark_marks t.watermarks s.l0_ids s.l0_sizes s.run_ids s.run_sizes

-- trees and runs
abbrev pub with_runs : LentTrees → LentTrees → LentTrees
with_runs t s = lent_trees t.count s.trees t.watermark_marks t.watermarks t.l0_ids t.l0_sizes s.run_ids s.run_sizes

-- watermarks
abbrev pub with_watermarks : LentTrees → LentTrees → LentTrees
with_watermarks t s = lent_trees t.count t.trees s.watermark_marks s.watermarks t.l0_ids t.l0_sizes t.run_ids t.run_sizes

-- `keep_rows` meets its contract: each slice is packed by the flags, and the two counts are those of the flags in the tree's part.
use mathlib.Core.Path.{refl, ap, ◌∙◌}
use native.Mathlib.Omega.{arith}
use Rattle.rules.specs.Lent.{l0_used, runs_used}
use Rattle.tree_rows.proofs.Kept.{part-of, rows_end, runs-end, rows_few, runs-few, kept-table}
use Rattle.tree_rows.proofs.table.TreeTable.keep_rows.Goals as goal

pub overflow_add-last_row : goal.overflow_add-last_row
overflow_add-last_row c = omega (arith, rows_end c.requires (part-of c.rows-lent.ensures c.part-part.ensures))

pub overflow_add-last_run : goal.overflow_add-last_run
overflow_add-last_run c = omega (arith, runs-end c.requires (part-of c.rows-lent.ensures c.part-part.ensures))

pub slice_bounds-count_kept-end : goal.slice_bounds-count_kept-end
slice_bounds-count_kept-end c = omega (arith, rows_end c.requires (part-of c.rows-lent.ensures c.part-part.ensures))

pub overflow_cast-rows : goal.overflow_cast-rows
overflow_cast-rows c = omega (arith, rows_few c.requires (part-of c.rows-lent.ensures c.part-part.ensures) c.count_kept-rows.ensures)

pub slice_bounds-count_kept-end-2 : goal.slice_bounds-count_kept-end-2
slice_bounds-count_kept-end-2 c = omega (arith, runs-end c.requires (part-of c.rows-lent.ensures c.part-part.ensures))

pub overflow_cast-runs : goal.overflow_cast-runs
overflow_cast-runs c = omega (arith, runs-few c.requires (part-of c.rows-lent.ensures c.part-part.ensures) c.count_kept-runs.ensures)

pub returns-clause-kept : goal.returns-clause-kept
returns-clause-kept c =
    λ p q fl fr.
    kept-table c.requires p q fl fr (part-of c.rows-lent.ensures c.part-part.ensures) (c.l0_used-l0_used.ensures ∙ ap l0_used c.rows-lent.ensures) (c.runs_used-runs_used.ensures ∙ ap runs_used c.rows-lent.ensures)
    c.count_kept-rows.ensures c.count_kept-runs.ensures refl c.keep_rows.ensures c.keep_rows-2.ensures c.keep_rows-3.ensures c.keep_rows-4.ensures

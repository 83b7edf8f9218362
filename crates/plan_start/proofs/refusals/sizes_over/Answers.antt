-- `sizes_over` meets its contract: the invariant is that the sizes of a tree left sum too high exactly if those of any tree do (`Over`).
use mathlib.Core.Path.{refl, sym, ◌∙◌}
use native.Mathlib.Omega.{arith}
use Rattle.rules.specs.Lent.{l0_used, runs_used}
use Rattle.rows.specs.InSlices.{trees_in}
use Rattle.plan_start.proofs.SizeSums.{over-starts, rows-within, runs-within, over-rows, over_runs, over-on, over-ends, flat-sizes}
use Rattle.plan_start.proofs.refusals.sizes_over.Goals as goal

pub loop-i-init : goal.loop-i-init
loop-i-init c = over-starts

pub overflow_add-end_row-in-loop-i : goal.overflow_add-end_row-in-loop-i
unfolding l0_used runs_used
overflow_add-end_row-in-loop-i c = omega (arith, rows-within c.loop-i.invariant c.loop-i-test.true _ _ refl refl)

pub overflow_add-end_run-in-loop-i : goal.overflow_add-end_run-in-loop-i
unfolding l0_used runs_used
overflow_add-end_run-in-loop-i c = omega (arith, runs-within c.loop-i.invariant c.loop-i-test.true _ _ refl refl)

pub offset_bounds-trees-row : goal.offset_bounds-trees-row
unfolding l0_used runs_used
offset_bounds-trees-row c = omega (arith, rows-within c.loop-i.invariant c.loop-i-test.true _ _ refl refl)

pub slice_bounds-sum_over-end : goal.slice_bounds-sum_over-end
unfolding l0_used runs_used
slice_bounds-sum_over-end c = omega (arith, rows-within c.loop-i.invariant c.loop-i-test.true _ _ refl refl)

pub returns-then-sum_over : goal.returns-then-sum_over
returns-then-sum_over c = over-rows c.loop-i.invariant c.loop-i-test.true _ _ refl refl (sym c.if-sum_over.true ∙ c.sum_over.ensures) ∙ sym (flat-sizes (trees_in c.args.trees.now) (omega arith) (omega arith))

pub offset_bounds-trees-run : goal.offset_bounds-trees-run
unfolding l0_used runs_used
offset_bounds-trees-run c = omega (arith, runs-within c.loop-i.invariant c.loop-i-test.true _ _ refl refl)

pub slice_bounds-sum_over-end-in-loop-i : goal.slice_bounds-sum_over-end-in-loop-i
unfolding l0_used runs_used
slice_bounds-sum_over-end-in-loop-i c = omega (arith, runs-within c.loop-i.invariant c.loop-i-test.true _ _ refl refl)

pub returns-then-sum_over-2 : goal.returns-then-sum_over-2
returns-then-sum_over-2 c = over_runs c.loop-i.invariant c.loop-i-test.true _ _ refl refl (sym c.if-sum_over.false ∙ c.sum_over.ensures) (sym c.if-sum_over-2.true ∙ c.sum_over-in-loop-i.ensures) ∙ sym (flat-sizes (trees_in c.args.trees.now) (omega arith) (omega arith))

pub loop-i-preserved : goal.loop-i-preserved
loop-i-preserved c = over-on c.loop-i.invariant c.loop-i-test.true _ _ refl refl (sym c.if-sum_over.false ∙ c.sum_over.ensures) (sym c.if-sum_over-2.false ∙ c.sum_over-in-loop-i.ensures)

pub returns : goal.returns
returns c = over-ends c.loop-i.invariant c.loop-i-test.false ∙ sym (flat-sizes (trees_in c.args.trees.now) (omega arith) (omega arith))

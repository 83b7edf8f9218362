use Rattle.plan_start.proofs.SizeSums.{Over}
use Rattle.plan_start.proofs.refusals.sizes_over.Given as goal

abbrev pub invariant-loop-i : goal.invariant-loop-i
invariant-loop-i l = Over l.trees.rows.now l.trees.l0_sizes.now l.trees.run_sizes.now l.trees.count l.row l.run l.i

use Rattle.rows.proofs.Falls.{Falls}
use Rattle.rows.proofs.trees.all_falling.Given as goal

abbrev pub invariant-loop-i : goal.invariant-loop-i
invariant-loop-i l = Falls l.trees l.run_ids l.n l.at l.i

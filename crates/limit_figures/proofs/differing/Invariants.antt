-- `differing` holds since of the cases tried so far no more than all differ.
use Rattle.std.proofs.Common.{◌≤◌}
use Rattle.limit_figures.proofs.differing.Given as goal

abbrev pub invariant-loop-i : goal.invariant-loop-i
invariant-loop-i g l = l.differ ≤ l.i

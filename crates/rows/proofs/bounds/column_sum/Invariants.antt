use Prim.Native.Nat.{◌+◌, ◌*◌, ◌≤◌}
use lib.ListN.{get_or}
use Rattle.rows.proofs.Sums.{Summed}
use Rattle.rows.proofs.bounds.column_sum.Given as goal

abbrev pub invariant-loop-i : goal.invariant-loop-i
invariant-loop-i l = (l.i ≤ l.n) × (l.sum ≤ 4294967295 * l.i) × Summed (λ j. get_or l.s (3 * j + l.k) 0) l.n l.sum l.i

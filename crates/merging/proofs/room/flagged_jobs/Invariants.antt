use Prim.Native.Nat.{◌≤◌}
use mathlib.Core.Bool.{cond}
use lib.ListN.{get_or}
use Rattle.rows.specs.Movers.{marked}
use Rattle.rows.proofs.Sums.{Summed}
use Rattle.merging.proofs.room.flagged_jobs.Given as goal

abbrev pub invariant-loop-i : goal.invariant-loop-i
invariant-loop-i l = (l.i ≤ l.n) × (l.sum ≤ l.i) × Summed (λ k. cond (marked (get_or l.flags k 0)) 1 0) l.n l.sum l.i

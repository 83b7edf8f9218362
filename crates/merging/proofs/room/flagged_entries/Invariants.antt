use Prim.Native.Nat.{◌+◌, ◌*◌, ◌≤◌}
use mathlib.Core.Bool.{cond}
use lib.ListN.{get_or}
use Rattle.rows.specs.Movers.{marked}
use Rattle.rows.proofs.Sums.{Summed}
use Rattle.merging.proofs.room.flagged_entries.Given as goal

abbrev pub invariant-loop-i : goal.invariant-loop-i
invariant-loop-i l =
    (l.i ≤ l.jobs.count) × (l.sum ≤ 4294967295 * l.i) × Summed (λ k. cond (marked (get_or l.flags k 0)) (get_or l.jobs.specs.now (3 * k + 2) 0) 0) l.jobs.count l.sum l.i

use Prim.Native.Nat.{◌^◌, ◌<◌}
use lib.ListN.{length, get_or}
use Rattle.rows.proofs.Sums.{Summed}
use Rattle.plan_start.proofs.refusals.sum_over.Given as goal

abbrev pub invariant-loop-size : goal.invariant-loop-size
invariant-loop-size l = (l.sum < 2 ^ 64) × Summed (λ k. get_or l.sizes k 0) (length l.sizes) l.sum l.size-index

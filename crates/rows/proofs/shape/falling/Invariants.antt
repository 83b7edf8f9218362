use Prim.Native.Nat.{◌-◌, ◌≤◌}
use lib.Dec.{ltb}
use lib.ListN.{length, get_or}
use Rattle.rules.specs.Lists.{linked}
use Rattle.rules.specs.Lent.{rows_from}
use Rattle.rows.proofs.Scans.{Left}
use Rattle.rows.proofs.shape.falling.Given as goal

abbrev pub invariant-loop-i : goal.invariant-loop-i
invariant-loop-i l =
    (1 ≤ l.i) × Left (linked (λ a b. ltb b a)) (λ k. get_or l.run_ids k 0) (length l.run_ids) (l.i - 1) (linked (λ a b. ltb b a) (rows_from (λ k. get_or l.run_ids k 0) 0 (length l.run_ids)))

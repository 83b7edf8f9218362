use Prim.Native.Nat.{◌-◌, ◌*◌, ◌≤◌}
use Rattle.rules.specs.Lists.{linked}
use Rattle.rules.specs.Tables.{ulid_below}
use Rattle.rules.specs.Lent.{rows_from, ulid_at}
use Rattle.rows.proofs.Scans.{Left}
use Rattle.rows.proofs.shape.rising.Given as goal

abbrev pub invariant-loop-i : goal.invariant-loop-i
invariant-loop-i l =
    (1 ≤ l.i) × Left (linked ulid_below) (λ k. ulid_at l.job_ids (2 * k)) l.n (l.i - 1) (linked ulid_below (rows_from (λ k. ulid_at l.job_ids (2 * k)) 0 l.n))

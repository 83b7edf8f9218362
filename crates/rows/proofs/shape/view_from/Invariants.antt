use Prim.Native.Nat.{◌-◌, ◌*◌}
use Rattle.rules.specs.Lists.{any}
use Rattle.rules.specs.Tables.{same_ulid}
use Rattle.rules.specs.Lent.{rows_from, ulid_at}
use Rattle.rows.proofs.Scans.{Left}
use Rattle.rows.proofs.shape.view_from.Given as goal

abbrev pub invariant-loop-i : goal.invariant-loop-i
invariant-loop-i l =
    Left (any (same_ulid l.view)) (λ k. ulid_at l.l0_ids (4 * k)) l.n l.i (any (same_ulid l.view) (rows_from (λ k. ulid_at l.l0_ids (4 * k)) l.from (l.n - l.from)))

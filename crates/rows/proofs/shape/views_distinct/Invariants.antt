use Prim.Native.Nat.{◌*◌}
use Rattle.rules.specs.Lists.{distinct}
use Rattle.rules.specs.Tables.{same_ulid}
use Rattle.rules.specs.Lent.{rows_from, ulid_at}
use Rattle.rows.proofs.Scans.{Left}
use Rattle.rows.proofs.shape.views_distinct.Given as goal

abbrev pub invariant-loop-i : goal.invariant-loop-i
invariant-loop-i l =
    Left (distinct same_ulid) (λ k. ulid_at l.l0_ids (4 * k)) l.n l.i (distinct same_ulid (rows_from (λ k. ulid_at l.l0_ids (4 * k)) 0 l.n))

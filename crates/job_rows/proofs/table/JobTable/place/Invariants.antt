use mathlib.Core.Bool.{not}
use Prim.Native.Nat.{◌*◌}
use Rattle.rules.specs.Lists.{leading}
use Rattle.rules.specs.Tables.{ulid_below}
use Rattle.rules.specs.Lent.{rows_from, ulid_at}
use Rattle.rows.proofs.Finds.{Sought}
use Rattle.job_rows.proofs.table.JobTable.place.Given as goal

abbrev pub invariant-loop-i : goal.invariant-loop-i
invariant-loop-i l =
    Sought (λ u. not (ulid_below u l.id)) (λ k. ulid_at l.self.ids.now (2 * k)) l.self.count 0 l.i (leading (λ u. not (not (ulid_below u l.id))) (rows_from (λ k. ulid_at l.self.ids.now (2 * k)) 0 l.self.count))

use Rattle.std.proofs.Common.{◌*◌, not}
use Rattle.rules.specs.Lists.{leading}
use Rattle.rules.specs.Tables.{same_ulid}
use Rattle.rules.specs.Lent.{rows_from, ulid_at}
use Rattle.rows.proofs.Finds.{Sought}
use Rattle.rows.proofs.jobs.Jobs.find.Given as goal

abbrev pub invariant-loop-i : goal.invariant-loop-i
invariant-loop-i l =
    Sought (λ u. same_ulid u l.id) (λ k. ulid_at l.self.ids.now (2 * k)) l.self.count 0 l.i (leading (λ u. not (same_ulid u l.id)) (rows_from (λ k. ulid_at l.self.ids.now (2 * k)) 0 l.self.count))

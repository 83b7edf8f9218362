use Rattle.rules.specs.Lists.{any}
use Rattle.rules.specs.Lent.{rows_from}
use Rattle.rows.proofs.Scans.{Left}
use Rattle.compactor_state.specs.Clash.{clash_at}
use Rattle.compactor_state.proofs.adding.clashes.Given as goal

abbrev pub invariant-loop-i : goal.invariant-loop-i
invariant-loop-i l =
    Left (any (clash_at l.jobs.marks.now l.jobs.specs.now l.job.drain l.job.prefix l.job.destination)) (λ k. k) l.jobs.count l.i (any (clash_at l.jobs.marks.now l.jobs.specs.now l.job.drain l.job.prefix l.job.destination) (rows_from (λ k. k) 0 l.jobs.count))

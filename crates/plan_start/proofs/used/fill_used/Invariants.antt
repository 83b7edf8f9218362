use Rattle.rows.specs.InSlices.{jobs_in}
use Rattle.plan_start.proofs.JobKeys.{KeysSoFar}
use Rattle.plan_start.proofs.used.fill_used.Given as goal

abbrev pub invariant-loop-i : goal.invariant-loop-i
invariant-loop-i l = KeysSoFar (jobs_in l.jobs) l.initial.used l.i l.at l.used

use mathlib.Core.Bool.{◌&&◌, not}
use Rattle.rules.specs.Tables.{active, is_drain}
use Rattle.plan_start.proofs.Largest.{Risen}
use Rattle.plan_start.proofs.JobRows.{bare_job}
use Rattle.plan_start.proofs.fresh.above_destinations.Given as goal

abbrev pub invariant-loop-i : goal.invariant-loop-i
invariant-loop-i l =
    Risen (λ x. active x && not (is_drain x)) (λ x. x.destination) (bare_job l.jobs.marks.now l.jobs.specs.now) l.jobs.count l.i l.above

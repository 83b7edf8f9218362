use mathlib.Core.List.{[]}
use Rattle.rules.specs.Tables.{holds_slot}
use Rattle.plan_start.proofs.Counting.{Counted}
use Rattle.plan_start.proofs.JobRows.{bare_job}
use Rattle.plan_start.proofs.slots.slots_held.Given as goal

abbrev pub invariant-loop-i : goal.invariant-loop-i
invariant-loop-i l = Counted holds_slot (bare_job l.jobs.marks.now []) l.jobs.count l.i l.held

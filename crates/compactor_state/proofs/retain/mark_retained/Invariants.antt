use Rattle.compactor_state.proofs.Retaining.{Retaining}
use Rattle.compactor_state.proofs.retain.mark_retained.Given as goal

abbrev pub invariant-loop-i : goal.invariant-loop-i
invariant-loop-i l = Retaining l.jobs.marks.now l.jobs.count l.flags l.seen l.i

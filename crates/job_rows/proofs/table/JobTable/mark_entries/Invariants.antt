use Rattle.job_rows.proofs.Flags.{Marking}
use Rattle.job_rows.proofs.table.JobTable.mark_entries.Given as goal

abbrev pub invariant-loop-i : goal.invariant-loop-i
invariant-loop-i l = Marking l.self.specs.now l.staying l.self.count l.initial.flags l.flags l.at l.i

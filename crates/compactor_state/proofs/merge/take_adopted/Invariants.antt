use Rattle.rows.specs.InSlices.{jobs_in}
use Rattle.job_rows.specs.Table.{table_in, SameTables}
use Rattle.compactor_state.proofs.Taking.{TakingFrom}
use Rattle.compactor_state.proofs.merge.take_adopted.Given as goal

abbrev pub invariant-loop-i : goal.invariant-loop-i
invariant-loop-i l =
    TakingFrom (table_in l.initial.jobs) (jobs_in l.remote) l.taken l.i l.at (table_in l.jobs) × SameTables l.initial.jobs l.jobs

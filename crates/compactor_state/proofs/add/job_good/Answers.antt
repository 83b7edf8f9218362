-- `job_good` meets its contract: the status first, then the kind, then the job's own sources.
use Rattle.compactor_state.proofs.AddCall.{status-bad, drain-bad, sources-tell}
use Rattle.compactor_state.proofs.add.job_good.Goals as goal

pub returns-then-job : goal.returns-then-job
returns-then-job c = status-bad _ c.if-job.true

pub returns-then-job-2 : goal.returns-then-job-2
returns-then-job-2 c = drain-bad _ c.if-job.false c.if-job-2.true

pub returns : goal.returns
returns c = sources-tell _ c.if-job.false c.if-job-2.false c.are_good.ensures

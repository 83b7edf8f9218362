use Rattle.rules.specs.Lists.{all}
use Rattle.rules.specs.Lent.{rows_from}
use Rattle.rows.specs.Shape.{good_marks_at}
use Rattle.rows.proofs.Scans.{Left}
use Rattle.rows.proofs.jobs.job_marks_good.Given as goal

abbrev pub invariant-loop-i : goal.invariant-loop-i
invariant-loop-i l =
    Left (all (good_marks_at l.job_marks)) (λ k. k) l.n l.i (all (good_marks_at l.job_marks) (rows_from (λ k. k) 0 l.n))

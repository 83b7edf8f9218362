-- `are_good` meets its contract: each way through settles one part of `flat_jobs`, in its order.
use mathlib.Core.Path.{sym, ap, ◌∙◌}
use mathlib.Core.Bool.{true≢false}
use native.Mathlib.Omega.{arith}
use Rattle.rules.specs.Lists.{all}
use Rattle.rules.specs.Bounds.{is_mark}
use Rattle.rules.proofs.Rows.{part-is}
use Rattle.rows.proofs.Scans.{all_listed}
use Rattle.rows.specs.Shape.{flat_jobs}
use Rattle.rows.proofs.jobs.Jobs.are_good.Goals as goal
use Rattle.rows.proofs.jobs.Jobs.are_good.Goals.{then-rising, else-rising}

pub returns-then-job_marks_good : goal.returns-then-job_marks_good
unfolding flat_jobs
returns-then-job_marks_good c = elim c.if-rising.branch [
  | then-rising w ↦
      rw (sym c.rising.ensures ∙ w.if-rising.true, sym w.job_marks_good.ensures ∙ sym w.value-is ∙ c.if-job_marks_good.true, ← c.column_sum.ensures)
      (c.marks_good.ensures ∙ all_listed is_mark _ ∙ sym (ap (all is_mark) (part-is c.args.self.now.sources.marks.now 0 c.column_sum.result (omega (arith, c.column_sum.ensures)))))
  | else-rising w ↦ absurd (true≢false (sym c.if-job_marks_good.true ∙ w.value-is ∙ w.if-rising.false))
]

pub returns-else-job_marks_good : goal.returns-else-job_marks_good
unfolding flat_jobs
returns-else-job_marks_good c = elim c.if-rising.branch [
  | then-rising w ↦
      c.if-job_marks_good.false ∙ rw (sym c.rising.ensures ∙ w.if-rising.true, sym w.job_marks_good.ensures ∙ sym w.value-is ∙ c.if-job_marks_good.false)
  | else-rising w ↦ w.value-is ∙ w.if-rising.false ∙ rw (sym c.rising.ensures ∙ w.if-rising.false)
]

-- `check` meets its contract: each return is one case of its two refusals (OneTable.antt); the rules on jobs are read off
-- the slices by `flat-jobs`.
use mathlib.Core.Path.{refl, sym, ◌∙◌}
use Rattle.rules.specs.Lent.{LentJobs, sources_used}
use Rattle.rows.specs.InSlices.{jobs_in}
use Rattle.rules.proofs.Bounds.{jobs-within, jobs-lent}
use Rattle.rows.proofs.Shapes.{flat-jobs}
use Rattle.rows.proofs.OneTable.{jobs-told}
use Rattle.rows.proofs.jobs.Jobs.check.Goals as goal

pub returns-then-jobs_outside : goal.returns-then-jobs_outside
returns-then-jobs_outside c = jobs-told _ (sym (c.jobs_outside.ensures _ refl refl) ∙ c.if-jobs_outside.true) refl refl

pub returns-then-not-at_capacity : goal.returns-then-not-at_capacity
returns-then-not-at_capacity c =
    jobs-told _ (sym (c.jobs_outside.ensures _ refl refl) ∙ c.if-jobs_outside.false) (sym c.at_capacity.ensures ∙ c.if-not-at_capacity.true) refl

pub are_good-requires : goal.are_good-requires
unfolding sources_used
are_good-requires c =
    let lent : LentJobs = jobs_in c.args.self.now in
    let w = jobs-within lent (sym (c.jobs_outside.ensures lent refl refl) ∙ c.if-jobs_outside.false) in
    let f = jobs-lent lent (sym c.at_capacity.ensures ∙ c.if-not-at_capacity.false) in
    (w.jobs, f.job_ids, f.job_marks, f.source_marks, w.sources)

pub returns-then-are_good : goal.returns-then-are_good
returns-then-are_good c =
    jobs-told _ (sym (c.jobs_outside.ensures _ refl refl) ∙ c.if-jobs_outside.false) (sym c.at_capacity.ensures ∙ c.if-not-at_capacity.false) (flat-jobs _ ∙ sym c.are_good.ensures ∙ c.if-are_good.true)

pub returns : goal.returns
returns c =
    jobs-told _ (sym (c.jobs_outside.ensures _ refl refl) ∙ c.if-jobs_outside.false) (sym c.at_capacity.ensures ∙ c.if-not-at_capacity.false) (flat-jobs _ ∙ sym c.are_good.ensures ∙ c.if-are_good.false)

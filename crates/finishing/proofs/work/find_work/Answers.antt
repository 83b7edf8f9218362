-- `find_work` meets its contract: each return is one case of what is found (Finding.antt).
use native.Mathlib.Omega.{arith}
use mathlib.Core.Path.{sym, ◌∙◌}
use Rattle.rules.specs.declared.tables.Kind.TheVariants.{Tiered}
use Rattle.finishing.proofs.Finding.{no-job, wrong-kind, no-sources, the-job, the-tree, of-kind, not-of-kind}
use Rattle.finishing.proofs.work.find_work.Goals as goal
use Rattle.finishing.proofs.work.find_work.Goals.{else-eq-via-then-eq+else-jobs-job-eq0, else-eq-via-else-eq}

pub returns-in_default : goal.returns-in_default
returns-in_default c = λ t j n s m i k p g. no-job t j _ _ (rw (← m, ← i) at c.in_default.ensures.found) (omega arith)

pub returns-then-jobs-job : goal.returns-then-jobs-job
returns-then-jobs-job c = λ t j n s m i k p g. wrong-kind t j _ _ (rw (← m, ← i) at c.in-Some.ensures.found) (rw m c.in-Some.ensures.within) g (λ e. c.if-jobs-job.true (rw k at e ∙ sym c.mark.ensures))

pub returns-then-jobs-job-eq0 : goal.returns-then-jobs-job-eq0
returns-then-jobs-job-eq0 c = λ t j n s m i k p g. no-sources t j _ _ (rw (← m, ← i) at c.in-Some.ensures.found) (rw m c.in-Some.ensures.within) (rw k (c.if-jobs-job.false ∙ c.mark.ensures)) (of-kind c.args.kind Tiered c.eq.ensures c.if-eq.true) (rw p c.if-jobs-job-eq0.true)

pub returns : goal.returns
returns c =
    λ t j n s m i k p g. (
      the-job t j _ _ (rw (← m, ← i) at c.in-Some.ensures.found) (rw m c.in-Some.ensures.within) (rw k (c.if-jobs-job.false ∙ c.mark.ensures))
          (elim c.else-eq.branch [
            | else-eq-via-then-eq+else-jobs-job-eq0 w ↦ (λ z. rw p w.if-jobs-job-eq0.false)
            | else-eq-via-else-eq w ↦ (λ z. absurd (not-of-kind c.args.kind Tiered c.eq.ensures w.if-eq.false z))
          ]),
      rw p (the-tree t _ _ (rw (n, s) c.find-tree.ensures.found) (rw n c.find-tree.ensures.within)),
    )

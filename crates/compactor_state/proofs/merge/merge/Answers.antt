-- `merge` meets its contract: refused, the table is as it was (`merge-refused`); else it is the merged one (`merge-done`). A refusal of
-- the tables is the call's (`refused-early`), and that of the plan is it else (`refused-late`).
use Rattle.std.proofs.lemmas.Result.{err_from_is_err_and}
use Rattle.rules.proofs.Refused.{numbered}
use Rattle.merging.proofs.Plans.{own-rows}
use Rattle.compactor_state.proofs.MergeCall.{refused-early, refused-late, merge-ready, plan-asks, merge-refused, merge-done}
use Rattle.compactor_state.proofs.merge.merge.Goals as goal

pub returns-in_err-check_both-clause-answers : goal.returns-in_err-check_both-clause-answers
returns-in_err-check_both-clause-answers c =
    let p = err_from_is_err_and c.from_residual.result c.from_residual.ensures.1 in
    rw (p.1, p.2) (merge-refused _ _ _ (rw c.rows-rows.ensures at (refused-early _ _ c.in_err-check_both.ensures (numbered _))))

pub plan_merge-plan-requires : goal.plan_merge-plan-requires
plan_merge-plan-requires c = plan-asks _ _ c.in_ok-check_both.ensures

pub returns-in_err-plan-clause-answers : goal.returns-in_err-plan-clause-answers
returns-in_err-plan-clause-answers c =
    let p = err_from_is_err_and c.from_residual-in_err-plan.result c.from_residual-in_err-plan.ensures.1 in
    let full = refused-late _ _ c.in_ok-check_both.ensures (rw c.in_err-plan.was at (c.plan_merge-plan.ensures.fits _ _ (own-rows _) (own-rows _))) in
    rw (p.1, p.2) (merge-refused _ _ _ (rw c.rows-rows.ensures at full))

pub merge_rows-requires : goal.merge_rows-requires
merge_rows-requires c =
    let fits = refused-late _ _ c.in_ok-check_both.ensures (rw c.in_ok-plan.was at (c.plan_merge-plan.ensures.fits _ _ (own-rows _) (own-rows _))) in
    let ready = merge-ready _ _ c.in_ok-check_both.ensures fits (c.plan_merge-plan.ensures.planned _ _ (own-rows _) (own-rows _)) in
    rw c.rows-rows.ensures at ready

pub returns-clause-answers : goal.returns-clause-answers
returns-clause-answers c =
    let fits = refused-late _ _ c.in_ok-check_both.ensures (rw c.in_ok-plan.was at (c.plan_merge-plan.ensures.fits _ _ (own-rows _) (own-rows _))) in
    merge-done _ _ _ (rw c.rows-rows.ensures at fits) c.merge_rows.ensures.merged

-- `check_both` meets its contract: each return is one case of `tables_refusal` (MergeCall.antt).
use mathlib.Core.Path.{refl, sym, ◌∙◌}
use Rattle.std.proofs.lemmas.Result.{err_from_is_err_and}
use Rattle.rules.proofs.Refused.{numbered}
use Rattle.compactor_state.proofs.MergeCall.{outside-here, outside-there, bad-here, left-there}
use Rattle.compactor_state.proofs.merge.check_both.Goals as goal

pub returns-then-jobs_outside : goal.returns-then-jobs_outside
returns-then-jobs_outside c = outside-here _ _ (sym (c.jobs_outside.ensures _ refl refl) ∙ c.if-jobs_outside.true)

pub returns-then-jobs_outside-2 : goal.returns-then-jobs_outside-2
returns-then-jobs_outside-2 c =
    outside-there _ _ (sym (c.jobs_outside.ensures _ refl refl) ∙ c.if-jobs_outside.false) (sym (c.jobs_outside-2.ensures _ refl refl) ∙ c.if-jobs_outside-2.true)

pub returns-in_err-check : goal.returns-in_err-check
returns-in_err-check c =
    let p = err_from_is_err_and c.from_residual.result c.from_residual.ensures.1 in
    rw (p.1, p.2) (bad-here _ _ (sym (c.jobs_outside.ensures _ refl refl) ∙ c.if-jobs_outside.false) (sym (c.jobs_outside-2.ensures _ refl refl) ∙ c.if-jobs_outside-2.false) c.in_err-check.ensures (numbered _))

pub returns : goal.returns
returns c =
    left-there _ _ (sym (c.jobs_outside.ensures _ refl refl) ∙ c.if-jobs_outside.false) (sym (c.jobs_outside-2.ensures _ refl refl) ∙ c.if-jobs_outside-2.false) c.in_ok-check.ensures c.check-2.ensures

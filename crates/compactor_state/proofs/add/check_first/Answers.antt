-- `check_first` meets its contract: each return is one case of `refused_first`, in its order.
use mathlib.Core.Path.{refl, sym, ap, ◌∙◌}
use mathlib.Core.Bool.{not}
use Rattle.std.proofs.lemmas.Result.{err_from_is_err_and}
use Rattle.rules.proofs.Refused.{numbered}
use Rattle.job_rows.specs.Table.{job_in}
use Rattle.compactor_state.proofs.AddCall.{table-refused, job-refused, clash-refused, none-refused, clash-rows, told-good, told-bad}
use Rattle.compactor_state.proofs.add.check_first.Goals as goal

pub returns-in_err-check : goal.returns-in_err-check
returns-in_err-check c =
    let p = err_from_is_err_and c.from_residual.result c.from_residual.ensures.1 in
    rw (p.1, p.2) (table-refused _ _ c.in_err-check.ensures (numbered _))

pub returns-then-not-job_good : goal.returns-then-not-job_good
returns-then-not-job_good c = job-refused _ _ c.in_ok-check.ensures refl (told-bad c.job_good.ensures (ap not c.if-not-job_good.true))

pub clashes-requires : goal.clashes-requires
clashes-requires c = clash-rows _ (job_in c.args.job.now) c.in_ok-check.ensures refl

pub returns-then-clashes : goal.returns-then-clashes
returns-then-clashes c = clash-refused _ _ c.in_ok-check.ensures refl (told-good c.job_good.ensures (ap not c.if-not-job_good.false)) (sym c.clashes.ensures ∙ c.if-clashes.true)

pub returns : goal.returns
returns c = none-refused _ _ c.in_ok-check.ensures refl (told-good c.job_good.ensures (ap not c.if-not-job_good.false)) (sym c.clashes.ensures ∙ c.if-clashes.false)

-- `plan_add` meets its contract: what is refused first is the refusal (`first-refusal`), and what is refused for want of room else
-- (`add-full`).
use mathlib.Core.Path.{sym}
use Rattle.std.proofs.lemmas.Result.{err_from_is_err_and}
use Rattle.job_rows.proofs.Fitting.{ids-fit, specs-fit}
use Rattle.rules.proofs.Refused.{numbered}
use Rattle.compactor_state.proofs.AddCall.{first-refusal, first-capacity, add-full}
use Rattle.compactor_state.proofs.add.plan_add.Goals as goal

pub returns-in_err-check_first-clause-refused : goal.returns-in_err-check_first-clause-refused
returns-in_err-check_first-clause-refused c =
    let p = err_from_is_err_and c.from_residual.result c.from_residual.ensures.1 in
    rw (p.1, p.2) (sym (first-refusal _ _ c.in_err-check_first.ensures (numbered _)))

pub mark_others-staying-requires : goal.mark_others-staying-requires
mark_others-staying-requires c =
    let room = first-capacity _ _ c.in_ok-check_first.ensures in
    (room.jobs, ids-fit room)

pub check_room-requires : goal.check_room-requires
check_room-requires c =
    let room = first-capacity _ _ c.in_ok-check_first.ensures in
    (room.jobs, specs-fit room)

pub returns-in_err-check_room-clause-refused : goal.returns-in_err-check_room-clause-refused
returns-in_err-check_room-clause-refused c =
    let p = err_from_is_err_and c.from_residual-in_err-check_room.result c.from_residual-in_err-check_room.ensures.1 in
    rw (p.1, p.2) (add-full _ _ c.in_ok-check_first.ensures c.mark_others-staying.ensures c.in_err-check_room.ensures)

pub returns-clause-refused : goal.returns-clause-refused
returns-clause-refused c = add-full _ _ c.in_ok-check_first.ensures c.mark_others-staying.ensures c.in_ok-check_room.ensures

-- `retain` meets its contract: refused, the table is as it was (`retain-refused`); else the flags keep what retention keeps
-- (`retain-done`).
use Rattle.std.proofs.lemmas.Result.{err_from_is_err_and}
use Rattle.job_rows.proofs.Fitting.{good-capacity, marks-fit}
use Rattle.compactor_state.proofs.Retaining.{retain-refused, retain-good, retain-flags, retain-done}
use Rattle.compactor_state.proofs.retain.retain.Goals as goal

pub returns-in_err-check-clause-answers : goal.returns-in_err-check-clause-answers
returns-in_err-check-clause-answers c =
    let p = err_from_is_err_and c.from_residual.result c.from_residual.ensures.1 in
    rw (p.1, p.2) (retain-refused _ _ (rw c.rows-rows.ensures at c.in_err-check.ensures))

pub mark_retained-staying-requires : goal.mark_retained-staying-requires
mark_retained-staying-requires c =
    let room = good-capacity (retain-good _ c.in_ok-check.ensures) in
    (room.jobs, marks-fit room)

pub keep-requires : goal.keep-requires
keep-requires c =
    let none = rw c.rows-rows.ensures at c.in_ok-check.ensures in
    (good-capacity (retain-good _ none), retain-flags _ none (rw c.rows-rows.ensures at c.mark_retained-staying.ensures))

pub returns-clause-answers : goal.returns-clause-answers
returns-clause-answers c = retain-done _ (rw c.rows-rows.ensures at c.in_ok-check.ensures) (rw c.rows-rows.ensures at c.mark_retained-staying.ensures) c.keep.ensures.kept

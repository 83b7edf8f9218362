-- `add` meets its contract: refused, the table is as it was (`add-refused`); else the job of its id goes out and it goes in
-- (`add_done`).
use Rattle.std.proofs.lemmas.Result.{err_from_is_err_and}
use Rattle.compactor_state.proofs.AddCall.{add-refused, add-capacity, add-flags, add-room, add_done}
use Rattle.compactor_state.proofs.add.add.Goals as goal

pub returns-in_err-staying-clause-answers : goal.returns-in_err-staying-clause-answers
returns-in_err-staying-clause-answers c =
    let p = err_from_is_err_and c.from_residual.result c.from_residual.ensures.1 in
    rw (p.1, p.2) (add-refused _ _ _ (rw c.rows.ensures at c.in_err-staying.ensures.refused))

pub keep-requires : goal.keep-requires
keep-requires c =
    let none = rw c.rows.ensures at c.in_ok-staying.ensures.refused in
    (add-capacity _ _ none, add-flags _ _ none (rw c.rows.ensures at c.in_ok-staying.ensures.planned))

pub insert-requires : goal.insert-requires
insert-requires c =
    add-room _ _ (rw c.rows.ensures at c.in_ok-staying.ensures.refused) (rw c.rows.ensures at c.in_ok-staying.ensures.planned) c.keep.ensures.kept

pub returns-clause-answers : goal.returns-clause-answers
returns-clause-answers c = add_done _ _ (rw c.rows.ensures at c.in_ok-staying.ensures.refused) (rw c.rows.ensures at c.in_ok-staying.ensures.planned) c.keep.ensures.kept c.insert.ensures.inserted

-- `finish` meets its contract: what was found is one case of `finish_call`, and the steps of the change make that case's table (`finish-leaves`).
use Rattle.compactor_finish.proofs.Commits.{found, no-tree, both-fit, finish-found, finish-missing, sourced}
use Rattle.compactor_finish.proofs.Leaving.{leaves-missing, finish-keep-asks, finish-put-asks, finish-watermark-asks, finish-leaves}
use Rattle.compactor_finish.proofs.finish.finish.Goals as goal

pub set_status-requires : goal.set_status-requires
set_status-requires c =
    let f = found c.rows-lent.ensures c.rows-listed.ensures c.in_ok-work.ensures in
    (finish-missing _ _ _ f.trees f.jobs f.job c.args.output (no-tree f c.in_default.is)).room

pub returns-in_default-clause-leaves : goal.returns-in_default-clause-leaves
returns-in_default-clause-leaves c =
    let f = found c.rows-lent.ensures c.rows-listed.ensures c.in_ok-work.ensures in
    leaves-missing (finish-missing _ _ _ f.trees f.jobs f.job c.args.output (no-tree f c.in_default.is)) c.set_status.ensures.set

pub place_finish-requires-clause-room : goal.place_finish-requires-clause-room
place_finish-requires-clause-room c =
    let f = found c.rows-lent.ensures c.rows-listed.ensures c.in_ok-work.ensures in
    let b = both-fit f c.in-Some.is c.rows-lent.ensures c.rows-listed.ensures in
    (b.0, b.1, b.2, b.3, sourced f c.rows-listed.ensures)

pub keep_rows-requires : goal.keep_rows-requires
keep_rows-requires c =
    let m = finish-found c.rows-lent.ensures c.rows-listed.ensures (found c.rows-lent.ensures c.rows-listed.ensures c.in_ok-work.ensures) c.in-Some.is c.in_ok-change.ensures in
    finish-keep-asks m

pub put_run-requires : goal.put_run-requires
put_run-requires c =
    let m = finish-found c.rows-lent.ensures c.rows-listed.ensures (found c.rows-lent.ensures c.rows-listed.ensures c.in_ok-work.ensures) c.in-Some.is c.in_ok-change.ensures in
    finish-put-asks m (c.keep_rows.ensures.kept m.p m.q m.rows m.runs)

pub set_watermark-requires : goal.set_watermark-requires
set_watermark-requires c =
    let m = finish-found c.rows-lent.ensures c.rows-listed.ensures (found c.rows-lent.ensures c.rows-listed.ensures c.in_ok-work.ensures) c.in-Some.is c.in_ok-change.ensures in
    finish-watermark-asks m (c.keep_rows.ensures.kept m.p m.q m.rows m.runs) c.put_run.ensures.put

pub returns-clause-leaves : goal.returns-clause-leaves
returns-clause-leaves c =
    let m = finish-found c.rows-lent.ensures c.rows-listed.ensures (found c.rows-lent.ensures c.rows-listed.ensures c.in_ok-work.ensures) c.in-Some.is c.in_ok-change.ensures in
    finish-leaves m (c.keep_rows.ensures.kept m.p m.q m.rows m.runs) c.put_run.ensures.put c.set_watermark.ensures.set c.set_status-2.ensures.set

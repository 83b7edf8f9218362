-- `drain` meets its contract: what was found is one case of `drain_call`, and the steps of the change make that case's table (`drain-leaves`).
use Rattle.compactor_finish.proofs.Commits.{found, no-tree, both-fit, drain-found, drain-missing}
use Rattle.compactor_finish.proofs.Leaving.{leaves-missing, drain-keep-asks, drain-watermark-asks, drain-leaves}
use Rattle.compactor_finish.proofs.drain.drain.Goals as goal

pub returns-in_default-clause-leaves : goal.returns-in_default-clause-leaves
returns-in_default-clause-leaves c =
    let f = found c.rows-lent.ensures c.rows-listed.ensures c.in_ok-work.ensures in
    leaves-missing (drain-missing _ _ _ f.trees f.jobs f.job (no-tree f c.in_default.is)) c.set_status.ensures.set

pub mark_drain-watermark-requires-clause-room : goal.mark_drain-watermark-requires-clause-room
mark_drain-watermark-requires-clause-room c = both-fit (found c.rows-lent.ensures c.rows-listed.ensures c.in_ok-work.ensures) c.in-Some.is c.rows-lent.ensures c.rows-listed.ensures

pub keep_rows-requires : goal.keep_rows-requires
keep_rows-requires c =
    let m = drain-found c.rows-lent.ensures c.rows-listed.ensures (found c.rows-lent.ensures c.rows-listed.ensures c.in_ok-work.ensures) c.in-Some.is c.mark_drain-watermark.ensures in
    drain-keep-asks m

pub set_watermark-requires : goal.set_watermark-requires
set_watermark-requires c =
    let m = drain-found c.rows-lent.ensures c.rows-listed.ensures (found c.rows-lent.ensures c.rows-listed.ensures c.in_ok-work.ensures) c.in-Some.is c.mark_drain-watermark.ensures in
    drain-watermark-asks m (c.keep_rows.ensures.kept m.p m.q m.rows m.runs)

pub returns-clause-leaves : goal.returns-clause-leaves
returns-clause-leaves c =
    let m = drain-found c.rows-lent.ensures c.rows-listed.ensures (found c.rows-lent.ensures c.rows-listed.ensures c.in_ok-work.ensures) c.in-Some.is c.mark_drain-watermark.ensures in
    drain-leaves m (c.keep_rows.ensures.kept m.p m.q m.rows m.runs) c.set_watermark.ensures.set c.set_status-2.ensures.set

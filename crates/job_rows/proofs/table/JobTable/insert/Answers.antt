-- `insert` meets its contract: each mover opens a gap at the job's place and fills it (`inserts`), and there is room.
use Rattle.job_rows.specs.Table.{job_in}
use Rattle.job_rows.proofs.Inserting.{ask-sum, ask-ids, ask-marks, ask-specs, ask-source-marks, ask-source-runs, ask-source-views, inserts}
use Rattle.job_rows.proofs.table.JobTable.insert.Goals as goal

pub entries_before-from-requires : goal.entries_before-from-requires
entries_before-from-requires c =
    ask-sum _ (job_in c.args.job.now) c.requires _ c.place-at.ensures

pub open_rows-requires : goal.open_rows-requires
open_rows-requires c =
    ask-source-marks _ (job_in c.args.job.now) c.requires _ c.place-at.ensures _ _ c.entries_before-used.ensures c.entries_before-from.ensures

pub open_rows-requires-2 : goal.open_rows-requires-2
open_rows-requires-2 c =
    ask-source-runs _ (job_in c.args.job.now) c.requires _ c.place-at.ensures _ _ c.entries_before-used.ensures c.entries_before-from.ensures

pub open_rows-requires-3 : goal.open_rows-requires-3
open_rows-requires-3 c =
    ask-source-views _ (job_in c.args.job.now) c.requires _ c.place-at.ensures _ _ c.entries_before-used.ensures c.entries_before-from.ensures

pub open_rows-requires-4 : goal.open_rows-requires-4
open_rows-requires-4 c =
    ask-ids _ (job_in c.args.job.now) c.requires _ c.place-at.ensures

pub open_rows-requires-5 : goal.open_rows-requires-5
open_rows-requires-5 c =
    ask-marks _ (job_in c.args.job.now) c.requires _ c.place-at.ensures

pub open_rows-requires-6 : goal.open_rows-requires-6
open_rows-requires-6 c =
    ask-specs _ (job_in c.args.job.now) c.requires _ c.place-at.ensures

pub returns-clause-inserted : goal.returns-clause-inserted
returns-clause-inserted c =
    inserts _ _ c.requires _ c.place-at.ensures _ _ c.entries_before-used.ensures c.entries_before-from.ensures
    c.open_rows.ensures
    c.open_rows-2.ensures
    c.open_rows-3.ensures
    c.open_rows-4.ensures
    c.open_rows-5.ensures
    c.open_rows-6.ensures

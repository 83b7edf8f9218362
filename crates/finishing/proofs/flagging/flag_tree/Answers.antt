-- `flag_tree` meets its contract: the flags that the two loops leave say of each row whether it stays (`flags-made`).
use Rattle.rules.specs.Tables.{mark_of}
use Rattle.finishing.specs.Finding.{names_at}
use Rattle.finishing.proofs.Pasting.{flags-made, sources-fit, rows_fit, runs_fit}
use Rattle.finishing.proofs.flagging.flag_tree.Goals as goal

pub flag_rows-requires : goal.flag_rows-requires
flag_rows-requires c = (sources-fit c.args.jobs.now c.requires.1 c.part-entries.ensures, (rows_fit c.requires.0 c.part-part.ensures c.requires.2).0, (rows_fit c.requires.0 c.part-part.ensures c.requires.2).1)

pub flag_runs-requires : goal.flag_runs-requires
flag_runs-requires c = (sources-fit c.args.jobs.now c.requires.1 c.part-entries.ensures, (runs_fit c.requires.0 c.part-part.ensures c.requires.2).0, (runs_fit c.requires.0 c.part-part.ensures c.requires.2).1)

pub returns : goal.returns
returns c = flags-made _ _ (mark_of c.args.kind) c.args.job c.args.tree c.requires.0 c.requires.2 c.part-part.ensures c.part-entries.ensures _ (c.destination_of-destination.ensures (names_at c.args.jobs.now.sources c.part-entries.result)) c.flag_rows.ensures c.flag_runs.ensures

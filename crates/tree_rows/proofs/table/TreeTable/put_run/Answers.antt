-- `put_run` meets its contract: both columns are opened at the same place, and the count of tree i is one more.
use mathlib.Core.Path.{refl, ap, ◌∙◌}
use native.Mathlib.Omega.{arith}
use Rattle.rules.specs.Lent.{runs_used}
use Rattle.tree_rows.proofs.Putting.{place-within, count-few, put-table}
use Rattle.tree_rows.proofs.table.TreeTable.put_run.Goals as goal

pub open_rows-requires : goal.open_rows-requires
open_rows-requires c = (omega (arith, place-within c.requires, c.runs_used-runs_used.ensures, ap runs_used c.rows-lent.ensures), omega (arith, c.requires.runs, c.requires.run_ids, c.runs_used-runs_used.ensures, ap runs_used c.rows-lent.ensures), omega arith)

pub open_rows-requires-2 : goal.open_rows-requires-2
open_rows-requires-2 c = (omega (arith, place-within c.requires, c.runs_used-runs_used.ensures, ap runs_used c.rows-lent.ensures), omega (arith, c.requires.runs, c.requires.run_sizes, c.runs_used-runs_used.ensures, ap runs_used c.rows-lent.ensures), omega arith)

pub overflow_add-self-2 : goal.overflow_add-self-2
overflow_add-self-2 c = omega (arith, count-few c.requires)

pub returns-clause-put : goal.returns-clause-put
returns-clause-put c = put-table c.requires c.args.run (c.runs_used-runs_used.ensures ∙ ap runs_used c.rows-lent.ensures) refl c.open_rows.ensures c.open_rows-2.ensures

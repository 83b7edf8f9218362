-- `merge_rows` meets its contract: what `keep` leaves is a table to which the adopted jobs are new (`can-take-all`), and with them it is the
-- merged one (`merge-laid`).
use Rattle.compactor_state.proofs.Taking.{can-take-all, merge-laid}
use Rattle.compactor_state.proofs.merge.merge_rows.Goals as goal

pub take_adopted-requires : goal.take_adopted-requires
take_adopted-requires c = can-take-all c.requires c.keep.ensures.kept

pub returns-clause-merged : goal.returns-clause-merged
returns-clause-merged c = merge-laid c.requires c.keep.ensures.kept c.take_adopted.ensures.took

-- `set_watermark` meets its contract: the six stores go into the two rows of tree i.
use mathlib.Core.Path.{refl}
use Rattle.tree_rows.specs.Table.{table_in}
use Rattle.tree_rows.proofs.Marking.{marks-put, watermarks-put, watermark-table}
use Rattle.tree_rows.proofs.table.TreeTable.set_watermark.Goals as goal

pub returns-clause-set : goal.returns-clause-set
returns-clause-set c = λ h k. watermark-table (table_in c.args.self.now) c.args.i h k c.args.watermark c.requires.1 c.requires.2 refl refl

pub returns-clause-every : goal.returns-clause-every
returns-clause-every c =
    λ t h k m. record {
      watermark_marks = marks-put t _ h k c.args.watermark c.requires.1 m.watermark_marks refl;
      watermarks = watermarks-put t _ h k c.args.watermark c.requires.2 m.watermarks refl;
    }

use lib.ListN.{length}
use Rattle.size_tiered_compaction.specs.LogicalOrder.{named_in, lowest_of}
use Rattle.size_tiered_compaction.proofs.Lowest.{Lower}
use Rattle.size_tiered_compaction.proofs.validate.lowest_run.Given as goal

abbrev pub invariant-loop-k : goal.invariant-loop-k
invariant-loop-k l = Lower (named_in l.sources) (length l.sources.marks.now) l.k (lowest_of l.low)

use Prim.Native.Nat.{◌-◌}
use lib.ListN.{length}
use Rattle.rules.specs.Lent.{rows_from}
use Rattle.rules.specs.Validation.{starts_with}
use Rattle.size_tiered_compaction.specs.LogicalOrder.{order_in, places_in, named_in, names_in}
use Rattle.size_tiered_compaction.proofs.Consecutive.{Matches}
use Rattle.size_tiered_compaction.proofs.validate.LogicalOrder.starts_with.Given as goal

abbrev pub invariant-loop-k : goal.invariant-loop-k
invariant-loop-k l =
    Matches (order_in l.self) (named_in l.sources) (places_in l.self) (length l.sources.marks.now) l.p l.k (starts_with (rows_from (order_in l.self) l.p (places_in l.self - l.p)) (names_in l.sources))

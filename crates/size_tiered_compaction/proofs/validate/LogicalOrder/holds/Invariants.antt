use Rattle.rules.specs.Lent.{rows_from}
use Rattle.rules.specs.Validation.{consecutive}
use Rattle.rows.proofs.Scans.{Left}
use Rattle.size_tiered_compaction.specs.LogicalOrder.{order_in, places_in, names_in}
use Rattle.size_tiered_compaction.proofs.validate.LogicalOrder.holds.Given as goal

abbrev pub invariant-loop-p : goal.invariant-loop-p
invariant-loop-p l =
    Left (λ xs. consecutive xs (names_in l.sources)) (order_in l.self) (places_in l.self) l.p (consecutive (rows_from (order_in l.self) 0 (places_in l.self)) (names_in l.sources))

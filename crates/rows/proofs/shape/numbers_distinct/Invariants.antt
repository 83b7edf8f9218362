use Prim.Native.Nat.{◌*◌}
use lib.Dec.{eqb}
use lib.ListN.{get_or}
use Rattle.rules.specs.Lists.{distinct}
use Rattle.rules.specs.Lent.{rows_from}
use Rattle.rows.proofs.Scans.{Left}
use Rattle.rows.proofs.shape.numbers_distinct.Given as goal

abbrev pub invariant-loop-i : goal.invariant-loop-i
invariant-loop-i l =
    Left (distinct eqb) (λ k. get_or l.s (l.w * k) 0) l.n l.i (distinct eqb (rows_from (λ k. get_or l.s (l.w * k) 0) 0 l.n))

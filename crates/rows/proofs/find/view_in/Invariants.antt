use mathlib.Core.Bool.{not}
use Prim.Native.Nat.{◌-◌, ◌*◌}
use Rattle.rules.specs.Lists.{leading}
use Rattle.rules.specs.Tables.{same_ulid}
use Rattle.rules.specs.Lent.{rows_from, ulid_at}
use Rattle.rows.proofs.Finds.{Sought}
use Rattle.rows.proofs.find.view_in.Given as goal

abbrev pub invariant-loop-i : goal.invariant-loop-i
invariant-loop-i l =
    Sought (λ u. same_ulid u l.view) (λ k. ulid_at l.l0_ids (4 * k)) l.to l.from l.i (leading (λ u. not (same_ulid u l.view)) (rows_from (λ k. ulid_at l.l0_ids (4 * k)) l.from (l.to - l.from)))

use Prim.Native.Nat.{◌*◌}
use Rattle.rules.specs.declared.tables.SourceId.TheVariants.{SstView}
use Rattle.rules.specs.Tables.{among}
use Rattle.rules.specs.Lent.{ulid_at}
use Rattle.finishing.specs.Finding.{names_at, flag_of}
use Rattle.finishing.proofs.Finding.{Flagging}
use Rattle.finishing.proofs.flagging.flag_rows.Given as goal

abbrev pub invariant-loop-k : goal.invariant-loop-k
invariant-loop-k l =
    Flagging l.initial.kept (λ k. flag_of (among (SstView (ulid_at l.l0_ids (4 * k))) (names_at l.sources l.fn.entries))) l.first l.rows l.kept l.k

use Prim.Native.Nat.{◌+◌}
use Rattle.rules.specs.Lists.{any}
use Rattle.rules.specs.Tables.{same_id, id_of}
use Rattle.rules.specs.Lent.{rows_from, source_at}
use Rattle.rows.proofs.Scans.{Left}
use Rattle.finishing.proofs.flagging.is_source.Given as goal

abbrev pub invariant-loop-i : goal.invariant-loop-i
invariant-loop-i l =
    Left (any (λ y. same_id y l.id)) (λ k. id_of (source_at l.sources.marks.now l.sources.runs.now l.sources.views.now k)) (l.fn.entries.first + l.fn.entries.count) l.i (any (λ y. same_id y l.id) (rows_from (λ k. id_of (source_at l.sources.marks.now l.sources.runs.now l.sources.views.now k)) l.fn.entries.first l.fn.entries.count))

use lib.ListN.{get_or}
use Rattle.rules.specs.declared.tables.SourceId.TheVariants.{SortedRun}
use Rattle.rules.specs.Tables.{among}
use Rattle.finishing.specs.Finding.{names_at, gone_beside, flag_of}
use Rattle.finishing.proofs.Finding.{Flagging}
use Rattle.finishing.proofs.flagging.flag_runs.Given as goal

abbrev pub invariant-loop-k : goal.invariant-loop-k
invariant-loop-k l =
    Flagging l.initial.kept (λ k. flag_of (among (SortedRun (get_or l.run_ids k 0)) (gone_beside l.destination (names_at l.sources l.fn.entries)))) l.first l.runs l.kept l.k

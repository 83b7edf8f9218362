-- `lowest_run` meets its contract: the invariant is that the lowest so far, with that of the sources left, is that of all (`Lower`).
use mathlib.Core.Path.{ap, ◌∙◌}
use mathlib.Core.List.{[], ◌∷◌}
use Rattle.rules.specs.Tables.{id_of}
use Rattle.rules.specs.declared.tables.SourceId.{SourceId}
use Rattle.rules.specs.Validation.{lowest_run}
use Rattle.size_tiered_compaction.specs.LogicalOrder.{lowest_of, joined_low}
use Rattle.size_tiered_compaction.proofs.Lowest.{low-starts, low-on, low-ends}
use Rattle.size_tiered_compaction.proofs.validate.lowest_run.Goals as goal

pub loop-k-init : goal.loop-k-init
loop-k-init c = low-starts

pub loop-k-preserved : goal.loop-k-preserved
loop-k-preserved c = low-on c.loop-k.invariant c.loop-k-test.true (c.lower-low.ensures ∙ ap (λ (s : SourceId). joined_low (lowest_of c.loop-k.low) (lowest_run (s ∷ []))) (c.id.ensures ∙ ap id_of c.at.ensures))

pub returns : goal.returns
returns c = low-ends c.loop-k.invariant c.loop-k-test.false

-- `plan_start::used::add_sources` meets its contract.
-- The loop's invariant, `SourcesAdded`: the keys of the first k entries are added. Assumes nothing.
use borrow.Author.Rules.{rules}
use native.Mathlib.Omega.{arith}
use Rattle.rules.specs.Lent.{source_at}
use Rattle.plan_start.proofs.JobKeys.{sources-start, sources_next, sources-end, length-keys}
use Rattle.plan_start.proofs.used.add_sources.Goals as goal

pub loop-k-init : goal.loop-k-init
loop-k-init c = (search rules, sources-start)

pub add-requires : goal.add-requires
add-requires c = omega (arith, c.loop-k.invariant.1.so_far.kept, c.loop-k.invariant.1.so_far.counted, length-keys c.args.prefix (source_at c.args.sources.now.marks.now c.args.sources.now.runs.now c.args.sources.now.views.now) c.args.at c.loop-k.k)

pub loop-k-preserved : goal.loop-k-preserved
loop-k-preserved c = (search rules, sources_next c.loop-k.invariant.1 (rw (c.id.ensures, c.at.ensures) at c.add.ensures))

pub returns : goal.returns
returns c = sources-end c.loop-k.invariant.1 (omega arith)

-- `starts_with` meets its contract: the invariant is that the sources left stand from place p + k on exactly if all stand from place p on
-- (`Matches`).
use mathlib.Core.Path.{sym, ◌∙◌}
use mathlib.Core.Bool.{true, false}
use native.Mathlib.Omega.{arith}
use Rattle.size_tiered_compaction.proofs.Consecutive.{ne-same, match-starts, match-short, match-breaks, match-on, match-ends}
use Rattle.size_tiered_compaction.proofs.validate.LogicalOrder.starts_with.Goals as goal

pub loop-k-init : goal.loop-k-init
loop-k-init c = match-starts c.requires.1

pub returns-then-p-k : goal.returns-then-p-k
returns-then-p-k c = match-short c.loop-k.invariant c.loop-k-test.true c.if-p-k.true

pub returns-then-ne : goal.returns-then-ne
returns-then-ne c =
    match-breaks c.loop-k.invariant c.loop-k-test.true (omega arith) (sym (rw (c.at.ensures, c.id.ensures, c.at-source.ensures) at (ne-same c.at.result c.id.result true (sym c.if-ne.true ∙ c.ne.ensures))))

pub loop-k-preserved : goal.loop-k-preserved
loop-k-preserved c =
    match-on c.loop-k.invariant c.loop-k-test.true (omega arith) (sym (rw (c.at.ensures, c.id.ensures, c.at-source.ensures) at (ne-same c.at.result c.id.result false (sym c.if-ne.false ∙ c.ne.ensures))))

pub returns : goal.returns
returns c = match-ends c.loop-k.invariant c.loop-k-test.false

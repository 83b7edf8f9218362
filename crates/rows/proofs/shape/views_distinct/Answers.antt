-- `views_distinct` meets its contract: the invariant is that the rows left are distinct exactly if all are (`Left`).
use mathlib.Core.Path.{sym, ◌∙◌}
use Rattle.rules.specs.Lists.{distinct}
use Rattle.rows.proofs.Scans.{scan-starts, scan-next, scan-stops, scan-ends}
use Rattle.rows.proofs.shape.views_distinct.Goals as goal

pub loop-i-init : goal.loop-i-init
loop-i-init c = scan-starts

pub returns-then-view_from : goal.returns-then-view_from
unfolding distinct
returns-then-view_from c = scan-stops c.loop-i.invariant c.loop-i-test.true (rw (← c.ulid.ensures, sym c.view_from.ensures ∙ c.if-view_from.true))

pub loop-i-preserved : goal.loop-i-preserved
unfolding distinct
loop-i-preserved c = scan-next c.loop-i.invariant c.loop-i-test.true (rw (← c.ulid.ensures, sym c.view_from.ensures ∙ c.if-view_from.false))

pub returns : goal.returns
unfolding distinct
returns c = scan-ends c.loop-i.invariant c.loop-i-test.false

-- `is_source` meets its contract: the invariant is that one of the entries left names it exactly if one of all does (`Left`).
use mathlib.Core.Path.{◌∙◌}
use Rattle.rules.specs.Lists.{any}
use Rattle.rows.proofs.Scans.{scan-next, scan-stops, scan-ends}
use Rattle.finishing.proofs.Finding.{scan-within, entry-same}
use Rattle.finishing.proofs.flagging.is_source.Goals as goal

pub loop-i-init : goal.loop-i-init
loop-i-init c = scan-within _ _

pub returns : goal.returns
unfolding any
returns c = scan-ends c.loop-i.invariant c.loop-i-test.false

pub returns-then-eq : goal.returns-then-eq
unfolding any
returns-then-eq c = scan-stops c.loop-i.invariant c.loop-i-test.true (rw (entry-same c.args.id c.at.ensures c.id.ensures c.eq.ensures ∙ c.if-eq.true))

pub loop-i-preserved : goal.loop-i-preserved
unfolding any
loop-i-preserved c = scan-next c.loop-i.invariant c.loop-i-test.true (rw (entry-same c.args.id c.at.ensures c.id.ensures c.eq.ensures ∙ c.if-eq.false))

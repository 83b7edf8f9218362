-- `view_from` meets its contract: the invariant is that the test of the rows left is the test of all (`Left`).
use mathlib.Core.Path.{sym, ap, ◌∙◌}
use Rattle.rules.specs.Lists.{any}
use Rattle.rules.specs.Tables.{same_ulid}
use Rattle.rows.proofs.Scans.{scan-starts-at, scan-next, scan-stops, scan-ends}
use Rattle.rows.proofs.shape.view_from.Goals as goal

pub loop-i-init : goal.loop-i-init
loop-i-init c = scan-starts-at

pub returns-then-eq : goal.returns-then-eq
unfolding any
returns-then-eq c = scan-stops c.loop-i.invariant c.loop-i-test.true (rw (ap (same_ulid c.args.view) (sym c.ulid.ensures) ∙ sym c.eq.ensures ∙ c.if-eq.true))

pub loop-i-preserved : goal.loop-i-preserved
unfolding any
loop-i-preserved c = scan-next c.loop-i.invariant c.loop-i-test.true (rw (ap (same_ulid c.args.view) (sym c.ulid.ensures) ∙ sym c.eq.ensures ∙ c.if-eq.false))

pub returns : goal.returns
unfolding any
returns c = scan-ends c.loop-i.invariant c.loop-i-test.false

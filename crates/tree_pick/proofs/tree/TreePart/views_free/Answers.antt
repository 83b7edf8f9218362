-- `tree_pick::tree::TreePart::views_free` meets its contract.
-- The loop's invariant: whether the views that are left are free is whether all are (`Left`). Assumes nothing.
use mathlib.Core.Path.{sym, ◌∙◌}
use Rattle.rules.specs.Lists.{all}
use Rattle.rows.proofs.Scans.{scan-starts-at, scan-next, scan-stops, scan-ends}
use Rattle.tree_pick.proofs.tree.TreePart.views_free.Goals as goal

pub loop-i-init : goal.loop-i-init
loop-i-init c = scan-starts-at

pub returns-then-is_used : goal.returns-then-is_used
unfolding all
returns-then-is_used c = scan-stops c.loop-i.invariant c.loop-i-test.true (rw (rw c.ulid-view.ensures at (sym c.is_used.ensures ∙ c.if-is_used.true)))

pub loop-i-preserved : goal.loop-i-preserved
unfolding all
loop-i-preserved c = scan-next c.loop-i.invariant c.loop-i-test.true (rw (rw c.ulid-view.ensures at (sym c.is_used.ensures ∙ c.if-is_used.false)))

pub returns : goal.returns
unfolding all
returns c = scan-ends c.loop-i.invariant c.loop-i-test.false

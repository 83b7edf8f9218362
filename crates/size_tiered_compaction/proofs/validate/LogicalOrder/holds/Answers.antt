-- `holds` meets its contract: the invariant is that the sources stand in the rest of the list exactly if they stand in the whole (`Left`).
use mathlib.Core.Path.{sym, ◌∙◌}
use native.Mathlib.Omega.{arith}
use Rattle.size_tiered_compaction.proofs.Consecutive.{place_found, place-on, places-end}
use Rattle.size_tiered_compaction.proofs.validate.LogicalOrder.holds.Goals as goal

pub returns-then-starts_with : goal.returns-then-starts_with
returns-then-starts_with c = place_found _ c.loop-p.invariant c.loop-p-test.true (sym c.if-starts_with.true ∙ c.starts_with.ensures)

pub loop-p-preserved : goal.loop-p-preserved
loop-p-preserved c = place-on _ c.loop-p.invariant c.loop-p-test.true (sym c.if-starts_with.false ∙ c.starts_with.ensures)

pub returns : goal.returns
returns c = c.starts_with-2.ensures ∙ places-end _ c.loop-p.invariant (omega (arith, c.loop-p.auto.p-end, c.loop-p-test.false))

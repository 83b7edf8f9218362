-- `tree_pick::tree::TreePart::takes_rows` meets its contract.
-- Each way out settles one part of `takes_rows`, in its order. Assumes nothing.
use mathlib.Core.Path.{sym, ◌∙◌}
use native.Mathlib.Omega.{arith}
use Rattle.tree_pick.proofs.SizesLeft.{sizes-left, sizes-fit}
use Rattle.tree_pick.proofs.OldestRows.{rows_few, rows-used, fresh-used, rows-decided}
use Rattle.tree_pick.proofs.tree.TreePart.takes_rows.Goals as goal

pub returns-then-count-o : goal.returns-then-count-o
returns-then-count-o c = λ t i. rows_few i _ _ _ _ (omega arith)

pub returns-then-not-views_free : goal.returns-then-not-views_free
returns-then-not-views_free c = λ t i. rows-used i _ _ _ _ c.oldest_from-from.ensures (sym c.if-not-views_free.true ∙ c.views_free.ensures)

pub returns-then-is_used : goal.returns-then-is_used
returns-then-is_used c = λ t i. fresh-used i _ _ _ _ (sym c.if-is_used.true ∙ c.is_used.ensures)

pub size_of-requires : goal.size_of-requires
size_of-requires c = sizes-fit c.args.self.now.l0_sizes.now c.oldest_from-from.result c.requires.0.summed

pub returns : goal.returns
returns c = λ t i. rows-decided i _ _ _ _ c.oldest_from-from.ensures (omega arith) (sym c.if-not-views_free.false ∙ c.views_free.ensures) (sym c.if-is_used.false ∙ c.is_used.ensures) (rw (c.size_of.ensures, sizes-left c.args.self.now.l0_sizes.now c.oldest_from-from.result) at c.held_back.ensures)

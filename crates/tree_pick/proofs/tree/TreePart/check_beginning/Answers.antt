-- `tree_pick::tree::TreePart::check_beginning` meets its contract.
-- The run is a source and the destination, so that one look-up decides for both. Assumes nothing.
use mathlib.Core.Path.{sym, ◌∙◌}
use Rattle.rules.specs.Lists.{all}
use Rattle.rules.specs.Windows.{passes}
use Rattle.tree_pick.proofs.tree.TreePart.check_beginning.Goals as goal

pub returns-then-is_used : goal.returns-then-is_used
unfolding passes all
returns-then-is_used c = rw (sym c.is_used.ensures ∙ c.if-is_used.true)

pub returns : goal.returns
unfolding passes all
returns c = rw (sym c.is_used.ensures ∙ c.if-is_used.false, c.held_back.ensures)

-- `tree_pick::conflict::is_used` meets its contract.
-- The look-up is `holds` (`scanned`). Assumes nothing.
use mathlib.Core.Path.{◌∙◌}
use Rattle.tree_pick.proofs.UsedIds.{scanned}
use Rattle.tree_pick.proofs.conflict.is_used.Goals as goal

pub returns : goal.returns
returns c = c.is_among.ensures ∙ scanned _ _ _

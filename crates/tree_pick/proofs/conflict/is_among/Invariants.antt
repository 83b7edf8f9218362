use mathlib.Core.Path.{◌≡◌}
use mathlib.Core.Bool.{false}
use lib.ListN.{take}
use Rattle.std.specs.List.{list_any}
use Rattle.tree_pick.proofs.conflict.is_among.Given as goal

abbrev pub invariant-loop-i : goal.invariant-loop-i
invariant-loop-i g l = list_any (λ row. g.T.PartialEq.eq row l.wanted) (take l.i l.rows) ≡ false

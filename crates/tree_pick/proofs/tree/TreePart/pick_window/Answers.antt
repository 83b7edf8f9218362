-- `tree_pick::tree::TreePart::pick_window` meets its contract.
-- The part is cut where `find_window` says that the window lies. Assumes nothing.
use mathlib.Core.Path.{◌≡◌, sym}
use Prim.Native.Nat.{◌+◌, ◌-◌}
use native.Mathlib.Omega.{arith}
use lib.Seq.{drop-nil}
use Rattle.tree_pick.proofs.tree.TreePart.pick_window.Goals as goal

pub returns-in-Some : goal.returns-in-Some
returns-in-Some c =
    let w = c.in-Some.w in
    let found = c.in-Some.ensures in
    let counted : w.from + w.count - w.from ≡ w.count = omega arith in
    rw counted found.1.is

pub returns-in-None : goal.returns-in-None
returns-in-None c =
    let none = c.in-None.ensures in
    sym (rw none (drop-nil _))

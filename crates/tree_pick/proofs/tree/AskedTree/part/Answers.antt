-- `tree_pick::tree::AskedTree::part` meets its contract: each part is as long as it was counted. Assumes nothing.
use Prim.Native.Nat.{◌+◌, ◌-◌, ◌*◌}
use mathlib.Core.Path.{◌≡◌, refl}
use native.Mathlib.Omega.{arith}
use Rattle.tree_pick.proofs.tree.AskedTree.part.Goals as goal

pub returns : goal.returns
returns c =
    let a = c.args.self in
    let fours : 4 * (a.l0_from + a.l0_count) - 4 * a.l0_from ≡ 4 * a.l0_count = omega arith in
    let rows : a.l0_from + a.l0_count - a.l0_from ≡ a.l0_count = omega arith in
    let runs : a.run_from + a.run_count - a.run_from ≡ a.run_count = omega arith in
    record { prefix = refl; l0_ids = rw fours; l0_sizes = rw rows; run_ids = rw runs; run_sizes = rw runs; lengths = rw runs }

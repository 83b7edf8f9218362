-- `part` meets its contract: the counts of the trees before it say where its rows start (`part-within`).
use mathlib.Core.Path.{refl}
use Prim.Native.Nat.{◌+◌, ◌*◌}
use native.Mathlib.Omega.{arith}
use lib.ListN.{get_or}
use Rattle.rows.proofs.Sums.{part-within}
use Rattle.rows.proofs.trees.Trees.part.Goals as goal

pub returns : goal.returns
returns c =
    let b = part-within (λ k. get_or c.args.self.now.rows.now (3 * k + 1) 0) c.args.i c.args.self.now.count c.requires.2 in
    let d = part-within (λ k. get_or c.args.self.now.rows.now (3 * k + 2) 0) c.args.i c.args.self.now.count c.requires.2 in
    record {
      first_row = c.column_sum.ensures;
      rows = refl;
      first_run = c.column_sum-2.ensures;
      runs = refl;
      rows_within = omega (arith, c.column_sum.ensures);
      runs_within = omega (arith, c.column_sum-2.ensures);
    }

-- `part` meets its contract: the counts of the jobs before it say where its entries start (`part-within`).
use mathlib.Core.Path.{refl}
use Prim.Native.Nat.{◌+◌, ◌*◌}
use native.Mathlib.Omega.{arith}
use lib.ListN.{get_or}
use Rattle.rows.proofs.Sums.{part-within}
use Rattle.rows.proofs.jobs.Jobs.part.Goals as goal

pub returns : goal.returns
returns c =
    let b = part-within (λ k. get_or c.args.self.now.specs.now (3 * k + 2) 0) c.args.i c.args.self.now.count c.requires.2 in
    record { first = c.column_sum.ensures; count = refl; within = omega (arith, c.column_sum.ensures) }

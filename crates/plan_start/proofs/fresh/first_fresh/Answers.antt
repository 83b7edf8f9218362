-- `plan_start::fresh::first_fresh` meets its contract.
-- One above the largest of two lists is the larger of the two (`fresh-is`), stopped at the last run. Assumes nothing.
use mathlib.Core.Path.{sym, ap}
use lib.ListN.{length}
use native.Mathlib.Omega.{arith}
use Rattle.rules.specs.Lent.{jobs_of}
use Rattle.plan_start.proofs.FirstFresh.{fresh-is}
use Rattle.plan_start.proofs.fresh.first_fresh.Goals as goal

pub returns : goal.returns
returns c = λ t j used same n m s.
    omega (arith, fresh-is t (jobs_of j) (omega (arith, used, ap length same)), c.min.ensures, c.max-fresh.ensures, rw (sym used, sym same) at c.above_runs-committed.ensures, c.above_destinations.ensures j n m s)

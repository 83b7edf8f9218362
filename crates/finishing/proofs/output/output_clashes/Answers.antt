-- `output_clashes` meets its contract: the one run that can have the number decides.
use native.Mathlib.Omega.{arith}
use Rattle.finishing.proofs.Placed.{clash-none, clash-by}
use Rattle.finishing.proofs.output.output_clashes.Goals as goal

pub returns-in-Some : goal.returns-in-Some
returns-in-Some c = clash-by c.args.run_ids.now c.args.used c.args.kept.now c.args.output _ c.in-Some.ensures.found (omega (arith, c.in-Some.ensures.within))

pub returns-in-None : goal.returns-in-None
returns-in-None c = clash-none c.args.run_ids.now c.args.used c.args.kept.now c.args.output _ c.in-None.ensures.found (omega arith)

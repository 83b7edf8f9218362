-- `check_plan` meets its contract: each return is one case of `plan_refusal`, and tables that are not refused 1 or 2 are what
-- `check_planning` requires.
use mathlib.Core.Path.{sym}
use native.Mathlib.Omega.{arith}
use Rattle.std.proofs.lemmas.Result.{err_from_is_err_and}
use Rattle.rules.proofs.Refused.{numbered}
use Rattle.rows.proofs.TwoTables.{tables-good}
use Rattle.size_tiered_compaction.proofs.PlanRefused.{tables-refused, planning-left}
use Rattle.size_tiered_compaction.proofs.plan.check_plan.Goals as goal

pub returns-in_err-check_tables : goal.returns-in_err-check_tables
returns-in_err-check_tables c =
    let p = err_from_is_err_and c.from_residual.result c.from_residual.ensures.1 in
    rw (p.1, p.2) (tables-refused _ _ _ _ (omega arith) _ c.in_err-check_tables.ensures (numbered _))

pub check_planning-requires : goal.check_planning-requires
check_planning-requires c =
    let g = tables-good _ _ (sym c.in_ok-check_tables.ensures) in
    record { tables = (g.0.within.trees, g.0.lent.trees, g.0.lent.l0_sizes, g.0.lent.run_sizes, g.1.within.jobs, g.1.lent.job_marks); row_counts = (g.0.within.l0, g.0.within.runs) }

pub returns : goal.returns
returns c = planning-left _ _ _ _ (omega arith) _ (sym c.in_ok-check_tables.ensures) c.check_planning.ensures

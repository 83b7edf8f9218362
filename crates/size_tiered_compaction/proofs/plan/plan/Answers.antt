-- `plan` meets its contract: a refusal answers its number; else the lent plan has places for the picks, and holds them (PlanMade.antt).
use borrow.Author.Rules.{rules}
use mathlib.Core.Path.{sym}
use native.Mathlib.Omega.{arith}
use Rattle.std.proofs.lemmas.Result.{err_from_is_err_and}
use Rattle.rules.proofs.Refused.{numbered}
use Rattle.rows.specs.InSlices.{trees_in}
use Rattle.size_tiered_compaction.proofs.PlanRefused.{ready}
use Rattle.size_tiered_compaction.proofs.PlanMade.{plan-refused, specs-fit, sources-fit, plan-laid}
use Rattle.size_tiered_compaction.proofs.plan.plan.Goals as goal

pub returns-in_err-check_plan-clause-made : goal.returns-in_err-check_plan-clause-made
returns-in_err-check_plan-clause-made c =
    let p = err_from_is_err_and c.from_residual.result c.from_residual.ensures.1 in
    rw (p.1, p.2) (plan-refused _ _ _ _ _ c.in_err-check_plan.ensures (numbered _))

pub propose-passes-requires : goal.propose-passes-requires
propose-passes-requires c = (search rules, ready _ _ _ _ (sym c.in_ok-check_plan.ensures))

pub lay_specs-requires : goal.lay_specs-requires
lay_specs-requires c =
    let made = c.propose-passes.ensures.proposed in
    rw c.in_use.ensures (specs-fit _ _ _ _ (sym c.in_ok-check_plan.ensures) made)

pub lay_sources-requires : goal.lay_sources-requires
lay_sources-requires c =
    let made = c.propose-passes.ensures.proposed in
    let g = ready _ _ _ _ (sym c.in_ok-check_plan.ensures) in
    rw c.in_use-2.ensures (made.within, record { views = omega (arith, g.l0_ids); ids = omega (arith, g.run_ids) }, sources-fit _ _ _ _ (sym c.in_ok-check_plan.ensures) made (rw c.in_use.ensures at (c.lay_specs.ensures.laid (trees_in c.args.trees.now))))

pub returns-clause-made : goal.returns-clause-made
returns-clause-made c = plan-laid _ _ _ _ (sym c.in_ok-check_plan.ensures) c.propose-passes.ensures.proposed (rw c.in_use.ensures at (c.lay_specs.ensures.laid (trees_in c.args.trees.now))) (rw c.in_use-2.ensures at c.lay_sources.ensures.laid)

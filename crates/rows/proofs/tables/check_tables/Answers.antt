-- `check_tables` meets its contract: each return is one case of `tables_refusal` (TwoTables.antt).
use mathlib.Core.Path.{refl, sym, ◌∙◌}
use Rattle.std.proofs.lemmas.Result.{err_from_is_err_and}
use Rattle.rules.proofs.Refused.{numbered}
use Rattle.rows.proofs.TwoTables.{trees-out, jobs-out, trees-bad, jobs-left}
use Rattle.rows.proofs.tables.check_tables.Goals as goal

pub returns-then-trees_outside : goal.returns-then-trees_outside
returns-then-trees_outside c =
    trees-out _ _ (sym (c.trees_outside.ensures _ refl refl) ∙ c.if-trees_outside.true)

pub returns-then-jobs_outside : goal.returns-then-jobs_outside
returns-then-jobs_outside c =
    jobs-out _ _ (sym (c.trees_outside.ensures _ refl refl) ∙ c.if-trees_outside.false) (sym (c.jobs_outside.ensures _ refl refl) ∙ c.if-jobs_outside.true)

pub returns-in_err-check : goal.returns-in_err-check
returns-in_err-check c =
    let p = err_from_is_err_and c.from_residual.result c.from_residual.ensures.1 in
    rw (p.1, p.2) (trees-bad _ _ (sym (c.trees_outside.ensures _ refl refl) ∙ c.if-trees_outside.false) (sym (c.jobs_outside.ensures _ refl refl) ∙ c.if-jobs_outside.false) _ c.in_err-check.ensures (numbered _))

pub returns : goal.returns
returns c =
    jobs-left _ _ (sym (c.trees_outside.ensures _ refl refl) ∙ c.if-trees_outside.false) (sym (c.jobs_outside.ensures _ refl refl) ∙ c.if-jobs_outside.false) _ (sym c.in_ok-check.ensures) c.check-2.ensures

-- `validate` meets its contract: each return is one case of `validate_call` (Validated.antt).
use mathlib.Core.Path.{sym, ap, ◌∙◌}
use mathlib.Core.Bool.{not}
use Rattle.std.proofs.lemmas.Result.{err_from_is_err_and}
use Rattle.rules.specs.Lent.{l0_used, runs_used}
use Rattle.rules.proofs.Bounds.{trees-good}
use Rattle.rules.proofs.Refused.{numbered}
use Rattle.size_tiered_compaction.specs.LogicalOrder.{spec_in}
use Rattle.size_tiered_compaction.proofs.Validated.{trees-refused, spec-refused, drain-accepted, tiered-answer, bad_kind, own-sources, agree, by-number}
use Rattle.size_tiered_compaction.proofs.validate.validate.Goals as goal

pub returns-in_err-check : goal.returns-in_err-check
returns-in_err-check c =
    let p = err_from_is_err_and c.from_residual.result c.from_residual.ensures.1 in
    rw (p.1, p.2) (trees-refused _ _ _ c.in_err-check.ensures (numbered _))

pub returns-then-spec : goal.returns-then-spec
returns-then-spec c =
    spec-refused _ _ (trees-good _ (sym c.in_ok-check.ensures)) (bad_kind _ c.if-spec.true)

pub returns-then-not-are_good : goal.returns-then-not-are_good
returns-then-not-are_good c =
    spec-refused _ _ (trees-good _ (sym c.in_ok-check.ensures)) (own-sources (spec_in c.args.spec.now) _ c.if-spec.false c.are_good.ensures ∙ ap not c.if-not-are_good.true)

pub returns-then-spec-2 : goal.returns-then-spec-2
returns-then-spec-2 c =
    drain-accepted _ _ (trees-good _ (sym c.in_ok-check.ensures)) (own-sources (spec_in c.args.spec.now) _ c.if-spec.false c.are_good.ensures ∙ ap not c.if-not-are_good.false) c.if-spec-2.true

pub check_tiered-requires : goal.check_tiered-requires
unfolding l0_used runs_used
check_tiered-requires c =
    let g = trees-good _ (sym c.in_ok-check.ensures) in
    let w = g.within in
    let f = g.lent in
    record { tables = (w.trees, f.trees, f.l0_ids, f.run_ids, agree _ (sym c.if-not-are_good.false ∙ c.are_good.ensures)); row_counts = (w.l0, w.runs) }

pub returns : goal.returns
returns c =
    by-number _
    ∙ tiered-answer _ _ (trees-good _ (sym c.in_ok-check.ensures)) (own-sources (spec_in c.args.spec.now) _ c.if-spec.false c.are_good.ensures ∙ ap not c.if-not-are_good.false) c.if-spec-2.false _ c.check_tiered.ensures

-- `check_sources` meets its contract: each return settles one part of `tiered_refusal`, in its order.
use mathlib.Core.Path.{sym, ◌∙◌}
use Rattle.rules.specs.Lent.{rows_from}
use Rattle.rules.specs.Validation.{tiered_refusal}
use Rattle.size_tiered_compaction.proofs.OneList.{names, not-empty}
use Rattle.size_tiered_compaction.proofs.validate.check_sources.Goals as goal

pub returns-then-spec-eq0 : goal.returns-then-spec-eq0
unfolding tiered_refusal rows_from
returns-then-spec-eq0 c = λ t e. rw (names c.args.spec.now.sources, c.if-spec-eq0.true)

pub returns-then-not-holds : goal.returns-then-not-holds
unfolding tiered_refusal
returns-then-not-holds c = λ t e. rw (names c.args.spec.now.sources, not-empty _ _ c.if-spec-eq0.false, e, sym c.holds.ensures ∙ c.if-not-holds.true)

pub returns-then-destination_wrong : goal.returns-then-destination_wrong
unfolding tiered_refusal
returns-then-destination_wrong c = λ t e. rw (names c.args.spec.now.sources, not-empty _ _ c.if-spec-eq0.false, e, sym c.holds.ensures ∙ c.if-not-holds.false, sym c.destination_wrong.ensures ∙ c.if-destination_wrong.true)

pub returns : goal.returns
unfolding tiered_refusal
returns c = λ t e. rw (names c.args.spec.now.sources, not-empty _ _ c.if-spec-eq0.false, e, sym c.holds.ensures ∙ c.if-not-holds.false, sym c.destination_wrong.ensures ∙ c.if-destination_wrong.false)

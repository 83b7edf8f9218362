-- `check_planning` meets its contract: each return is one case of `planning_refusal` (PlanRefused.antt).
use mathlib.Core.Path.{sym, ap₂, ◌∙◌, refl}
use Prim.Native.Nat.{◌+◌}
use native.Mathlib.Omega.{arith}
use Rattle.rows.specs.InSlices.{jobs_in}
use Rattle.size_tiered_compaction.proofs.PlanRefused.{options-refused, sizes-refused, places-refused, not-refused, places-read}
use Rattle.size_tiered_compaction.proofs.plan.check_planning.Goals as goal

pub returns-then-bad_options : goal.returns-then-bad_options
returns-then-bad_options c = options-refused _ _ _ _ (sym c.bad_options.ensures ∙ c.if-bad_options.true)

pub returns-then-sizes_over : goal.returns-then-sizes_over
returns-then-sizes_over c = sizes-refused _ _ _ _ (sym c.bad_options.ensures ∙ c.if-bad_options.false) (sym c.sizes_over.ensures ∙ c.if-sizes_over.true)

pub overflow_add-l0_used : goal.overflow_add-l0_used
overflow_add-l0_used c = record { fits = omega (arith, c.requires, c.l0_used.ensures, c.runs_used.ensures) }

pub returns-then-too_small : goal.returns-then-too_small
returns-then-too_small c = places-refused _ _ _ _ (sym c.bad_options.ensures ∙ c.if-bad_options.false) (sym c.sizes_over.ensures ∙ c.if-sizes_over.false) (places-read _ _ (jobs_in c.args.jobs.now) _ (c.free_slots-free.ensures _ refl refl) (ap₂ ◌+◌ c.l0_used.ensures c.runs_used.ensures) _ c.too_small.ensures ∙ c.if-too_small.true)

pub returns : goal.returns
returns c = not-refused _ _ _ _ (sym c.bad_options.ensures ∙ c.if-bad_options.false) (sym c.sizes_over.ensures ∙ c.if-sizes_over.false) (places-read _ _ (jobs_in c.args.jobs.now) _ (c.free_slots-free.ensures _ refl refl) (ap₂ ◌+◌ c.l0_used.ensures c.runs_used.ensures) _ c.too_small.ensures ∙ c.if-too_small.false)

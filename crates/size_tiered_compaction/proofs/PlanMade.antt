-- The answer of a planning call: a refusal's number, or the picks laid into the lent plan.
use Prim.Native.Nat.{ℕ, zero, suc, ◌*◌, ◌≤◌}
use mathlib.Core.Path.{◌≡◌, refl, sym, ap, ap₂, ◌∙◌}
use mathlib.Core.List.{List, map}
use native.Mathlib.Omega.{arith}
use lib.ListN.{length, length-map}
use lib.Seq.{length-take-le}
use Rattle.rules.specs.declared.Options.{Options}
use Rattle.rules.specs.Answers.PlanAnswer.{Planned, Refused}
use Rattle.rules.specs.Lists.{concat_map}
use Rattle.rules.specs.Lent.{LentTrees, LentJobs, laid, trees_of, jobs_of}
use Rattle.rules.specs.Limit.{limit_of}
use Rattle.rules.specs.Pick.{Spec}
use Rattle.rules.specs.Plan.{Plan, planned}
use Rattle.rules.specs.Planning.{LentPlan, plan_refusal, spec_words, spec_sources, mark_of, run_of, view_words, lay_plan}
use Rattle.rules.specs.Calls.{plan_by, plan_call}
use Rattle.laws.proofs.PlanCall.{has-places}
use Rattle.plan_passes.specs.declared.picks.Picks.{Picks}
use Rattle.plan_passes.specs.Picks.{spec_of, specs_of, picks_in}
use Rattle.plan_passes.specs.Lay.{Room, SpecsLaid, SourcesLaid}
use Rattle.size_tiered_compaction.specs.Proposing.{plan_result, Proposes}

-- "Each returns its number alone; every lent table and output keeps its bytes."
by_number : (v : ℕ) (made : Plan) (p : LentPlan) → (v ≡ 0 → ⊥) → plan_result (Refused v) p ≡ plan_by v made p
by_number zero made p n = absurd (n refl)
by_number (suc v) made p n = refl

module _ (o : Options) (t : LentTrees) (j : LentJobs) (p : LentPlan) where
  pub plan-refused : (v : ℕ) → v ≡ plan_refusal o t j p → (v ≡ 0 → ⊥) → plan_result (Refused v) p ≡ plan_call o t j p
  unfolding plan_call
  plan-refused v e n = by_number v (planned (limit_of o.threshold) o (trees_of t) (jobs_of j)) p n ∙ ap (λ (m : ℕ). plan_by m (planned (limit_of o.threshold) o (trees_of t) (jobs_of j)) p) e

  module _ (z : plan_refusal o t j p ≡ 0) {passes : ℕ} {picks : Picks} (m : Proposes o t j passes picks) where
    abbrev specs : List Spec
    specs = (planned (limit_of o.threshold) o (trees_of t) (jobs_of j)).specs

    abbrev rows : List Spec
    rows = specs_of t (picks_in picks)

    many : length (picks_in picks) ≡ picks.count
    many = length-take-le picks.count picks.rows.now m.room

    counted : picks.count ≡ length specs
    counted = sym many ∙ sym (length-map (picks_in picks) (spec_of t)) ∙ ap length m.plans.rows

    -- there are places for the specs
    pub specs-fit : 3 * length (picks_in picks) ≤ length p.specs
    specs-fit = omega (arith, many, counted, (has-places o t j p z).specs)

    -- and, once these are laid, for their sources
    pub sources-fit : {q : LentPlan} → SpecsLaid p rows q → Room (length (spec_sources rows)) q
    sources-fit a =
        let few : length (spec_sources rows) ≡ length (spec_sources specs) = ap (λ (ss : List Spec). length (spec_sources ss)) m.plans.rows in
        let places = (has-places o t j p z).sources in
        record { of_marks = omega (arith, few, places, ap length a.of_marks); of_runs = omega (arith, few, places, ap length a.of_runs); of_views = omega (arith, few, places, ap length a.of_views) }

    -- the plan and its numbers: the specs are laid, and then the sources
    pub plan-laid : {q q' : LentPlan} → SpecsLaid p rows q → SourcesLaid q (spec_sources rows) q' → plan_result (Planned picks.count passes) q' ≡ plan_call o t j p
    unfolding plan_call lay_plan
    plan-laid a b =
        rw z
        (λ i. record {
          answer = Planned (counted i) (m.plans.turns i);
          plan = record {
            specs = (b.of_specs ∙ a.of_specs ∙ ap (λ (ss : List Spec). laid 0 (concat_map spec_words ss) p.specs) m.plans.rows) i;
            marks = (b.of_marks ∙ ap₂ (λ (ss : List Spec) (s : List ℕ). laid 0 (map mark_of (spec_sources ss)) s) m.plans.rows a.of_marks) i;
            runs = (b.of_runs ∙ ap₂ (λ (ss : List Spec) (s : List ℕ). laid 0 (map run_of (spec_sources ss)) s) m.plans.rows a.of_runs) i;
            views = (b.of_views ∙ ap₂ (λ (ss : List Spec) (s : List ℕ). laid 0 (concat_map view_words (spec_sources ss)) s) m.plans.rows a.of_views) i;
          };
        })

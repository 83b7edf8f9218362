-- Demand 3 of the public call: an accepted call meets the first premises of demand 3, and answers with the plan.
use Prim.Native.Nat.{◌≤◌}
use mathlib.Core.Path.{◌≡◌, ap₂}
use mathlib.Core.List.{List}
use mathlib.Core.Bool.{true, false, ◌&&◌, ◌||◌}
use lib.Dec.{leb, ltb}
use borrow.Author.Tests.{leb-true, not-false}
use Rattle.rules.specs.declared.Options.{Options}
use Rattle.rules.specs.Answers.PlanAnswer.{Planned}
use Rattle.rules.specs.Tables.{Tree}
use Rattle.rules.specs.Lent.{LentTrees, LentJobs, trees_of, jobs_of}
use Rattle.rules.specs.Bounds.{max_concurrent, trees_outside, jobs_outside, good_trees, trees_misshapen, jobs_misshapen}
use Rattle.rules.specs.Limit.{limit_of}
use Rattle.rules.specs.Plan.{free_slots}
use Rattle.rules.specs.Planning.{LentPlan, bad_options, sizes_over, plan_too_small, plan_refusal}
use Rattle.rules.specs.Calls.{plan_call}
use Rattle.rules.proofs.Bounds.{trees-rules, by-rules}
use Rattle.rules.proofs.Packed.{length-trees_of}
use Rattle.rules.proofs.Refusals.{passed}
use Rattle.rules.proofs.Lookups.{and_left, and_right, or_left}
use Rattle.laws.specs.Demand3.{Given, Demand3}
use Rattle.laws.specs.PlanCall.{Accepted, Demand3Call, Proposed}
use Rattle.laws.specs.NamesOnce.{RowsOnce}
use Rattle.laws.specs.PlanFits.{PlanHasPlaces}
use Rattle.laws.proofs.Demand3.{demand3}
use Rattle.laws.proofs.Disjoint.{disjoint}
use Rattle.laws.proofs.Shapes.{shapes}
use Rattle.laws.proofs.NamesOnce.{names-once}
use Rattle.laws.proofs.PlanFits.{plan-has-places}

-- "a prefix twice" is refused, and "a run id or L0 view id twice anywhere"
rows-once : (ts : List Tree) → good_trees ts ≡ true → RowsOnce ts
rows-once ts h = let rules = by-rules ts h in record { prefixes = rules.prefixes; runs = rules.runs; views = rules.views }

-- not 1 ≤ min ≤ max is refused
good-bounds : (o : Options) → bad_options o ≡ false → (1 ≤ o.min) × (o.min ≤ o.max)
good-bounds o h =
    let bounds = and_left (leb 1 o.min && leb o.min o.max) (leb o.max 64) (not-false _ h) in (
      leb-true 1 o.min (and_left (leb 1 o.min) (leb o.min o.max) bounds),
      leb-true o.min o.max (and_right (leb 1 o.min) (leb o.min o.max) bounds),
    )

module _ (o : Options) (t : LentTrees) (j : LentJobs) (p : LentPlan) where
  -- what a call that is not refused is known to be lent
  pub record Good : Type 0 where
    pub inside : trees_outside t ≡ false
    pub shapely : trees_misshapen t ≡ false
    pub trees : good_trees (trees_of t) ≡ true
    pub once : RowsOnce (trees_of t)
    pub least : 1 ≤ o.min
    pub most : o.min ≤ o.max
    pub places : plan_too_small (free_slots o (jobs_of j)) t p ≡ false

  -- an accepted call has trees of a good shape, good options, and a plan with places enough
  pub accepted-good : plan_refusal o t j p ≡ 0 → Good
  unfolding plan_refusal
  accepted-good h =
      let h₁ = passed 0 (trees_outside t || jobs_outside j || ltb max_concurrent o.concurrent) _ h in
      let h₂ = passed 1 (trees_misshapen t || jobs_misshapen j) _ h₁.1 in
      let h₃ = passed 2 (bad_options o) _ h₂.1 in
      let h₄ = passed 3 (sizes_over (trees_of t)) _ h₃.1 in
      let shapely = or_left (trees_misshapen t) (jobs_misshapen j) h₂.0 in
      let bounds = good-bounds o h₃.0 in
      record {
        inside = or_left (trees_outside t) (jobs_outside j) (or_left (trees_outside t || jobs_outside j) (ltb max_concurrent o.concurrent) h₁.0);
        shapely = shapely;
        trees = trees-rules t shapely;
        once = rows-once (trees_of t) (trees-rules t shapely);
        least = bounds.0;
        most = bounds.1;
        places = (passed 4 (plan_too_small (free_slots o (jobs_of j)) t p) 0 h₄.1).0;
      }

  -- so there is a place for each spec and each source
  pub has-places : plan_refusal o t j p ≡ 0 → PlanHasPlaces (limit_of o.threshold) o t j p
  has-places h = plan-has-places (limit_of o.threshold) o t j p (accepted-good h).places

  -- what an accepted call proposes
  pub proposed : plan_refusal o t j p ≡ 0 → Proposed o t j
  proposed h =
      let lim = limit_of o.threshold in
      let good = accepted-good h in
      let names = names-once lim o good.least good.most (trees_of t) (jobs_of j) in
      record {
        shapes = shapes lim o good.least good.most (trees_of t) (jobs_of j);
        disjoint = disjoint lim o (trees_of t) (jobs_of j);
        sources = names.plan good.once;
        destinations = λ room. names.destinations good.once (rw (length-trees_of t) room);
        fresh = λ room. names.fresh good.once (rw (length-trees_of t) room);
      }

  module _ (a : Accepted o t j p) where
    -- demand 3's premises
    premises : Given o (trees_of t) (jobs_of j)
    premises =
        let good = accepted-good a.accepted in
        record { least = good.least; most = good.most; prefixes = good.once.prefixes; room = rw (length-trees_of t) a.room; below = a.below }

    -- so demand 3 holds of its plan
    demanded : Demand3 (limit_of o.threshold) o (trees_of t) (jobs_of j)
    demanded = demand3 (limit_of o.threshold) o (trees_of t) (jobs_of j) premises

    -- and of its answer
    pub demand3-call : Demand3Call o t j p
    unfolding plan_call
    demand3-call = record {
      answer = rw a.accepted (ap₂ Planned demanded.proposes demanded.passes);
      plan = rw a.accepted;
      entries = demanded.entries;
      share = rw (length-trees_of t) at demanded.share;
    }

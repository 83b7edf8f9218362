-- The refusals of a planning call, check by check, and what a call that passes them all is known to be.
use Prim.Native.Nat.{ℕ, ◌+◌, ◌≤◌, ◌<◌}
use mathlib.Core.Path.{◌≡◌, refl, sym, ◌∙◌}
use mathlib.Core.Bool.{Bool, true, false, ◌&&◌, ◌||◌}
use native.Mathlib.Omega.{arith}
use lib.Dec.{leb, ltb}
use borrow.Author.Tests.{lt-ltb, le-ltb, ltb-false, leb-true, not-false}
use Rattle.rules.specs.declared.Options.{Options}
use Rattle.rules.specs.Lists.{◌given◌else◌}
use Rattle.rules.specs.Lent.{LentTrees, LentJobs, trees_of, jobs_of, l0_used, runs_used, sources_used}
use Rattle.rules.specs.Bounds.{max_concurrent, trees_outside, jobs_outside, trees_misshapen, jobs_misshapen}
use Rattle.rules.specs.Plan.{free_slots}
use Rattle.rules.specs.Planning.{LentPlan, bad_options, sizes_over, spec_places, source_places, plan_too_small, plan_refusal}
use Rattle.rules.proofs.Bounds.{TreesGood, JobsGood}
use Rattle.rules.proofs.Lookups.{and_left, and_right, or_left, or_right}
use Rattle.rules.proofs.Refusals.{passed}
use Rattle.rows.specs.Refusals.{tables_refusal}
use Rattle.rows.proofs.TwoTables.{tables-good, tables-first}
use Rattle.tree_pick.specs.Pick.{Bounded}
use Rattle.plan_start.proofs.SizeSums.{flat-sizes}
use Rattle.size_tiered_compaction.specs.Proposing.{planning_refusal, Ready}

-- ---- 3, 4 and 5

module _ (o : Options) (t : LentTrees) (j : LentJobs) (p : LentPlan) where
  pub options-refused : bad_options o ≡ true → 3 ≡ planning_refusal o t j p
  unfolding planning_refusal
  options-refused a = rw a

  module _ (a : bad_options o ≡ false) where
    pub sizes-refused : sizes_over (trees_of t) ≡ true → 4 ≡ planning_refusal o t j p
    unfolding planning_refusal
    sizes-refused b = rw (a, b)

    pub places-refused : sizes_over (trees_of t) ≡ false → plan_too_small (free_slots o (jobs_of j)) t p ≡ true → 5 ≡ planning_refusal o t j p
    unfolding planning_refusal
    places-refused b c = rw (a, b, c)

    pub not-refused : sizes_over (trees_of t) ≡ false → plan_too_small (free_slots o (jobs_of j)) t p ≡ false → 0 ≡ planning_refusal o t j p
    unfolding planning_refusal
    not-refused b c = rw (a, b, c)

-- 5 by the counts
pub places-read : (o : Options) (t : LentTrees) (j : LentJobs) (p : LentPlan) {free rows : ℕ} → free ≡ free_slots o (jobs_of j) → rows ≡ l0_used t + runs_used t
    → (r : Bool) → r ≡ ltb (spec_places p) free || ltb (source_places p) rows → plan_too_small (free_slots o (jobs_of j)) t p ≡ r
unfolding plan_too_small
places-read o t j p a b r e = rw (← a, ← b) (sym e)

-- ---- all of them

either : (a b : Bool) (later : ℕ) → 1 ≡ (1 given a || b || true else later)
either true b later = refl
either false true later = refl
either false false later = refl

or-none : (a : Bool) → a || false ≡ a
or-none true = refl
or-none false = refl

module _ (o : Options) (t : LentTrees) (j : LentJobs) (p : LentPlan) where
  -- "at most 64 concurrent jobs"
  pub many_refused : max_concurrent < o.concurrent → 1 ≡ plan_refusal o t j p
  unfolding plan_refusal
  many_refused h = rw (lt-ltb max_concurrent o.concurrent h) (either (trees_outside t) (jobs_outside j) _)

  module _ (h : o.concurrent ≤ max_concurrent) where
    pub tables-refused : (v : ℕ) → v ≡ tables_refusal t j → (v ≡ 0 → ⊥) → v ≡ plan_refusal o t j p
    unfolding plan_refusal
    tables-refused v e n = rw (le-ltb max_concurrent o.concurrent h, or-none (trees_outside t || jobs_outside j)) (tables-first t j v _ e n)

    pub planning-left : (v : ℕ) → tables_refusal t j ≡ 0 → v ≡ planning_refusal o t j p → v ≡ plan_refusal o t j p
    unfolding plan_refusal planning_refusal
    planning-left v z e =
        let g = tables-good t j z in
        rw (le-ltb max_concurrent o.concurrent h, g.0.inside, g.1.inside, g.0.shapely, g.1.shapely) e

-- ---- a call that is not refused

bounded-by : (o : Options) → bad_options o ≡ false → Bounded o
bounded-by o h =
    let all = not-false (leb 1 o.min && leb o.min o.max && leb o.max 64) h in
    let two = and_left (leb 1 o.min && leb o.min o.max) (leb o.max 64) all in
    record {
      some = leb-true 1 o.min (and_left (leb 1 o.min) (leb o.min o.max) two);
      ordered = leb-true o.min o.max (and_right (leb 1 o.min) (leb o.min o.max) two);
      most = leb-true o.max 64 (and_right (leb 1 o.min && leb o.min o.max) (leb o.max 64) all);
    }

pub ready : (o : Options) (t : LentTrees) (j : LentJobs) (p : LentPlan) → plan_refusal o t j p ≡ 0 → Ready o t j
unfolding plan_refusal tables_refusal l0_used runs_used sources_used
ready o t j p z =
    let outside = trees_outside t || jobs_outside j in
    let many = ltb max_concurrent o.concurrent in
    let one = passed 0 (outside || many) _ z in
    let two = passed 1 (trees_misshapen t || jobs_misshapen j) _ one.1 in
    let three = passed 2 (bad_options o) _ two.1 in
    let four = passed 3 (sizes_over (trees_of t)) _ three.1 in
    let good : TreesGood t × JobsGood j = tables-good t j (rw (or_left outside many one.0, two.0)) in
    let g = good.0 in
    let k = good.1 in
    record {
      bounded = bounded-by o three.0;
      concurrent = ltb-false max_concurrent o.concurrent (or_right outside many one.0);
      trees = g.within.trees;
      l0 = g.within.l0;
      runs = g.within.runs;
      jobs = k.within.jobs;
      sources = k.within.sources;
      tree_rows = g.lent.trees;
      l0_ids = g.lent.l0_ids;
      l0_sizes = g.lent.l0_sizes;
      run_ids = g.lent.run_ids;
      run_sizes = g.lent.run_sizes;
      job_marks = k.lent.job_marks;
      job_specs = k.lent.job_specs;
      source_marks = k.lent.source_marks;
      source_runs = k.lent.source_runs;
      source_views = k.lent.source_views;
      summed = sym (flat-sizes t (omega (arith, g.within.l0, g.lent.l0_sizes)) (omega (arith, g.within.runs, g.lent.run_sizes))) ∙ four.0;
    }

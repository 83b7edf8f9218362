-- `propose` meets its contract: the tables that it fills hold the start of a call (Starting.antt), so that what the passes leave is the plan.
use mathlib.Core.Path.{sym, refl}
use native.Mathlib.Omega.{arith}
use Rattle.rules.specs.Lent.{l0_used, runs_used, sources_used}
use Rattle.rules.specs.Plan.{free_slots}
use Rattle.rows.specs.InSlices.{trees_in, jobs_in}
use Rattle.size_tiered_compaction.proofs.Starting.{asked-row, picks-made}
use Rattle.size_tiered_compaction.proofs.plan.propose.Goals as goal

pub order_trees-requires : goal.order_trees-requires
unfolding l0_used runs_used
order_trees-requires c =
    let g = c.requires.1 in
    (omega (arith, g.trees), omega (arith, g.trees, g.tree_rows), omega (arith, g.trees))

pub fill_chains-requires : goal.fill_chains-requires
unfolding runs_used
fill_chains-requires c =
    let g = c.requires.1 in
    (omega (arith, g.trees, g.tree_rows), omega (arith, g.runs, g.run_sizes), omega (arith, g.run_sizes))

pub fill_used-requires : goal.fill_used-requires
unfolding sources_used
fill_used-requires c =
    let g = c.requires.1 in
    record {
      marked = omega (arith, g.jobs, g.job_marks);
      specified = omega (arith, g.jobs, g.job_specs);
      sources = omega (arith, g.sources, g.source_marks);
      runs = omega (arith, g.sources, g.source_runs);
      views = omega (arith, g.sources, g.source_views);
      room = omega (arith, g.sources, g.jobs);
    }

pub first_fresh-fresh-requires : goal.first_fresh-fresh-requires
unfolding runs_used
first_fresh-fresh-requires c =
    let g = c.requires.1 in
    (omega (arith, g.runs, g.run_ids, c.runs_used.ensures), omega (arith, g.jobs, g.job_marks), omega (arith, g.jobs, g.job_specs))

pub plan_passes-requires : goal.plan_passes-requires
unfolding free_slots
plan_passes-requires c =
    let g = c.requires.1 in
    let slots = c.free_slots-slots.ensures (jobs_in c.args.jobs.now) refl refl in (
      g.bounded,
      omega (arith, g.concurrent, g.jobs, g.sources, slots, c.fill_used.ensures.kept, (c.fill_used.ensures.uses (jobs_in c.args.jobs.now) refl refl refl refl refl refl).within),
      omega (arith, g.concurrent, slots, c.requires.0),
      record { views = omega (arith, g.l0_ids); rows = omega (arith, g.l0_sizes); ids = omega (arith, g.run_ids); sizes = omega (arith, g.run_sizes); lengths = omega (arith, c.fill_chains.auto.chains) },
      asked-row g (c.order_trees.ensures _ refl refl) c.fill_chains.ensures,
    )

pub returns : goal.returns
unfolding free_slots
returns c =
    let g = c.requires.1 in
    let slots = c.free_slots-slots.ensures (jobs_in c.args.jobs.now) refl refl in
    let made = c.plan_passes.ensures.made in
    record {
      same = made.picks_same;
      proposed = picks-made _ (trees_in c.args.trees.now) (jobs_in c.args.jobs.now) _ (c.fill_used.ensures.uses _ refl refl refl refl refl refl) slots (c.first_fresh-fresh.ensures _ _ (sym c.runs_used.ensures) refl refl refl refl) (omega (arith, g.concurrent, slots, c.requires.0)) (omega (arith, g.trees, c.order_trees.auto.asked)) (c.order_trees.ensures _ refl refl) made c.plan_passes.ensures.planned;
    }

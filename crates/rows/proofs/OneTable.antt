-- Refusals 1 and 2 of trees by themselves, and of jobs by themselves, from the tests that decide them.
use Prim.Native.Nat.{ℕ}
use mathlib.Core.Path.{◌≡◌}
use mathlib.Core.Bool.{Bool, false, ◌&&◌, not}
use Rattle.rules.specs.Lists.{◌given◌else◌}
use Rattle.rules.specs.Lent.{LentTrees, LentJobs, trees_of, jobs_of}
use Rattle.rules.specs.Bounds.{trees_outside, trees_at_capacity, good_trees, trees_misshapen, trees_refusal, jobs_outside, jobs_at_capacity, good_jobs, jobs_misshapen, jobs_refusal}
use Rattle.rules.proofs.Bounds.{trees-within}
use Rattle.rows.specs.Shape.{flat_trees}
use Rattle.rows.proofs.Shapes.{flat-trees}

-- 1 of a table outside the bounds, 2 of one that is not lent at its capacity or not good
abbrev pub told : Bool → Bool → Bool → ℕ
told outside full good = 1 given outside else 2 given not (full && good) else 0

pub trees-told : (t : LentTrees) {o f g : Bool} → trees_outside t ≡ o → trees_at_capacity t ≡ f → good_trees (trees_of t) ≡ g → told o f g ≡ trees_refusal t
unfolding trees_refusal trees_misshapen
trees-told t a b d = rw (a, b, d)

-- the rules on trees inside the bounds, read off the slices
pub trees-read : (t : LentTrees) → trees_outside t ≡ false → good_trees (trees_of t) ≡ flat_trees t.count t.trees t.watermark_marks t.l0_ids t.run_ids
trees-read t a = flat-trees t (trees-within t a).some

pub jobs-told : (j : LentJobs) {o f g : Bool} → jobs_outside j ≡ o → jobs_at_capacity j ≡ f → good_jobs (jobs_of j) ≡ g → told o f g ≡ jobs_refusal j
unfolding jobs_refusal jobs_misshapen
jobs-told j a b d = rw (a, b, d)

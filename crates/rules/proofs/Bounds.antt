-- What a table that is not refused 1 or 2 is known to be: within its bounds, lent at its capacity, its rows by the rules.
use Prim.Native.Nat.{◌*◌, ◌≤◌, ◌<◌}
use mathlib.Core.Path.{◌≡◌, refl, ap}
use mathlib.Core.List.{List, map}
use mathlib.Core.Bool.{Bool, true, false, ◌&&◌, ◌||◌, not}
use native.Mathlib.Omega.{arith}
use lib.Dec.{ltb, eqb}
use lib.ListN.{length}
use borrow.Author.Tests.{eqb-true, eqb-false, ltb-false, not-false}
use Rattle.rules.specs.Lists.{all, distinct, ◌given◌else◌}
use Rattle.rules.specs.Tables.{same_ulid, Tree}
use Rattle.rules.specs.Lent.{LentTrees, LentJobs, trees_of, jobs_of, l0_used, runs_used, sources_used, l0_of, runs_of}
use Rattle.rules.specs.Bounds.{max_trees, max_l0, max_runs, max_jobs, max_sources, trees_outside, jobs_outside, trees_at_capacity, jobs_at_capacity, first_is_root, falling_ids, good_marks, good_trees, good_jobs, trees_misshapen, jobs_misshapen, trees_refusal, jobs_refusal}
use Rattle.rules.proofs.Lookups.{and_left, and_right, or_left, or_right}

-- ---- within the bounds

pub record TreesWithin (t : LentTrees) : Type 0 where
  pub some : 0 < t.count
  pub trees : t.count ≤ max_trees
  pub l0 : l0_used t ≤ max_l0
  pub runs : runs_used t ≤ max_runs

pub trees-within : (t : LentTrees) → trees_outside t ≡ false → TreesWithin t
unfolding trees_outside
trees-within t h =
    let none = eqb t.count 0 in
    let many = ltb max_trees t.count in
    let rows = ltb max_l0 (l0_used t) in
    let runs = ltb max_runs (runs_used t) in
    let first = or_left (none || many || rows) runs h in
    let second = or_left (none || many) rows first in
    let empty : t.count ≡ 0 → ⊥ = eqb-false t.count 0 (or_left none many second) in
    record {
      some = omega arith;
      trees = ltb-false max_trees t.count (or_right none many second);
      l0 = ltb-false max_l0 (l0_used t) (or_right (none || many) rows first);
      runs = ltb-false max_runs (runs_used t) (or_right (none || many || rows) runs h);
    }

pub record JobsWithin (j : LentJobs) : Type 0 where
  pub jobs : j.count ≤ max_jobs
  pub sources : sources_used j ≤ max_sources

pub jobs-within : (j : LentJobs) → jobs_outside j ≡ false → JobsWithin j
unfolding jobs_outside
jobs-within j h = record {
  jobs = ltb-false max_jobs j.count (or_left (ltb max_jobs j.count) (ltb max_sources (sources_used j)) h);
  sources = ltb-false max_sources (sources_used j) (or_right (ltb max_jobs j.count) (ltb max_sources (sources_used j)) h);
}

-- ---- lent at capacity

pub record TreesLent (t : LentTrees) : Type 0 where
  pub trees : length t.trees ≡ 3 * max_trees
  pub watermark_marks : length t.watermark_marks ≡ 2 * max_trees
  pub watermarks : length t.watermarks ≡ 4 * max_trees
  pub l0_ids : length t.l0_ids ≡ 4 * max_l0
  pub l0_sizes : length t.l0_sizes ≡ max_l0
  pub run_ids : length t.run_ids ≡ max_runs
  pub run_sizes : length t.run_sizes ≡ max_runs

pub trees-lent : (t : LentTrees) → trees_at_capacity t ≡ true → TreesLent t
unfolding trees_at_capacity
trees-lent t h =
    let a = eqb (length t.trees) (3 * max_trees) in
    let b = eqb (length t.watermark_marks) (2 * max_trees) in
    let c = eqb (length t.watermarks) (4 * max_trees) in
    let d = eqb (length t.l0_ids) (4 * max_l0) in
    let e = eqb (length t.l0_sizes) max_l0 in
    let f = eqb (length t.run_ids) max_runs in
    let g = eqb (length t.run_sizes) max_runs in
    let up_f = and_left (a && b && c && d && e && f) g h in
    let up_e = and_left (a && b && c && d && e) f up_f in
    let up_d = and_left (a && b && c && d) e up_e in
    let up_c = and_left (a && b && c) d up_d in
    let up_b = and_left (a && b) c up_c in
    record {
      trees = eqb-true (length t.trees) (3 * max_trees) (and_left a b up_b);
      watermark_marks = eqb-true (length t.watermark_marks) (2 * max_trees) (and_right a b up_b);
      watermarks = eqb-true (length t.watermarks) (4 * max_trees) (and_right (a && b) c up_c);
      l0_ids = eqb-true (length t.l0_ids) (4 * max_l0) (and_right (a && b && c) d up_d);
      l0_sizes = eqb-true (length t.l0_sizes) max_l0 (and_right (a && b && c && d) e up_e);
      run_ids = eqb-true (length t.run_ids) max_runs (and_right (a && b && c && d && e) f up_f);
      run_sizes = eqb-true (length t.run_sizes) max_runs (and_right (a && b && c && d && e && f) g h);
    }

pub record JobsLent (j : LentJobs) : Type 0 where
  pub job_ids : length j.job_ids ≡ 2 * max_jobs
  pub job_marks : length j.job_marks ≡ 2 * max_jobs
  pub job_specs : length j.job_specs ≡ 3 * max_jobs
  pub source_marks : length j.source_marks ≡ max_sources
  pub source_runs : length j.source_runs ≡ max_sources
  pub source_views : length j.source_views ≡ 2 * max_sources

pub jobs-lent : (j : LentJobs) → jobs_at_capacity j ≡ true → JobsLent j
unfolding jobs_at_capacity
jobs-lent j h =
    let a = eqb (length j.job_ids) (2 * max_jobs) in
    let b = eqb (length j.job_marks) (2 * max_jobs) in
    let c = eqb (length j.job_specs) (3 * max_jobs) in
    let d = eqb (length j.source_marks) max_sources in
    let e = eqb (length j.source_runs) max_sources in
    let f = eqb (length j.source_views) (2 * max_sources) in
    let up_e = and_left (a && b && c && d && e) f h in
    let up_d = and_left (a && b && c && d) e up_e in
    let up_c = and_left (a && b && c) d up_d in
    let up_b = and_left (a && b) c up_c in
    record {
      job_ids = eqb-true (length j.job_ids) (2 * max_jobs) (and_left a b up_b);
      job_marks = eqb-true (length j.job_marks) (2 * max_jobs) (and_right a b up_b);
      job_specs = eqb-true (length j.job_specs) (3 * max_jobs) (and_right (a && b) c up_c);
      source_marks = eqb-true (length j.source_marks) max_sources (and_right (a && b && c) d up_d);
      source_runs = eqb-true (length j.source_runs) max_sources (and_right (a && b && c && d) e up_e);
      source_views = eqb-true (length j.source_views) (2 * max_sources) (and_right (a && b && c && d && e) f h);
    }

-- ---- a table that is not refused by itself

pub record TreesGood (t : LentTrees) : Type 0 where
  pub inside : trees_outside t ≡ false
  pub shapely : trees_misshapen t ≡ false
  pub within : TreesWithin t
  pub lent : TreesLent t
  pub rules : good_trees (trees_of t) ≡ true

pub trees-good : (t : LentTrees) → trees_refusal t ≡ 0 → TreesGood t
unfolding trees_refusal trees_misshapen
trees-good t h = go (trees_outside t) (trees_at_capacity t && good_trees (trees_of t)) refl refl h
  where
    go : (a b : Bool) → trees_outside t ≡ a → trees_at_capacity t && good_trees (trees_of t) ≡ b → (1 given a else 2 given not b else 0) ≡ 0 → TreesGood t
    go true b e f z = absurd (omega arith)
    go false false e f z = absurd (omega arith)
    go false true e f z = record {
      inside = e;
      shapely = ap not f;
      within = trees-within t e;
      lent = trees-lent t (and_left (trees_at_capacity t) (good_trees (trees_of t)) f);
      rules = and_right (trees_at_capacity t) (good_trees (trees_of t)) f;
    }

pub record JobsGood (j : LentJobs) : Type 0 where
  pub inside : jobs_outside j ≡ false
  pub shapely : jobs_misshapen j ≡ false
  pub within : JobsWithin j
  pub lent : JobsLent j
  pub rules : good_jobs (jobs_of j) ≡ true

pub jobs-good : (j : LentJobs) → jobs_refusal j ≡ 0 → JobsGood j
unfolding jobs_refusal jobs_misshapen
jobs-good j h = go (jobs_outside j) (jobs_at_capacity j && good_jobs (jobs_of j)) refl refl h
  where
    go : (a b : Bool) → jobs_outside j ≡ a → jobs_at_capacity j && good_jobs (jobs_of j) ≡ b → (1 given a else 2 given not b else 0) ≡ 0 → JobsGood j
    go true b e f z = absurd (omega arith)
    go false false e f z = absurd (omega arith)
    go false true e f z = record {
      inside = e;
      shapely = ap not f;
      within = jobs-within j e;
      lent = jobs-lent j (and_left (jobs_at_capacity j) (good_jobs (jobs_of j)) f);
      rules = and_right (jobs_at_capacity j) (good_jobs (jobs_of j)) f;
    }

-- ---- a table that is not refused 2 keeps its rules

pub trees-rules : (t : LentTrees) → trees_misshapen t ≡ false → good_trees (trees_of t) ≡ true
unfolding trees_misshapen
trees-rules t h = and_right (trees_at_capacity t) (good_trees (trees_of t)) (not-false (trees_at_capacity t && good_trees (trees_of t)) h)

pub jobs-rules : (j : LentJobs) → jobs_misshapen j ≡ false → good_jobs (jobs_of j) ≡ true
unfolding jobs_misshapen
jobs-rules j h = and_right (jobs_at_capacity j) (good_jobs (jobs_of j)) (not-false (jobs_at_capacity j && good_jobs (jobs_of j)) h)

-- the rules on trees, one by one
pub record ByRules (ts : List Tree) : Type 0 where
  pub root : first_is_root ts ≡ true
  pub prefixes : distinct eqb (map (λ x. x.prefix) ts) ≡ true
  pub falling : all (λ x. falling_ids x.runs) ts ≡ true
  pub runs : distinct eqb (map (λ r. r.id) (runs_of ts)) ≡ true
  pub views : distinct same_ulid (map (λ v. v.view) (l0_of ts)) ≡ true
  pub marks : all good_marks ts ≡ true

pub by-rules : (ts : List Tree) → good_trees ts ≡ true → ByRules ts
unfolding good_trees
by-rules ts h =
    let root = first_is_root ts in
    let prefixes = distinct eqb (map (λ x. x.prefix) ts) in
    let falling = all (λ x. falling_ids x.runs) ts in
    let runs = distinct eqb (map (λ r. r.id) (runs_of ts)) in
    let views = distinct same_ulid (map (λ v. v.view) (l0_of ts)) in
    let five = and_left (root && prefixes && falling && runs && views) (all good_marks ts) h in
    let four = and_left (root && prefixes && falling && runs) views five in
    let three = and_left (root && prefixes && falling) runs four in
    let two = and_left (root && prefixes) falling three in
    record {
      root = and_left root prefixes two;
      prefixes = and_right root prefixes two;
      falling = and_right (root && prefixes) falling three;
      runs = and_right (root && prefixes && falling) runs four;
      views = and_right (root && prefixes && falling && runs) views five;
      marks = and_right (root && prefixes && falling && runs && views) (all good_marks ts) h;
    }

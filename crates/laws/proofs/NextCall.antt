-- A job table that adding, merging or retention leaves, the next call takes: its rows fit, its slices keep their lengths, and
-- its ids still rise.
use Prim.Native.Nat.{◌*◌, ◌≤◌}
use mathlib.Core.Path.{◌≡◌, refl, ◌∙◌}
use mathlib.Core.List.{List, [], ◌∷◌}
use mathlib.Core.Bool.{true, false, cond, ◌||◌, not}
use native.Mathlib.Omega.{arith}
use lib.Dec.{ltb}
use lib.ListN.{length, length-append, length-map}
use borrow.Author.Tests.{eq-eqb, le-ltb, ltb-false}
use Rattle.rules.specs.Lists.{any, concat_map}
use Rattle.rules.specs.declared.tables.Source.{Source}
use Rattle.rules.specs.Tables.{Job, active, finished}
use Rattle.rules.specs.Lent.{LentJobs, jobs_of, sources_used, ulid_words, job_mark_words, job_spec_words, sources_of, lay_jobs}
use Rattle.rules.specs.Bounds.{max_jobs, max_sources, jobs_outside, jobs_at_capacity, good_jobs, jobs_misshapen, jobs_refusal}
use Rattle.rules.specs.Jobs.{LentJob, job_of, inserted, too_many, job_misshapen, clashes, merged, retained, add_refusal, merge_refusal, retain_refusal}
use Rattle.rules.specs.Calls.{add_call, merge_call, retain_call}
use Rattle.rules.proofs.Bounds.{JobsLent, JobsGood, jobs-good}
use Rattle.rules.proofs.Laid.{length-laid}
use Rattle.rules.proofs.Lookups.{or_left, or_right}
use Rattle.rules.proofs.Packed.{length-jobs_of, length-sources}
use Rattle.rules.proofs.ReadBack.{jobs-back}
use Rattle.rules.proofs.Refusals.{passed}
use Rattle.rules.proofs.Rows.{length-words}
use Rattle.laws.proofs.Adding.{added}
use Rattle.laws.proofs.Merging.{merges}
use Rattle.laws.proofs.Retention.{retains}
use Rattle.laws.proofs.NothingLost.{add-good, merge-good}

-- ---- a table by its parts
not-refused : (t : LentJobs) → jobs_outside t ≡ false → jobs_misshapen t ≡ false → jobs_refusal t ≡ 0
unfolding jobs_refusal
not-refused t inside shapely = rw (inside, shapely)

pub taken : (t : LentJobs) → t.count ≤ max_jobs → sources_used t ≤ max_sources → JobsLent t → good_jobs (jobs_of t) ≡ true → jobs_refusal t ≡ 0
unfolding jobs_outside jobs_misshapen jobs_at_capacity
taken t few short lent good =
    not-refused t (rw (le-ltb max_jobs t.count few, le-ltb max_sources (sources_used t) short))
    (rw (eq-eqb (length t.job_ids) (2 * max_jobs) lent.job_ids, eq-eqb (length t.job_marks) (2 * max_jobs) lent.job_marks, eq-eqb (length t.job_specs) (3 * max_jobs) lent.job_specs, eq-eqb (length t.source_marks) max_sources lent.source_marks, eq-eqb (length t.source_runs) max_sources lent.source_runs, eq-eqb (length t.source_views) (2 * max_sources) lent.source_views, good))

-- ---- jobs laid in a table that was not refused
module _ (t : LentJobs) (g : JobsGood t) (js : List Job) (few : length js ≤ max_jobs) (short : length (sources_of js) ≤ max_sources) where
  laid-lent : JobsLent (lay_jobs t js)
  unfolding lay_jobs
  laid-lent =
      let l = g.lent in
      let w = g.within in
      let ids = length-words (λ (j : Job). ulid_words j.id) 2 (λ j. refl) js in
      let marks = length-words job_mark_words 2 (λ j. refl) js in
      let specs = length-words job_spec_words 3 (λ j. refl) js in
      let mark = length-map (sources_of js) (λ (s : Source). s.mark) in
      let run = length-map (sources_of js) (λ (s : Source). s.run) in
      let views = length-words (λ (s : Source). ulid_words s.view) 2 (λ s. refl) (sources_of js) in
      record {
        job_ids = length-laid (2 * t.count) _ t.job_ids (omega (arith, l.job_ids, w.jobs)) (omega (arith, l.job_ids)) ∙ l.job_ids;
        job_marks = length-laid (2 * t.count) _ t.job_marks (omega (arith, l.job_marks, w.jobs)) (omega (arith, l.job_marks)) ∙ l.job_marks;
        job_specs = length-laid (3 * t.count) _ t.job_specs (omega (arith, l.job_specs, w.jobs)) (omega (arith, l.job_specs)) ∙ l.job_specs;
        source_marks = length-laid (sources_used t) _ t.source_marks (omega (arith, l.source_marks, w.sources)) (omega (arith, l.source_marks)) ∙ l.source_marks;
        source_runs = length-laid (sources_used t) _ t.source_runs (omega (arith, l.source_runs, w.sources)) (omega (arith, l.source_runs)) ∙ l.source_runs;
        source_views = length-laid (2 * sources_used t) _ t.source_views (omega (arith, l.source_views, w.sources)) (omega (arith, l.source_views)) ∙ l.source_views;
      }

  -- as many as the count says
  laid-count : (lay_jobs t js).count ≡ length js
  unfolding lay_jobs
  laid-count = refl

  laid-taken : good_jobs js ≡ true → jobs_refusal (lay_jobs t js) ≡ 0
  laid-taken good =
      let many = length-sources (lay_jobs t js) in
      taken (lay_jobs t js) (rw laid-count few) (omega (arith, rw (jobs-back t js) at many)) laid-lent (rw (jobs-back t js) good)

-- not refused 14
enough : (js : List Job) → too_many js ≡ false → (length js ≤ max_jobs) × (length (sources_of js) ≤ max_sources)
unfolding too_many
enough js h =
    let many = ltb max_jobs (length js) in
    let long = ltb max_sources (length (sources_of js)) in
    (ltb-false max_jobs (length js) (or_left many long h), ltb-false max_sources (length (sources_of js)) (or_right many long h))

-- retention has no more jobs and entries than before
fewer-jobs : (js : List Job) → length (retained js) ≤ length js
unfolding retained
fewer-jobs [] = omega arith
fewer-jobs (j ∷ js) =
    elim (active j || not (any finished js)) as (λ c. length (cond c (j ∷ retained js) (retained js)) ≤ length (j ∷ js))
    [ true ↦ omega (arith, fewer-jobs js) | false ↦ omega (arith, fewer-jobs js) ]

fewer-sources : (js : List Job) → length (sources_of (retained js)) ≤ length (sources_of js)
unfolding retained concat_map
fewer-sources [] = omega arith
fewer-sources (j ∷ js) =
    elim (active j || not (any finished js)) as (λ c. length (sources_of (cond c (j ∷ retained js) (retained js))) ≤ length (sources_of (j ∷ js)))
    [ true ↦ simp length-append (omega (arith, fewer-sources js)) | false ↦ simp length-append (omega (arith, fewer-sources js)) ]

-- ---- the calls
pub add-next : (t : LentJobs) (j : LentJob) → add_refusal t j ≡ 0 → jobs_refusal (add_call t j).jobs ≡ 0
unfolding add_call add_refusal
add-next t j h =
    let js = inserted (job_of j) (jobs_of t) in
    let h₁ = passed 0 (jobs_outside t) _ h in
    let h₂ = passed 1 (jobs_misshapen t || job_misshapen j) _ h₁.1 in
    let h₁₀ = passed 9 (clashes (job_of j) (jobs_of t)) _ h₂.1 in
    let fits = enough js (passed 13 (too_many js) 0 h₁₀.1).0 in
    let before = jobs-good t (not-refused t h₁.0 (or_left (jobs_misshapen t) (job_misshapen j) h₂.0)) in
    let good = add-good t j h in
    rw h (laid-taken t before js fits.0 fits.1 (added (job_of j) (jobs_of t) good.1 good.0).good)

pub merge-next : (t r : LentJobs) → merge_refusal t r ≡ 0 → jobs_refusal (merge_call t r).jobs ≡ 0
unfolding merge_call merge_refusal
merge-next t r h =
    let js = merged (jobs_of t) (jobs_of r) in
    let h₁ = passed 0 (jobs_outside t || jobs_outside r) _ h in
    let h₂ = passed 1 (jobs_misshapen t || jobs_misshapen r) _ h₁.1 in
    let fits = enough js (passed 13 (too_many js) 0 h₂.1).0 in
    let before = jobs-good t (not-refused t (or_left (jobs_outside t) (jobs_outside r) h₁.0) (or_left (jobs_misshapen t) (jobs_misshapen r) h₂.0)) in
    let good = merge-good t r h in
    rw h (laid-taken t before js fits.0 fits.1 (merges (jobs_of t) (jobs_of r) good.0 good.1).good)

pub retain-next : (t : LentJobs) → retain_refusal t ≡ 0 → jobs_refusal (retain_call t).jobs ≡ 0
unfolding retain_call
retain-next t h =
    let before = jobs-good t h in
    let js = retained (jobs_of t) in
    rw h
    (laid-taken t before js
    (omega (arith, fewer-jobs (jobs_of t), length-jobs_of t, before.within.jobs))
    (omega (arith, fewer-sources (jobs_of t), length-sources t, before.within.sources))
    (retains (jobs_of t) before.rules).good)

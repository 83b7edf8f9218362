-- A job put at its place: what open_rows leaves of the six slices are the rows of the jobs with it.
use Prim.Native.Nat.{ℕ, ◌+◌, ◌*◌, ◌-◌, ◌≤◌}
use mathlib.Core.Path.{◌≡◌, refl, sym, ap, ◌∙◌}
use mathlib.Core.List.{List, [], ◌∷◌, ◌++◌}
use native.Mathlib.Omega.{arith}
use lib.ListN.{length, take, drop, length-append, take-append-drop}
use Rattle.rules.specs.Lists.{leading, concat_map, total}
use Rattle.rules.specs.declared.tables.Source.{Source}
use Rattle.rules.specs.Tables.{ulid_below, Job}
use Rattle.rules.specs.Lent.{LentJobs, lent_jobs, rows_from, ulid_at, source_at, source_count, jobs_of, sources_of, sources_used, laid, lay_jobs, ulid_words, job_mark_words, job_spec_words}
use Rattle.rules.specs.Validation.{lent_sources}
use Rattle.rules.specs.Jobs.{LentJob, job_of, inserted}
use Rattle.rules.proofs.Appended.{total-append}
use Rattle.rules.proofs.Rows.{length-rows_from, rows_from-append}
use Rattle.rules.proofs.Packed.{length-jobs_of, length-sources}
use Rattle.rows.specs.Movers.{opened}
use Rattle.rows.proofs.Lift.{opened-laid, laid-singles}
use Rattle.job_rows.specs.Slices.{HasRoom, Inserts}
use Rattle.job_rows.proofs.Standing.{mark-words, run-words, view-words, ids-stand, marks-stand, specs-stand, source-marks-stand, source-runs-stand, source-views-stand}
use Rattle.job_rows.proofs.Again.{lent-eq}
use Rattle.job_rows.proofs.Place.{inserted-at, place_is, place-within, entries-before, sources-at}

-- the entries before a place are among those of all
within_all : (f : ℕ → ℕ) (i n : ℕ) → i ≤ n → total (rows_from f 0 i) ≤ total (rows_from f 0 n)
within_all f i n h =
    let all : n ≡ i + (n - i) = omega arith in
    omega (arith, ap (λ (m : ℕ). total (rows_from f 0 m)) all ∙ ap total (rows_from-append f 0 i (n - i)) ∙ total-append (rows_from f 0 i) (rows_from f (0 + i) (n - i)))

module _ (j : LentJobs) (x : LentJob) (room : HasRoom j x) (at : ℕ) (place : at ≡ leading (λ v. ulid_below v x.id) (rows_from (λ k. ulid_at j.job_ids (2 * k)) 0 j.count)) where
  at-is : at ≡ leading (λ y. ulid_below y.id x.id) (jobs_of j)
  at-is = place ∙ place_is j x.id

  at-within : at ≤ j.count
  at-within = rw at-is (place-within j x.id)

  -- ---- what the movers ask

  pub ask-sum : at ≤ 64
  ask-sum = omega (arith, at-within, room.capacity.jobs)

  pub ask-ids : (at ≤ j.count) × (2 * (j.count + 1) ≤ length j.job_ids) × (2 ≤ 2)
  ask-ids = omega (arith, at-within, room.capacity.job_ids, room.job_fits)

  pub ask-marks : (at ≤ j.count) × (2 * (j.count + 1) ≤ length j.job_marks) × (2 ≤ 2)
  ask-marks = omega (arith, at-within, room.capacity.job_marks, room.job_fits)

  pub ask-specs : (at ≤ j.count) × (3 * (j.count + 1) ≤ length j.job_specs) × (3 ≤ 3)
  ask-specs = omega (arith, at-within, room.capacity.job_specs, room.job_fits)

  module _ (used from : ℕ) (u : used ≡ total (rows_from (source_count j) 0 j.count)) (f : from ≡ total (rows_from (source_count j) 0 at)) where
    from-within : from ≤ used
    from-within = rw (f, u) (within_all (source_count j) at j.count at-within)

    entries-in : used + length x.marks ≤ 1024
    unfolding sources_used
    entries-in = omega (arith, room.entries_fit)

    pub ask-source-marks : (from ≤ used) × (1 * (used + length x.marks) ≤ length j.source_marks) × (1 * length x.marks ≤ length x.marks)
    ask-source-marks = omega (arith, from-within, entries-in, room.capacity.source_marks)

    pub ask-source-runs : (from ≤ used) × (1 * (used + length x.marks) ≤ length j.source_runs) × (1 * length x.marks ≤ length x.runs)
    ask-source-runs = omega (arith, from-within, entries-in, room.capacity.source_runs, room.runs_agree)

    pub ask-source-views : (from ≤ used) × (2 * (used + length x.marks) ≤ length j.source_views) × (2 * length x.marks ≤ length x.views)
    ask-source-views = omega (arith, from-within, entries-in, room.capacity.source_views, room.views_agree)

    -- ---- what they leave

    used-is : used ≡ sources_used j
    unfolding sources_used
    used-is = u

    from_is : from ≡ length (sources_of (take at (jobs_of j)))
    from_is = f ∙ sym (entries-before j at at-within)

    abbrev with_job : List Job
    with_job = take at (jobs_of j) ++ (job_of x ∷ drop at (jobs_of j))

    -- a slice of the source entries, and one of the jobs
    entries-opened : (words : Source → List ℕ) (w : ℕ) → ((s : Source) → length (words s) ≡ w) → (s new : List ℕ) → take (w * sources_used j) s ≡ concat_map words (sources_of (jobs_of j))
        → take (w * length x.marks) new ≡ concat_map words (lent_sources x.marks x.runs x.views)
        → laid (w * used) (opened w used from new (length x.marks) s) s ≡ laid (w * sources_used j) (concat_map words (sources_of with_job)) s
    unfolding job_of
    entries-opened words w width s new stand e =
        rw used-is
        (opened-laid words w width (sources_of (jobs_of j)) (sources_used j) s (sym (length-sources j)) stand from (length x.marks) new (lent_sources x.marks x.runs x.views) (rw used-is at from-within) e
        ∙ ap (λ (l : List Source). laid (w * sources_used j) (concat_map words l) s) (sources-at (job_of x) (jobs_of j) at from from_is))

    jobs-opened : (words : Job → List ℕ) (w : ℕ) → ((y : Job) → length (words y) ≡ w) → (s new : List ℕ) → take (w * j.count) s ≡ concat_map words (jobs_of j)
        → take (w * 1) new ≡ concat_map words (job_of x ∷ [])
        → laid (w * j.count) (opened w j.count at new 1 s) s ≡ laid (w * j.count) (concat_map words with_job) s
    jobs-opened words w width s new stand e = opened-laid words w width (jobs_of j) j.count s (sym (length-jobs_of j)) stand at 1 new (job_of x ∷ []) at-within e

    length-with : length with_job ≡ j.count + 1
    length-with =
        omega (
          arith,
          length-append (take at (jobs_of j)) (job_of x ∷ drop at (jobs_of j)),
          length-append (take at (jobs_of j)) (drop at (jobs_of j)),
          ap length (take-append-drop at (jobs_of j)),
          length-jobs_of j,
        )

    pub inserts : {ids marks specs source_marks source_runs source_views : List ℕ}
        → source_marks ≡ laid (1 * used) (opened 1 used from x.marks (length x.marks) j.source_marks) j.source_marks
        → source_runs ≡ laid (1 * used) (opened 1 used from x.runs (length x.marks) j.source_runs) j.source_runs
        → source_views ≡ laid (2 * used) (opened 2 used from x.views (length x.marks) j.source_views) j.source_views
        → ids ≡ laid (2 * j.count) (opened 2 j.count at (x.id.high ∷ x.id.low ∷ []) 1 j.job_ids) j.job_ids
        → marks ≡ laid (2 * j.count) (opened 2 j.count at (x.status ∷ x.drain ∷ []) 1 j.job_marks) j.job_marks
        → specs ≡ laid (3 * j.count) (opened 3 j.count at (x.prefix ∷ x.destination ∷ length x.marks ∷ []) 1 j.job_specs) j.job_specs
        → Inserts j x (lent_jobs (j.count + 1) ids marks specs source_marks source_runs source_views)
    unfolding lay_jobs job_of concat_map
    inserts a b c d e f =
        let cap = room.capacity in
        let entries : length (lent_sources x.marks x.runs x.views) ≡ length x.marks = length-rows_from (source_at x.marks x.runs x.views) 0 (length x.marks) in
        record {
          placed = λ absent.
              let put : with_job ≡ inserted (job_of x) (jobs_of j) = rw at-is (sym (inserted-at (job_of x) (jobs_of j) absent)) in
              lent-eq
              (sym length-with)
              (d ∙ jobs-opened (λ y. ulid_words y.id) 2 (λ y. refl) j.job_ids _ (ids-stand j cap) refl)
              (e ∙ jobs-opened job_mark_words 2 (λ y. refl) j.job_marks _ (marks-stand j cap) refl)
              (f ∙ jobs-opened job_spec_words 3 (λ y. refl) j.job_specs _ (specs-stand j cap) (rw entries))
              (a ∙ entries-opened (λ s. s.mark ∷ []) 1 (λ s. refl) j.source_marks x.marks (source-marks-stand j cap) (mark-words x.marks x.runs x.views (length x.marks) (omega arith)) ∙ laid-singles (λ (s : Source). s.mark) (sources_used j) (sources_of with_job) j.source_marks)
              (b ∙ entries-opened (λ s. s.run ∷ []) 1 (λ s. refl) j.source_runs x.runs (source-runs-stand j cap) (run-words x.marks x.runs x.views (length x.marks) (omega (arith, room.runs_agree))) ∙ laid-singles (λ (s : Source). s.run) (sources_used j) (sources_of with_job) j.source_runs)
              (c ∙ entries-opened (λ s. ulid_words s.view) 2 (λ s. refl) j.source_views x.views (source-views-stand j cap) (view-words x.marks x.runs x.views (length x.marks) (omega (arith, room.views_agree))))
              ∙ ap (lay_jobs j) put;
        }

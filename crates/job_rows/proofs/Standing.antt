-- The numbers in use of each job slice are the words of the jobs, or of their source entries, that stand in it.
use Prim.Native.Nat.{ℕ, zero, suc, ◌+◌, ◌*◌, ◌≤◌}
use mathlib.Core.Path.{◌≡◌, refl, sym, ap, ◌∙◌}
use mathlib.Core.List.{List, [], ◌∷◌}
use native.Mathlib.Nat.{zero-add, mul-zero, mul-suc, mul-add, one-mul}
use native.Mathlib.Numerals.{add-one}
use native.Mathlib.Omega.{arith}
use lib.ListN.{length, get_or, take, drop}
use lib.Seq.{drop-cons, drop-drop, take-add}
use Rattle.rules.specs.Lists.{concat_map}
use Rattle.rules.specs.declared.tables.Source.{Source}
use Rattle.rules.specs.Tables.{Job}
use Rattle.rules.specs.Lent.{LentJobs, rows_from, source_at, source_count, job_at, jobs_from, jobs_of, sources_used, sources_of, ulid_words, job_mark_words, job_spec_words}
use Rattle.rules.proofs.Rows.{length-rows_from, words-of-rows}
use Rattle.rules.proofs.Packed.{sources-first}
use Rattle.job_rows.specs.Slices.{AtCapacity}

-- ---- some numbers from number k on

one-there : (s : List ℕ) (k : ℕ) → k + 1 ≤ length s → get_or s k 0 ∷ [] ≡ take 1 (drop k s)
one-there s k h = rw (drop-cons s k 0 (omega arith))

two-there : (s : List ℕ) (k : ℕ) → k + 2 ≤ length s → get_or s k 0 ∷ get_or s (k + 1) 0 ∷ [] ≡ take 2 (drop k s)
two-there s k h = rw (drop-cons s k 0 (omega arith), drop-cons s (suc k) 0 (omega arith), add-one)

three-there : (s : List ℕ) (k : ℕ) → k + 3 ≤ length s → get_or s k 0 ∷ get_or s (k + 1) 0 ∷ get_or s (k + 2) 0 ∷ [] ≡ take 3 (drop k s)
three-there s k h =
    let last : k + 2 ≡ suc (suc k) = omega arith in
    rw (drop-cons s k 0 (omega arith), drop-cons s (suc k) 0 (omega arith), drop-cons s (suc (suc k)) 0 (omega arith), add-one, last)

-- ---- source entries, of all jobs or of a job that is lent by itself

module _ (marks runs views : List ℕ) (n : ℕ) where
  entry-words : (words : Source → List ℕ) (w : ℕ) → ((s : Source) → length (words s) ≡ w) → (s : List ℕ)
      → ((i : ℕ) → w * i + w ≤ length s → words (source_at marks runs views i) ≡ take w (drop (w * i) s)) → w * n ≤ length s
      → take (w * n) s ≡ concat_map words (rows_from (source_at marks runs views) 0 n)
  entry-words words w width s h l = sym (words-of-rows words w width s (source_at marks runs views) h 0 n (rw zero-add l) ∙ rw mul-zero)

  pub mark-words : n ≤ length marks → take (1 * n) marks ≡ concat_map (λ s. s.mark ∷ []) (rows_from (source_at marks runs views) 0 n)
  mark-words h = entry-words (λ s. s.mark ∷ []) 1 (λ s. refl) marks (λ i l. rw one-mul (one-there marks i (omega arith))) (omega arith)

  pub run-words : n ≤ length runs → take (1 * n) runs ≡ concat_map (λ s. s.run ∷ []) (rows_from (source_at marks runs views) 0 n)
  run-words h = entry-words (λ s. s.run ∷ []) 1 (λ s. refl) runs (λ i l. rw one-mul (one-there runs i (omega arith))) (omega arith)

  pub view-words : 2 * n ≤ length views → take (2 * n) views ≡ concat_map (λ s. ulid_words s.view) (rows_from (source_at marks runs views) 0 n)
  view-words h = entry-words (λ s. ulid_words s.view) 2 (λ s. refl) views (λ i l. two-there views (2 * i) l) h

-- ---- jobs

module _ (j : LentJobs) where
  -- rows of w numbers, as each job says them
  words-of-jobs : (words : Job → List ℕ) (w : ℕ) (s : List ℕ) → ((i at : ℕ) → w * i + w ≤ length s → words (job_at j i at) ≡ take w (drop (w * i) s))
      → (i at n : ℕ) → w * (i + n) ≤ length s → concat_map words (jobs_from j i at n) ≡ take (w * n) (drop (w * i) s)
  unfolding concat_map jobs_from
  words-of-jobs words w s h i at zero l = rw mul-zero
  words-of-jobs words w s h i at (suc n) l =
      let whole : w * (i + suc n) ≡ w * i + (w + w * n) = omega (arith, mul-add w i (suc n), mul-suc w n) in
      let next : w * (i + 1) ≡ w * i + w = omega (arith, mul-add w i 1) in
      let more : w * suc n ≡ w + w * n = omega (arith, mul-suc w n) in
      rw (h i at (omega arith), words-of-jobs words w s h (i + 1) (at + source_count j i) n (omega (arith, mul-add w (i + 1) n)), next, ← drop-drop w (w * i) s, more) (sym (take-add w (w * n) (drop (w * i) s)))

  module _ (room : AtCapacity j) where
    pub ids-stand : take (2 * j.count) j.job_ids ≡ concat_map (λ x. ulid_words x.id) (jobs_of j)
    unfolding jobs_of
    ids-stand = sym (words-of-jobs (λ x. ulid_words x.id) 2 j.job_ids (λ i at h. two-there j.job_ids (2 * i) h) 0 0 j.count (omega (arith, room)))

    pub marks-stand : take (2 * j.count) j.job_marks ≡ concat_map job_mark_words (jobs_of j)
    unfolding jobs_of
    marks-stand = sym (words-of-jobs job_mark_words 2 j.job_marks (λ i at h. two-there j.job_marks (2 * i) h) 0 0 j.count (omega (arith, room)))

    pub specs-stand : take (3 * j.count) j.job_specs ≡ concat_map job_spec_words (jobs_of j)
    unfolding jobs_of
    specs-stand =
        sym
        (words-of-jobs job_spec_words 3 j.job_specs
        (λ i at h. rw (length-rows_from (source_at j.source_marks j.source_runs j.source_views) at (source_count j i)) (three-there j.job_specs (3 * i) h))
        0 0 j.count (omega (arith, room)))

    -- ---- source entries

    pub source-marks-stand : take (1 * sources_used j) j.source_marks ≡ concat_map (λ s. s.mark ∷ []) (sources_of (jobs_of j))
    source-marks-stand = mark-words j.source_marks j.source_runs j.source_views (sources_used j) (omega (arith, room)) ∙ ap (concat_map (λ (s : Source). s.mark ∷ [])) (sym (sources-first j))

    pub source-runs-stand : take (1 * sources_used j) j.source_runs ≡ concat_map (λ s. s.run ∷ []) (sources_of (jobs_of j))
    source-runs-stand = run-words j.source_marks j.source_runs j.source_views (sources_used j) (omega (arith, room)) ∙ ap (concat_map (λ (s : Source). s.run ∷ [])) (sym (sources-first j))

    pub source-views-stand : take (2 * sources_used j) j.source_views ≡ concat_map (λ s. ulid_words s.view) (sources_of (jobs_of j))
    source-views-stand = view-words j.source_marks j.source_runs j.source_views (sources_used j) (omega (arith, room)) ∙ ap (concat_map (λ (s : Source). ulid_words s.view)) (sym (sources-first j))

-- What was laid reads back: the trees of `lay_trees` and the jobs of `lay_jobs` are those that were laid.
use Prim.Native.Nat.{ℕ, zero, suc, ◌+◌, ◌*◌, ◌<◌}
use mathlib.Core.Path.{◌≡◌, refl, sym, ap, ap₂, ◌∙◌}
use mathlib.Core.List.{List, [], ◌∷◌, ◌++◌, map, append_assoc}
use native.Mathlib.Nat.{le_of_suc-le-suc, not-suc-le-zero}
use native.Mathlib.Omega.{arith}
use lib.Dec.{lit<}
use lib.ListN.{length, get_or, length-append, get_or-append}
use lib.Seq.{get_or-append-add, get_or-append_seam}
use Rattle.rules.specs.Lists.{concat_map}
use Rattle.rules.specs.declared.tables.Run.{Run}
use Rattle.rules.specs.declared.tables.Source.{Source}
use Rattle.rules.specs.Tables.{L0Row, Tree, Job}
use Rattle.rules.specs.Lent.{LentTrees, LentJobs, rows_from, ulid_at, l0_at, run_at, watermark_at, source_at, l0_count, run_count, source_count, trees_from, trees_of, jobs_from, jobs_of, ulid_words, tree_words, watermark_mark_words, watermark_words, l0_words, job_mark_words, job_spec_words, l0_of, runs_of, sources_of, lay_trees, lay_jobs, laid_with}
use Rattle.rules.proofs.Records.{ulid-eq, l0-eq, run-eq, watermark-eq, tree-eq, source-eq, job-eq}
use Rattle.rules.proofs.Rows.{rows_are, number_at, concat_map-append}

-- ---- one number, one ULID

-- number i of a column that is laid by `map`
column-at : {A : Type 0} (f : A → ℕ) (xs : List A) (rest : List ℕ) (d : A) (i : ℕ) → i < length xs → get_or (map f xs ++ rest) i 0 ≡ f (get_or xs i d)
column-at f [] rest d i h = absurd (not-suc-le-zero h)
column-at f (x ∷ xs) rest d zero h = refl
column-at f (x ∷ xs) rest d (suc i) h = column-at f xs rest d i (le_of_suc-le-suc h)

-- rows of w numbers: number k of row i, wherever the reader finds it, and the ULID from number k on
module _ {A : Type 0} (words : A → List ℕ) (w : ℕ) (width : (a : A) → length (words a) ≡ w) (xs : List A) (rest : List ℕ) (d : A) (i : ℕ) (h : i < length xs) where
  pub number : (at k : ℕ) → k < w → at ≡ w * i + k → get_or (concat_map words xs ++ rest) at 0 ≡ get_or (words (get_or xs i d)) k 0
  number at k l e = ap (λ (n : ℕ). get_or (concat_map words xs ++ rest) n 0) e ∙ number_at words w width xs rest d i k h l

  pub ulid : (at k : ℕ) → k + 1 < w → at ≡ w * i + k → ulid_at (concat_map words xs ++ rest) at ≡ ulid_at (words (get_or xs i d)) k
  ulid at k l e = ulid-eq (number at k (omega arith) e) (number (at + 1) (k + 1) l (omega arith))

-- rows xs that stand after `pre` and before `post`
module _ {A : Type 0} (f : ℕ → A) (d : A) (pre xs post : List A) where
  rows-within : ((k : ℕ) → k < length (pre ++ (xs ++ post)) → f k ≡ get_or (pre ++ (xs ++ post)) k d) → rows_from f (length pre) (length xs) ≡ xs
  rows-within h =
      rows_are f d (length pre) xs
      (λ k l. h (length pre + k) (simp length-append (omega arith)) ∙ get_or-append-add pre (xs ++ post) k d ∙ get_or-append xs post d k l)

-- the rows `of` one of a list of tables, x, between those of `pre` and `now`
module _ {A B : Type 0} (of : A → List B) where
  within : (f : ℕ → B) (d : B) (pre : List A) (x : A) (now all : List A) → pre ++ x ∷ now ≡ all → ((k : ℕ) → k < length (concat_map of all) → f k ≡ get_or (concat_map of all) k d)
      → rows_from f (length (concat_map of pre)) (length (of x)) ≡ of x
  unfolding concat_map
  within f d pre x now all e h = rows-within f d (concat_map of pre) (of x) (concat_map of now) (rw (← e, concat_map-append) at h)

  pub more : (pre : List A) (x : A) → length (concat_map of (pre ++ (x ∷ []))) ≡ length (concat_map of pre) + length (of x)
  unfolding concat_map
  more pre x = rw (concat_map-append of pre (x ∷ []), length-append (concat_map of pre) (of x ++ [])) (omega (arith, length-append (of x) []))

one_more : {A : Type 0} (pre : List A) (x : A) → length (pre ++ (x ∷ [])) ≡ length pre + 1
one_more pre x = length-append pre (x ∷ [])

-- ---- trees

module _ (t : LentTrees) (ts : List Tree) where
  l0-is : (k : ℕ) → k < length (l0_of ts) → l0_at (lay_trees t ts) k ≡ get_or (l0_of ts) k (l0_at t 0)
  unfolding lay_trees laid_with
  l0-is k h =
      l0-eq
      (ulid l0_words 4 (λ v. refl) (l0_of ts) _ (l0_at t 0) k h (4 * k) 0 (lit< tt) (omega arith))
      (ulid l0_words 4 (λ v. refl) (l0_of ts) _ (l0_at t 0) k h (4 * k + 2) 2 (lit< tt) refl)
      (column-at (λ (v : L0Row). v.size) (l0_of ts) _ (l0_at t 0) k h)

  run_is : (k : ℕ) → k < length (runs_of ts) → run_at (lay_trees t ts) k ≡ get_or (runs_of ts) k (run_at t 0)
  unfolding lay_trees laid_with
  run_is k h =
      run-eq
      (column-at (λ (r : Run). r.id) (runs_of ts) _ (run_at t 0) k h)
      (column-at (λ (r : Run). r.size) (runs_of ts) _ (run_at t 0) k h)

  -- a tree, for want of one
  abbrev no_tree : Tree
  no_tree = record { prefix = 0; watermark = watermark_at t 0; l0 = []; runs = [] }

  prefix-is : (k : ℕ) → k < length ts → get_or (lay_trees t ts).trees (3 * k) 0 ≡ (get_or ts k no_tree).prefix
  unfolding lay_trees laid_with
  prefix-is k h = number tree_words 3 (λ x. refl) ts _ no_tree k h (3 * k) 0 (lit< tt) (omega arith)

  l0_count-is : (k : ℕ) → k < length ts → l0_count (lay_trees t ts) k ≡ length (get_or ts k no_tree).l0
  unfolding lay_trees laid_with
  l0_count-is k h = number tree_words 3 (λ x. refl) ts _ no_tree k h (3 * k + 1) 1 (lit< tt) refl

  run_count-is : (k : ℕ) → k < length ts → run_count (lay_trees t ts) k ≡ length (get_or ts k no_tree).runs
  unfolding lay_trees laid_with
  run_count-is k h = number tree_words 3 (λ x. refl) ts _ no_tree k h (3 * k + 2) 2 (lit< tt) refl

  watermark-is : (k : ℕ) → k < length ts → watermark_at (lay_trees t ts) k ≡ (get_or ts k no_tree).watermark
  unfolding lay_trees laid_with
  watermark-is k h =
      watermark-eq
      (number watermark_mark_words 2 (λ x. refl) ts _ no_tree k h (2 * k) 0 (lit< tt) (omega arith))
      (number watermark_mark_words 2 (λ x. refl) ts _ no_tree k h (2 * k + 1) 1 (lit< tt) refl)
      (ulid watermark_words 4 (λ x. refl) ts _ no_tree k h (4 * k) 0 (lit< tt) (omega arith))
      (ulid watermark_words 4 (λ x. refl) ts _ no_tree k h (4 * k + 2) 2 (lit< tt) refl)

  -- the trees `now` after the trees `pre`
  trees-from : (pre now : List Tree) → pre ++ now ≡ ts → trees_from (lay_trees t ts) (length pre) (length (l0_of pre)) (length (runs_of pre)) (length now) ≡ now
  unfolding trees_from
  trees-from pre [] e = refl
  trees-from pre (x ∷ now) e =
      let lt : length pre < length ts = omega (arith, simp length-append at (ap length e)) in
      let here : get_or ts (length pre) no_tree ≡ x = ap (λ (l : List Tree). get_or l (length pre) no_tree) (sym e) ∙ get_or-append_seam pre x now no_tree in
      let l0s : l0_count (lay_trees t ts) (length pre) ≡ length x.l0 = l0_count-is (length pre) lt ∙ ap (λ (y : Tree). length y.l0) here in
      let runs : run_count (lay_trees t ts) (length pre) ≡ length x.runs = run_count-is (length pre) lt ∙ ap (λ (y : Tree). length y.runs) here in
      rw (l0s, runs)
      (ap₂ ◌∷◌
      (tree-eq
      (prefix-is (length pre) lt ∙ ap (λ (y : Tree). y.prefix) here)
      (watermark-is (length pre) lt ∙ ap (λ (y : Tree). y.watermark) here)
      (within (λ (y : Tree). y.l0) (l0_at (lay_trees t ts)) (l0_at t 0) pre x now ts e l0-is)
      (within (λ (y : Tree). y.runs) (run_at (lay_trees t ts)) (run_at t 0) pre x now ts e run_is))
      (rw (one_more pre x, more (λ (y : Tree). y.l0) pre x, more (λ (y : Tree). y.runs) pre x) at (trees-from (pre ++ (x ∷ [])) now (append_assoc pre (x ∷ []) now ∙ e))))

  -- what was laid reads back
  pub trees-back : trees_of (lay_trees t ts) ≡ ts
  unfolding trees_of lay_trees concat_map
  trees-back = trees-from [] ts refl

-- ---- jobs

module _ (t : LentJobs) (js : List Job) where
  -- the readers of the laid slices
  abbrev source_in : LentJobs → ℕ → Source
  source_in j = source_at j.source_marks j.source_runs j.source_views

  source_is : (k : ℕ) → k < length (sources_of js) → source_in (lay_jobs t js) k ≡ get_or (sources_of js) k (source_in t 0)
  unfolding lay_jobs laid_with
  source_is k h =
      source-eq
      (column-at (λ (s : Source). s.mark) (sources_of js) _ (source_in t 0) k h)
      (column-at (λ (s : Source). s.run) (sources_of js) _ (source_in t 0) k h)
      (ulid (λ (s : Source). ulid_words s.view) 2 (λ s. refl) (sources_of js) _ (source_in t 0) k h (2 * k) 0 (lit< tt) (omega arith))

  -- a job, for want of one
  abbrev no_job : Job
  no_job = record { id = ulid_at [] 0; status = 0; drain = 0; prefix = 0; destination = 0; sources = [] }

  id-is : (k : ℕ) → k < length js → ulid_at (lay_jobs t js).job_ids (2 * k) ≡ (get_or js k no_job).id
  unfolding lay_jobs laid_with
  id-is k h = ulid (λ (j : Job). ulid_words j.id) 2 (λ j. refl) js _ no_job k h (2 * k) 0 (lit< tt) (omega arith)

  status-is : (k : ℕ) → k < length js → get_or (lay_jobs t js).job_marks (2 * k) 0 ≡ (get_or js k no_job).status
  unfolding lay_jobs laid_with
  status-is k h = number job_mark_words 2 (λ j. refl) js _ no_job k h (2 * k) 0 (lit< tt) (omega arith)

  drain-is : (k : ℕ) → k < length js → get_or (lay_jobs t js).job_marks (2 * k + 1) 0 ≡ (get_or js k no_job).drain
  unfolding lay_jobs laid_with
  drain-is k h = number job_mark_words 2 (λ j. refl) js _ no_job k h (2 * k + 1) 1 (lit< tt) refl

  job-prefix-is : (k : ℕ) → k < length js → get_or (lay_jobs t js).job_specs (3 * k) 0 ≡ (get_or js k no_job).prefix
  unfolding lay_jobs laid_with
  job-prefix-is k h = number job_spec_words 3 (λ j. refl) js _ no_job k h (3 * k) 0 (lit< tt) (omega arith)

  destination-is : (k : ℕ) → k < length js → get_or (lay_jobs t js).job_specs (3 * k + 1) 0 ≡ (get_or js k no_job).destination
  unfolding lay_jobs laid_with
  destination-is k h = number job_spec_words 3 (λ j. refl) js _ no_job k h (3 * k + 1) 1 (lit< tt) refl

  source_count-is : (k : ℕ) → k < length js → source_count (lay_jobs t js) k ≡ length (get_or js k no_job).sources
  unfolding lay_jobs laid_with
  source_count-is k h = number job_spec_words 3 (λ j. refl) js _ no_job k h (3 * k + 2) 2 (lit< tt) refl

  -- the jobs `now` after the jobs `pre`
  jobs-from : (pre now : List Job) → pre ++ now ≡ js → jobs_from (lay_jobs t js) (length pre) (length (sources_of pre)) (length now) ≡ now
  unfolding jobs_from
  jobs-from pre [] e = refl
  jobs-from pre (x ∷ now) e =
      let lt : length pre < length js = omega (arith, simp length-append at (ap length e)) in
      let here : get_or js (length pre) no_job ≡ x = ap (λ (l : List Job). get_or l (length pre) no_job) (sym e) ∙ get_or-append_seam pre x now no_job in
      let entries : source_count (lay_jobs t js) (length pre) ≡ length x.sources = source_count-is (length pre) lt ∙ ap (λ (y : Job). length y.sources) here in
      rw entries
      (ap₂ ◌∷◌
      (job-eq
      (id-is (length pre) lt ∙ ap (λ (y : Job). y.id) here)
      (status-is (length pre) lt ∙ ap (λ (y : Job). y.status) here)
      (drain-is (length pre) lt ∙ ap (λ (y : Job). y.drain) here)
      (job-prefix-is (length pre) lt ∙ ap (λ (y : Job). y.prefix) here)
      (destination-is (length pre) lt ∙ ap (λ (y : Job). y.destination) here)
      (within (λ (y : Job). y.sources) (source_in (lay_jobs t js)) (source_in t 0) pre x now js e source_is))
      (rw (one_more pre x, more (λ (y : Job). y.sources) pre x) at (jobs-from (pre ++ (x ∷ [])) now (append_assoc pre (x ∷ []) now ∙ e))))

  -- what was laid reads back
  pub jobs-back : jobs_of (lay_jobs t js) ≡ js
  unfolding jobs_of lay_jobs concat_map
  jobs-back = jobs-from [] js refl

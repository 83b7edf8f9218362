-- The tables that finish and drain leave, the next call takes: their slices keep their lengths, their rows fit, and they keep
-- refusal 2's rules.
use Prim.Native.Nat.{ℕ, ◌*◌, ◌≤◌, ◌<◌}
use mathlib.Core.Path.{◌≡◌, refl, sym, ap, ap₂, ◌∙◌, subst}
use mathlib.Core.List.{List, [], ◌∷◌}
use mathlib.Core.Bool.{Bool, true, false, cond, ◌&&◌, ◌||◌}
use mathlib.Core.Option.{Option, some, none}
use native.Mathlib.Omega.{arith}
use lib.Dec.{eqb, leb}
use lib.ListN.{length, length-map}
use borrow.Author.Tests.{eq-eqb, ne_eqb, eqb-true, le-leb, le-ltb, ltb-false}
use Rattle.rules.specs.Lists.{all, ◌given◌else◌}
use Rattle.rules.specs.declared.tables.Ulid.{Ulid}
use Rattle.rules.specs.declared.tables.Run.{Run}
use Rattle.rules.specs.Tables.{same_ulid, L0Row, Tree, Job, is_drain, with_status}
use Rattle.rules.specs.Lent.{LentTrees, LentJobs, trees_of, jobs_of, l0_used, runs_used, sources_used, tree_words, watermark_mark_words, watermark_words, l0_words, l0_of, runs_of, job_mark_words, lay_trees, lay_jobs}
use Rattle.rules.specs.Bounds.{max_trees, max_l0, max_runs, max_jobs, trees_outside, jobs_outside, trees_at_capacity, is_mark, good_sources, good_trees, good_job, trees_misshapen, jobs_misshapen, trees_refusal, jobs_refusal}
use Rattle.rules.specs.Validation.{tree_with, is_empty}
use Rattle.rules.specs.Jobs.{job_with}
use Rattle.rules.specs.Finish.{named, finish_tree, drain_tree, in_tree, set_status, misplaced, too_many_runs, finish_tree_refusal, finish_job_refusal, finish_refusal, drain_job_refusal, drain_refusal}
use Rattle.rules.specs.Calls.{FinishResult, marks_at, finished_in, finished_for, finish_by, finish_call, drain_call}
use Rattle.rules.proofs.Bounds.{TreesLent, TreesGood, trees-good, JobsGood, jobs-good, by-rules}
use Rattle.rules.proofs.Laid.{length-laid}
use Rattle.rules.proofs.Lookups.{and_left, and_right, or_left, or_right, found-has}
use Rattle.rules.proofs.Packed.{length-trees_of, length-l0, length_runs, length-jobs_of}
use Rattle.rules.proofs.ReadBack.{trees-back}
use Rattle.rules.proofs.Refusals.{passed, finish-there, drain-there}
use Rattle.rules.proofs.Rows.{length-words}
use Rattle.laws.specs.NothingLost.{with_marks}
use Rattle.laws.specs.NextCall.{NextTakes}
use Rattle.laws.proofs.JobIds.{below, Good, good-parts, parts-good, first_below, rest-good, cons-good, first_good}
use Rattle.laws.proofs.Ending.{marks-read, finished-stays, drained-stays}
use Rattle.laws.proofs.GoodTrees.{good-after}
use Rattle.laws.proofs.Sound.{drain-sound, finish-sound, finished-rows, drained-rows, drained-runs, all-le}
use Rattle.laws.proofs.NextCall.{taken}

-- ---- jobs, with one status changed
module _ (u : Ulid) (n : ℕ) where
  abbrev marked : Job → Job
  marked j = cond (same_ulid j.id u) (with_status n j) j

  -- a test that looks at no status
  marked_all : (p : Job → Bool) → ((j : Job) → p (with_status n j) ≡ p j) → (js : List Job) → all p js ≡ true
      → all p (set_status u n js) ≡ true
  unfolding all
  marked_all p same [] h = refl
  marked_all p same (j ∷ js) h =
      let was = and_left (p j) (all p js) h in
      let here : p (marked j) ≡ true = elim (same_ulid j.id u) as (λ c. p (cond c (with_status n j) j) ≡ true) [ true ↦ same j ∙ was | false ↦ was ] in
      ap₂ ◌&&◌ here (marked_all p same js (and_right (p j) (all p js) h))

  marked-job : n ≤ 5 → (j : Job) → good_job j ≡ true → good_job (marked j) ≡ true
  unfolding good_job
  marked-job h j g =
      elim (same_ulid j.id u) as (λ c. good_job (cond c (with_status n j) j) ≡ true) [
        | true ↦
            (let rest = and_left (leb j.status 5 && is_mark j.drain) (good_sources j.sources) g in
            rw (le-leb n 5 h, and_right (leb j.status 5) (is_mark j.drain) rest) (and_right (leb j.status 5 && is_mark j.drain) (good_sources j.sources) g))
        | false ↦ g
      ]

  marked-good : n ≤ 5 → (js : List Job) → Good js → Good (set_status u n js)
  marked-good h [] g = g
  marked-good h (j ∷ js) g =
      cons-good (marked j) (set_status u n js)
      (elim (same_ulid j.id u) as (λ c. all (below (cond c (with_status n j) j)) (set_status u n js) ≡ true)
      [ true ↦ marked_all (below j) (λ k. refl) js (first_below j js g) | false ↦ marked_all (below j) (λ k. refl) js (first_below j js g) ])
      (marked-job h j (first_good j js g))
      (marked-good h js (rest-good j js g))

  -- the lent jobs with these marks
  module _ (h : n ≤ 5) (j : LentJobs) (g : JobsGood j) where
    marks-length : length (marks_at n u j) ≡ 2 * max_jobs
    unfolding lay_jobs
    marks-length =
        let many = length-words job_mark_words 2 (λ x. refl) (set_status u n (jobs_of j)) in
        let same = length-map (jobs_of j) marked ∙ length-jobs_of j in
        length-laid (2 * j.count) _ j.job_marks (omega (arith, g.lent.job_marks, g.within.jobs)) (omega (arith, g.lent.job_marks, g.within.jobs)) ∙ g.lent.job_marks

    marks-taken : jobs_refusal (with_marks j (marks_at n u j)) ≡ 0
    unfolding sources_used
    marks-taken =
        let l = g.lent in
        taken (with_marks j (marks_at n u j)) g.within.jobs g.within.sources
        (record { job_ids = l.job_ids; job_marks = marks-length; job_specs = l.job_specs; source_marks = l.source_marks; source_runs = l.source_runs; source_views = l.source_views })
        (rw (marks-read u n j) (parts-good (set_status u n (jobs_of j)) (marked-good h (jobs_of j) (good-parts (jobs_of j) g.rules))))

-- ---- trees

-- a table by its parts
trees-taken : (t : LentTrees) → 0 < t.count → t.count ≤ max_trees → l0_used t ≤ max_l0 → runs_used t ≤ max_runs → TreesLent t
    → good_trees (trees_of t) ≡ true → trees_refusal t ≡ 0
unfolding trees_refusal trees_outside trees_misshapen trees_at_capacity
trees-taken t one few rows runs lent good =
    rw (ne_eqb t.count 0 (λ e. omega arith), le-ltb max_trees t.count few, le-ltb max_l0 (l0_used t) rows, le-ltb max_runs (runs_used t) runs, eq-eqb (length t.trees) (3 * max_trees) lent.trees, eq-eqb (length t.watermark_marks) (2 * max_trees) lent.watermark_marks, eq-eqb (length t.watermarks) (4 * max_trees) lent.watermarks, eq-eqb (length t.l0_ids) (4 * max_l0) lent.l0_ids, eq-eqb (length t.l0_sizes) max_l0 lent.l0_sizes, eq-eqb (length t.run_ids) max_runs lent.run_ids, eq-eqb (length t.run_sizes) max_runs lent.run_sizes, good)

module _ (t : LentTrees) (g : TreesGood t) (ts : List Tree) (same : length ts ≡ t.count) (rows : length (l0_of ts) ≤ max_l0) (runs : length (runs_of ts) ≤ max_runs) where
  laid-lent : TreesLent (lay_trees t ts)
  unfolding lay_trees
  laid-lent =
      let l = g.lent in
      let w = g.within in
      let trees = length-words tree_words 3 (λ x. refl) ts in
      let marks = length-words watermark_mark_words 2 (λ x. refl) ts in
      let watermarks = length-words watermark_words 4 (λ x. refl) ts in
      let ids = length-words l0_words 4 (λ v. refl) (l0_of ts) in
      let sizes = length-map (l0_of ts) (λ (v : L0Row). v.size) in
      let run = length-map (runs_of ts) (λ (r : Run). r.id) in
      let size = length-map (runs_of ts) (λ (r : Run). r.size) in
      record {
        trees = length-laid (3 * t.count) _ t.trees (omega (arith, l.trees, w.trees)) (omega (arith, l.trees, w.trees)) ∙ l.trees;
        watermark_marks = length-laid (2 * t.count) _ t.watermark_marks (omega (arith, l.watermark_marks, w.trees)) (omega (arith, l.watermark_marks, w.trees)) ∙ l.watermark_marks;
        watermarks = length-laid (4 * t.count) _ t.watermarks (omega (arith, l.watermarks, w.trees)) (omega (arith, l.watermarks, w.trees)) ∙ l.watermarks;
        l0_ids = length-laid (4 * l0_used t) _ t.l0_ids (omega (arith, l.l0_ids, w.l0)) (omega (arith, l.l0_ids)) ∙ l.l0_ids;
        l0_sizes = length-laid (l0_used t) _ t.l0_sizes (omega (arith, l.l0_sizes, w.l0)) (omega (arith, l.l0_sizes)) ∙ l.l0_sizes;
        run_ids = length-laid (runs_used t) _ t.run_ids (omega (arith, l.run_ids, w.runs)) (omega (arith, l.run_ids)) ∙ l.run_ids;
        run_sizes = length-laid (runs_used t) _ t.run_sizes (omega (arith, l.run_sizes, w.runs)) (omega (arith, l.run_sizes)) ∙ l.run_sizes;
      }

  laid-count : (lay_trees t ts).count ≡ length ts
  unfolding lay_trees
  laid-count = refl

  laid-taken : good_trees ts ≡ true → trees_refusal (lay_trees t ts) ≡ 0
  laid-taken good =
      let back = trees-back t ts in
      let w = g.within in
      trees-taken (lay_trees t ts) (omega (arith, laid-count, w.some)) (omega (arith, laid-count, w.trees))
      (omega (arith, rw back at (length-l0 (lay_trees t ts))))
      (omega (arith, rw back at (length_runs (lay_trees t ts))))
      laid-lent (rw back good)

-- ---- the calls

-- tables that are not refused 1 or 2, in a call of both
module _ (t : LentTrees) (j : LentJobs) (later : ℕ) where
  before : (1 given trees_outside t || jobs_outside j else 2 given trees_misshapen t || jobs_misshapen j else later) ≡ 0
      → TreesGood t × JobsGood j × (later ≡ 0)
  unfolding trees_refusal jobs_refusal
  before h =
      let h₁ = passed 0 (trees_outside t || jobs_outside j) _ h in
      let h₂ = passed 1 (trees_misshapen t || jobs_misshapen j) _ h₁.1 in (
        trees-good t (rw (or_left (trees_outside t) (jobs_outside j) h₁.0, or_left (trees_misshapen t) (jobs_misshapen j) h₂.0)),
        jobs-good j (rw (or_right (trees_outside t) (jobs_outside j) h₁.0, or_right (trees_misshapen t) (jobs_misshapen j) h₂.0)),
        h₂.1,
      )

-- trees that were not refused are not, left as they are
still-taken : {t : LentTrees} → TreesGood t → trees_refusal t ≡ 0
unfolding trees_refusal
still-taken g = rw (g.inside, g.shapely)

module _ (f : Job → Tree → Tree) (u : Ulid) (t : LentTrees) (j : LentJobs) (gj : JobsGood j) where
  -- where the changed trees are taken
  ended-next : (r : FinishResult) → r ≡ finished_for f u t j (job_with u (jobs_of j)) → (job_with u (jobs_of j) ≡ none → ⊥)
      → ((job : Job) (x : Tree) → job_with u (jobs_of j) ≡ some job → tree_with job.prefix (trees_of t) ≡ some x → trees_refusal (lay_trees t (in_tree x.prefix (f job) (trees_of t))) ≡ 0)
      → trees_refusal t ≡ 0 → NextTakes j r
  ended-next r is there changed unchanged = go (job_with u (jobs_of j)) refl
    where
      in-tree : (job : Job) → job_with u (jobs_of j) ≡ some job → (x : Option Tree) → tree_with job.prefix (trees_of t) ≡ x
          → r ≡ finished_in (f job) u t j x → NextTakes j r
      in-tree job e none k q = rw q (record { trees = unchanged; jobs = marks-taken u 5 (omega arith) j gj })
      in-tree job e (some x) k q = rw q (record { trees = changed job x e k; jobs = marks-taken u 4 (omega arith) j gj })

      go : (x : Option Job) → job_with u (jobs_of j) ≡ x → NextTakes j r
      go none e = absurd (there e)
      go (some job) e = in-tree job e (tree_with job.prefix (trees_of t)) refl (is ∙ ap (finished_for f u t j) e)

module _ (t : LentTrees) (j : LentJobs) (u : Ulid) where
  -- a list of as many trees
  as_many : (k : ℕ) (f : Tree → Tree) → length (in_tree k f (trees_of t)) ≡ t.count
  as_many k f = length-map (trees_of t) (λ x. cond (eqb x.prefix k) (f x) x) ∙ length-trees_of t

  -- the tree that was found has the prefix that was sought
  found_prefix : (k : ℕ) (x : Tree) → tree_with k (trees_of t) ≡ some x → x.prefix ≡ k
  found_prefix k x e = eqb-true x.prefix k (found-has (λ c. eqb c.prefix k) (trees_of t) x e)

  pub drain-next : drain_refusal t j u ≡ 0 → NextTakes j (drain_call t j u)
  unfolding drain_refusal drain_call
  drain-next h =
      let g = before t j (drain_job_refusal (job_with u (jobs_of j))) h in
      let rules = by-rules (trees_of t) g.0.rules in
      let w = g.0.within in
      ended-next drain_tree u t j g.1 (drain_call t j u) (ap (λ (n : ℕ). finish_by n drain_tree u t j) h) (drain-there t j u h)
      (λ job x e k.
      let ts = in_tree x.prefix (drain_tree job) (trees_of t) in
      laid-taken t g.0 ts (as_many x.prefix (drain_tree job))
      (omega (arith, all-le (λ (y : Tree). y.l0) x.prefix (drain_tree job) (drained-rows job) (trees_of t), length-l0 t, w.l0))
      (omega (arith, all-le (λ (y : Tree). y.runs) x.prefix (drain_tree job) (drained-runs job) (trees_of t), length_runs t, w.runs))
      (good-after x.prefix (drain_tree job) (drained-stays job) (trees_of t) rules (drain-sound (trees_of t) rules job x.prefix)))
      (still-taken g.0)

  -- a finish that found its tree is not refused 13 or 14
  finish-fits : (out : Run) (job : Job) (x : Tree) → finish_job_refusal out (trees_of t) (job_with u (jobs_of j)) ≡ 0
      → job_with u (jobs_of j) ≡ some job → tree_with job.prefix (trees_of t) ≡ some x
      → (misplaced job out (trees_of t) x ≡ false) × (too_many_runs job out (trees_of t) x ≡ false)
  unfolding finish_job_refusal finish_tree_refusal
  finish-fits out job x h e k =
      let own : finish_job_refusal out (trees_of t) (some job) ≡ 0 = sym (ap (finish_job_refusal out (trees_of t)) e) ∙ h in
      let tree = (passed 6 (is_empty (named job)) _ (passed 11 (is_drain job) _ own).1).1 in
      let h₁₃ = passed 12 (misplaced job out (trees_of t) x) _ (sym (ap (finish_tree_refusal job out (trees_of t)) k) ∙ tree) in
      (h₁₃.0, (passed 13 (too_many_runs job out (trees_of t) x) 0 h₁₃.1).0)

  -- so its runs fit
  runs_fit : (out : Run) (job : Job) (x : Tree) → too_many_runs job out (trees_of t) x ≡ false
      → length (runs_of (in_tree x.prefix (finish_tree job out) (trees_of t))) ≤ max_runs
  unfolding too_many_runs
  runs_fit out job x h = ltb-false max_runs _ h

  pub finish-next : (out : Run) → finish_refusal t j u out ≡ 0 → NextTakes j (finish_call t j u out)
  unfolding finish_refusal finish_call
  finish-next out h =
      let g = before t j (finish_job_refusal out (trees_of t) (job_with u (jobs_of j))) h in
      let rules = by-rules (trees_of t) g.0.rules in
      ended-next (λ job. finish_tree job out) u t j g.1 (finish_call t j u out) (ap (λ (n : ℕ). finish_by n (λ job. finish_tree job out) u t j) h) (finish-there t j u out h)
      (λ job x e k.
      let fits = finish-fits out job x g.2 e k in
      let same = found_prefix job.prefix x k in
      laid-taken t g.0 (in_tree x.prefix (finish_tree job out) (trees_of t)) (as_many x.prefix (finish_tree job out))
      (omega (arith, all-le (λ (y : Tree). y.l0) x.prefix (finish_tree job out) (finished-rows job out) (trees_of t), length-l0 t, g.0.within.l0))
      (runs_fit out job x fits.1)
      (subst (λ (n : ℕ). good_trees (in_tree n (finish_tree job out) (trees_of t)) ≡ true) (sym same)
      (good-after job.prefix (finish_tree job out) (finished-stays job out) (trees_of t) rules (finish-sound (trees_of t) rules job out x k fits.0))))
      (still-taken g.0)

-- "Rows stand packed from the front": the rows of all trees, and of all jobs, are the first rows of their slices, and the
-- sums of the counts are how many there are.
use Prim.Native.Nat.{ℕ, zero, suc, ◌+◌, ◌*◌, ◌<◌}
use mathlib.Core.Path.{◌≡◌, refl, sym, ap, ◌∙◌}
use mathlib.Core.List.{List, ◌∷◌, ◌++◌, map}
use mathlib.Core.Bool.{and_assoc}
use native.Mathlib.Nat.{le_of_suc-le-suc, not-suc-le-zero, zero-add, add-zero, add_assoc}
use native.Mathlib.Numerals.{one-add}
use native.Mathlib.Omega.{arith}
use lib.ListN.{length, get_or}
use Rattle.rules.specs.Lists.{all, concat_map, total}
use Rattle.rules.specs.declared.tables.Run.{Run}
use Rattle.rules.specs.declared.tables.Source.{Source}
use Rattle.rules.specs.Tables.{L0Row, Tree, Job}
use Rattle.rules.specs.Lent.{LentTrees, LentJobs, rows_from, tree_at, trees_from, trees_of, job_at, jobs_from, jobs_of, l0_at, run_at, source_at, l0_count, run_count, source_count, l0_used, runs_used, sources_used, l0_of, runs_of, sources_of}
use Rattle.rules.specs.Bounds.{is_mark, good_marks}
use Rattle.rules.proofs.Rows.{length-rows_from, rows_from-append}

module _ (t : LentTrees) where
  -- as many trees as the count says
  length-trees_from : (i l r n : ℕ) → length (trees_from t i l r n) ≡ n
  unfolding trees_from
  length-trees_from i l r zero = refl
  length-trees_from i l r (suc n) = ap suc (length-trees_from (i + 1) (l + l0_count t i) (r + run_count t i) n)

  pub length-trees_of : length (trees_of t) ≡ t.count
  unfolding trees_of
  length-trees_of = length-trees_from 0 0 0 t.count

  l0-packed : (i l r n : ℕ) → l0_of (trees_from t i l r n) ≡ rows_from (l0_at t) l (total (rows_from (l0_count t) i n))
  unfolding trees_from rows_from concat_map total
  l0-packed i l r zero = refl
  l0-packed i l r (suc n) =
      ap (λ (vs : List L0Row). rows_from (l0_at t) l (l0_count t i) ++ vs) (l0-packed (i + 1) (l + l0_count t i) (r + run_count t i) n)
      ∙ sym (rows_from-append (l0_at t) l (l0_count t i) (total (rows_from (l0_count t) (i + 1) n)))

  runs-packed : (i l r n : ℕ) → runs_of (trees_from t i l r n) ≡ rows_from (run_at t) r (total (rows_from (run_count t) i n))
  unfolding trees_from rows_from concat_map total
  runs-packed i l r zero = refl
  runs-packed i l r (suc n) =
      ap (λ (rs : List Run). rows_from (run_at t) r (run_count t i) ++ rs) (runs-packed (i + 1) (l + l0_count t i) (r + run_count t i) n)
      ∙ sym (rows_from-append (run_at t) r (run_count t i) (total (rows_from (run_count t) (i + 1) n)))

  pub l0-first : l0_of (trees_of t) ≡ rows_from (l0_at t) 0 (l0_used t)
  unfolding trees_of l0_used
  l0-first = l0-packed 0 0 0 t.count

  pub runs-first : runs_of (trees_of t) ≡ rows_from (run_at t) 0 (runs_used t)
  unfolding trees_of runs_used
  runs-first = runs-packed 0 0 0 t.count

  pub length-l0 : length (l0_of (trees_of t)) ≡ l0_used t
  length-l0 = ap length l0-first ∙ length-rows_from (l0_at t) 0 (l0_used t)

  pub length_runs : length (runs_of (trees_of t)) ≡ runs_used t
  length_runs = ap length runs-first ∙ length-rows_from (run_at t) 0 (runs_used t)

  -- tree i: its rows start after those of the trees before it
  tree-from : (i l r n k : ℕ) (d : Tree) → k < n → get_or (trees_from t i l r n) k d ≡ tree_at t (i + k) (l + total (rows_from (l0_count t) i k)) (r + total (rows_from (run_count t) i k))
  unfolding trees_from rows_from total
  tree-from i l r zero k d h = absurd (not-suc-le-zero h)
  tree-from i l r (suc n) zero d h = rw (add-zero, add-zero, add-zero)
  tree-from i l r (suc n) (suc k) d h =
      tree-from (i + 1) (l + l0_count t i) (r + run_count t i) n k d (le_of_suc-le-suc h)
      ∙ rw (add_assoc l, add_assoc r, add_assoc i, one-add)

  pub tree_is : (i : ℕ) (d : Tree) → i < t.count → get_or (trees_of t) i d ≡ tree_at t i (total (rows_from (l0_count t) 0 i)) (total (rows_from (run_count t) 0 i))
  unfolding trees_of
  tree_is i d h = rw (zero-add, zero-add, zero-add) at (tree-from 0 0 0 t.count i d h)

  -- the prefixes of the trees, and the marks of their watermarks
  pub prefixes : (i l r n : ℕ) → map (λ x. x.prefix) (trees_from t i l r n) ≡ rows_from (λ k. get_or t.trees (3 * k) 0) i n
  unfolding trees_from rows_from
  prefixes i l r zero = refl
  prefixes i l r (suc n) = ap (λ (ps : List ℕ). get_or t.trees (3 * i) 0 ∷ ps) (prefixes (i + 1) (l + l0_count t i) (r + run_count t i) n)

  pub marks : (i l r n : ℕ) → all good_marks (trees_from t i l r n) ≡ all is_mark (rows_from (λ k. get_or t.watermark_marks k 0) (2 * i) (2 * n))
  unfolding trees_from rows_from all
  marks i l r zero = refl
  marks i l r (suc n) =
      let two : 2 * suc n ≡ suc (suc (2 * n)) = omega arith in
      let next : 2 * (i + 1) ≡ 2 * i + 1 + 1 = omega arith in
      rw (two, ← next, marks (i + 1) (l + l0_count t i) (r + run_count t i) n) (and_assoc (is_mark (get_or t.watermark_marks (2 * i) 0)) (is_mark (get_or t.watermark_marks (2 * i + 1) 0)) _)

module _ (j : LentJobs) where
  abbrev source_in : ℕ → Source
  source_in = source_at j.source_marks j.source_runs j.source_views

  -- as many jobs as the count says
  length-jobs_from : (i s n : ℕ) → length (jobs_from j i s n) ≡ n
  unfolding jobs_from
  length-jobs_from i s zero = refl
  length-jobs_from i s (suc n) = ap suc (length-jobs_from (i + 1) (s + source_count j i) n)

  pub length-jobs_of : length (jobs_of j) ≡ j.count
  unfolding jobs_of
  length-jobs_of = length-jobs_from 0 0 j.count

  sources-packed : (i s n : ℕ) → sources_of (jobs_from j i s n) ≡ rows_from source_in s (total (rows_from (source_count j) i n))
  unfolding jobs_from rows_from concat_map total
  sources-packed i s zero = refl
  sources-packed i s (suc n) =
      ap (λ (ss : List Source). rows_from source_in s (source_count j i) ++ ss) (sources-packed (i + 1) (s + source_count j i) n)
      ∙ sym (rows_from-append source_in s (source_count j i) (total (rows_from (source_count j) (i + 1) n)))

  pub sources-first : sources_of (jobs_of j) ≡ rows_from source_in 0 (sources_used j)
  unfolding jobs_of sources_used
  sources-first = sources-packed 0 0 j.count

  -- job i: its source entries start after those of the jobs before it
  job-from : (i s n k : ℕ) (d : Job) → k < n → get_or (jobs_from j i s n) k d ≡ job_at j (i + k) (s + total (rows_from (source_count j) i k))
  unfolding jobs_from rows_from total
  job-from i s zero k d h = absurd (not-suc-le-zero h)
  job-from i s (suc n) zero d h = rw (add-zero, add-zero)
  job-from i s (suc n) (suc k) d h =
      job-from (i + 1) (s + source_count j i) n k d (le_of_suc-le-suc h) ∙ rw (add_assoc s, add_assoc i, one-add)

  pub job_is : (i : ℕ) (d : Job) → i < j.count → get_or (jobs_of j) i d ≡ job_at j i (total (rows_from (source_count j) 0 i))
  unfolding jobs_of
  job_is i d h = rw (zero-add, zero-add) at (job-from 0 0 j.count i d h)

  pub length-sources : length (sources_of (jobs_of j)) ≡ sources_used j
  length-sources = ap length sources-first ∙ length-rows_from source_in 0 (sources_used j)

-- What keep_rows and put_run ask for holds of a table that is not refused 1 or 2, and of one that is laid over it.
use Prim.Native.Nat.{ℕ, zero, suc, ◌+◌, ◌*◌, ◌≤◌, ◌<◌}
use mathlib.Core.Path.{◌≡◌, refl, sym, ap, ◌∙◌}
use mathlib.Core.List.{List, [], ◌∷◌, ◌++◌, map}
use mathlib.Core.Bool.{Bool, true, false, cond}
use native.Mathlib.Omega.{arith}
use lib.ListN.{length, get_or, take, drop, length-append, length-map, take-append-drop}
use Rattle.rules.specs.Lists.{keep, concat_map}
use Rattle.rules.specs.declared.tables.Run.{Run}
use Rattle.rules.specs.Tables.{Tree}
use Rattle.rules.specs.Lent.{LentTrees, trees_of, lay_trees, l0_used, runs_used, l0_of, runs_of, tree_words, watermark_mark_words, watermark_words, l0_words}
use Rattle.rules.specs.Bounds.{max_l0, max_runs}
use Rattle.rules.proofs.Rows.{length-words}
use Rattle.rules.proofs.Laid.{length-laid}
use Rattle.rules.proofs.Packed.{length-trees_of}
use Rattle.rules.proofs.ReadBack.{trees-back}
use Rattle.rules.proofs.Bounds.{TreesWithin, TreesLent}
use Rattle.tree_rows.specs.Change.{changed_at, put_run}
use Rattle.tree_rows.specs.Slices.{KeepRoom, PutRoom, runs_before}
use Rattle.tree_rows.proofs.Changes.{length-changed}
use Rattle.tree_rows.proofs.Standing.{runs-before, runs_of_lem}
use Rattle.tree_rows.proofs.Again.{laid-l0-used, laid-runs-used}

module _ (t : LentTrees) (within : TreesWithin t) (lent : TreesLent t) where
  -- for keep_rows: a flag for each row in use
  pub keep-room : {i : ℕ} → i < t.count → {l0_kept runs_kept : List ℕ} → l0_used t ≤ length l0_kept → runs_used t ≤ length runs_kept → KeepRoom t i l0_kept runs_kept
  keep-room h rows runs = record {
    few = within.trees;
    tree = h;
    trees = lent.trees;
    l0_ids = lent.l0_ids;
    l0_sizes = lent.l0_sizes;
    run_ids = lent.run_ids;
    run_sizes = lent.run_sizes;
    l0 = within.l0;
    runs = within.runs;
    l0_flags = rows;
    run_flags = runs;
  }

  -- for put_run: room for one run more, and a place after k runs of tree i
  pub put-room : {i at : ℕ} → i < t.count → (d : Tree) (k : ℕ) → at ≡ runs_before t.trees i + k → k ≤ length (get_or (trees_of t) i d).runs → runs_used t + 1 ≤ max_runs → PutRoom t i at
  put-room {i} h d k place low one = record {
    few = within.trees;
    tree = h;
    trees = lent.trees;
    run_ids = lent.run_ids;
    run_sizes = lent.run_sizes;
    runs = one;
    first = omega arith;
    last = omega (arith, runs_of_lem t i d h);
  }

  -- ---- a table that is laid over it, of as many trees and of rows within the bounds

  module _ (us : List Tree) (count : length us ≡ t.count) (rows : length (l0_of us) ≤ max_l0) (runs : length (runs_of us) ≤ max_runs) where
    pub laid-within : TreesWithin (lay_trees t us)
    unfolding lay_trees
    laid-within = record {
      some = rw count within.some;
      trees = rw count within.trees;
      l0 = rw (laid-l0-used t us) rows;
      runs = rw (laid-runs-used t us) runs;
    }

    pub laid-lent : TreesLent (lay_trees t us)
    unfolding lay_trees
    laid-lent = record {
      trees = length-laid (3 * t.count) (concat_map tree_words us) t.trees (omega (arith, within.trees, lent.trees)) (omega (arith, length-words tree_words 3 (λ x. refl) us, within.trees, lent.trees)) ∙ lent.trees;
      watermark_marks = length-laid (2 * t.count) (concat_map watermark_mark_words us) t.watermark_marks (omega (arith, within.trees, lent.watermark_marks)) (omega (arith, length-words watermark_mark_words 2 (λ x. refl) us, within.trees, lent.watermark_marks)) ∙ lent.watermark_marks;
      watermarks = length-laid (4 * t.count) (concat_map watermark_words us) t.watermarks (omega (arith, within.trees, lent.watermarks)) (omega (arith, length-words watermark_words 4 (λ x. refl) us, within.trees, lent.watermarks)) ∙ lent.watermarks;
      l0_ids = length-laid (4 * l0_used t) (concat_map l0_words (l0_of us)) t.l0_ids (omega (arith, within.l0, lent.l0_ids)) (omega (arith, length-words l0_words 4 (λ v. refl) (l0_of us), lent.l0_ids)) ∙ lent.l0_ids;
      l0_sizes = length-laid (l0_used t) (map (λ v. v.size) (l0_of us)) t.l0_sizes (omega (arith, within.l0, lent.l0_sizes)) (omega (arith, length-map (l0_of us) (λ v. v.size), lent.l0_sizes)) ∙ lent.l0_sizes;
      run_ids = length-laid (runs_used t) (map (λ r. r.id) (runs_of us)) t.run_ids (omega (arith, within.runs, lent.run_ids)) (omega (arith, length-map (runs_of us) (λ r. r.id), lent.run_ids)) ∙ lent.run_ids;
      run_sizes = length-laid (runs_used t) (map (λ r. r.size) (runs_of us)) t.run_sizes (omega (arith, within.runs, lent.run_sizes)) (omega (arith, length-map (runs_of us) (λ r. r.size), lent.run_sizes)) ∙ lent.run_sizes;
    }

-- ---- how many rows a change leaves

-- no tree has more than it had: nor have all
pub changed-fewer : {B : Type 0} (of : Tree → List B) (f : Tree → Tree) → ((x : Tree) → length (of (f x)) ≤ length (of x)) → (i : ℕ) (ts : List Tree) → length (concat_map of (changed_at i f ts)) ≤ length (concat_map of ts)
unfolding changed_at concat_map
changed-fewer of f h i [] = omega arith
changed-fewer of f h zero (t ∷ ts) = omega (arith, h t, length-append (of (f t)) (concat_map of ts), length-append (of t) (concat_map of ts))
changed-fewer of f h (suc i) (t ∷ ts) = omega (arith, changed-fewer of f h i ts, length-append (of t) (concat_map of (changed_at i f ts)), length-append (of t) (concat_map of ts))

-- rows that stay are no more than there were
pub keep-fewer : {A : Type 0} (p : A → Bool) (xs : List A) → length (keep p xs) ≤ length xs
unfolding keep
keep-fewer p [] = omega arith
keep-fewer {A} p (x ∷ xs) = go (p x) (keep-fewer p xs)
  where
    go : (b : Bool) → length (keep p xs) ≤ length xs → length (cond b (x ∷ keep p xs) (keep p xs)) ≤ suc (length xs)
    go true h = omega arith
    go false h = omega arith

-- a run put in is one run more
pub put-more : (i k : ℕ) (out : Run) (ts : List Tree) → i < length ts → length (runs_of (changed_at i (put_run k out) ts)) ≡ length (runs_of ts) + 1
unfolding changed_at concat_map
put-more i k out [] h = absurd (omega arith)
put-more zero k out (t ∷ ts) h =
    omega (
      arith,
      length-append (take k t.runs ++ (out ∷ drop k t.runs)) (runs_of ts),
      length-append (take k t.runs) (out ∷ drop k t.runs),
      length-append t.runs (runs_of ts),
      length-append (take k t.runs) (drop k t.runs),
      ap length (take-append-drop k t.runs),
    )
put-more (suc i) k out (t ∷ ts) h = omega (arith, put-more i k out ts (omega arith), length-append t.runs (runs_of (changed_at i (put_run k out) ts)), length-append t.runs (runs_of ts))

-- ---- where the runs of tree i begin: where they began, whatever was done to it

take-changed : (i : ℕ) (f : Tree → Tree) (ts : List Tree) → take i (changed_at i f ts) ≡ take i ts
unfolding changed_at
take-changed zero f ts = refl
take-changed (suc i) f [] = refl
take-changed (suc i) f (t ∷ ts) = ap (λ (r : List Tree). t ∷ r) (take-changed i f ts)

pub first-run-stays : (t : LentTrees) (i : ℕ) (f : Tree → Tree) → i ≤ t.count → runs_before (lay_trees t (changed_at i f (trees_of t))).trees i ≡ runs_before t.trees i
unfolding lay_trees
first-run-stays t i f h =
    sym (runs-before (lay_trees t (changed_at i f (trees_of t))) i (omega (arith, length-changed i f (trees_of t), length-trees_of t)))
    ∙ ap (λ (ts : List Tree). length (runs_of (take i ts))) (trees-back t (changed_at i f (trees_of t)))
    ∙ ap (λ (ts : List Tree). length (runs_of ts)) (take-changed i f (trees_of t))
    ∙ runs-before t i h

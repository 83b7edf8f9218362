-- The rows of a table as they stand in its slices: laid again they are what stood there, so that a slice whose rows a change
-- leaves alone stays as it was.
use Prim.Native.Nat.{ℕ, zero, suc, ◌+◌, ◌*◌, ◌≤◌, ◌<◌}
use mathlib.Core.Path.{◌≡◌, refl, sym, ap, ◌∙◌}
use mathlib.Core.List.{List, [], ◌∷◌, map}
use native.Mathlib.Nat.{le_of_suc-le-suc, not-suc-le-zero, mul-zero, mul-suc, mul-add}
use native.Mathlib.Omega.{arith}
use lib.ListN.{length, get_or, take, drop, length-append}
use lib.Seq.{drop-drop, take-add}
use Rattle.rules.specs.Lists.{concat_map, total}
use Rattle.rules.specs.declared.tables.Run.{Run}
use Rattle.rules.specs.Tables.{L0Row, Tree}
use Rattle.rules.specs.Lent.{LentTrees, rows_from, l0_at, run_at, tree_at, trees_from, trees_of, l0_count, run_count, l0_used, runs_used, tree_words, watermark_mark_words, watermark_words, l0_words, l0_of, runs_of}
use Rattle.rules.proofs.Rows.{length-rows_from, part-is, map-rows_from, words-of-rows}
use Rattle.rules.proofs.Packed.{l0-first, runs-first, tree_is}

-- ---- numbers that stand one after the other

two : (s : List ℕ) (a : ℕ) → a + 2 ≤ length s → get_or s a 0 ∷ get_or s (a + 1) 0 ∷ [] ≡ take 2 (drop a s)
unfolding rows_from
two s a h = part-is s a 2 h

three : (s : List ℕ) (a : ℕ) → a + 3 ≤ length s → get_or s a 0 ∷ get_or s (a + 1) 0 ∷ get_or s (a + 2) 0 ∷ [] ≡ take 3 (drop a s)
unfolding rows_from
three s a h =
    let e : a + 1 + 1 ≡ a + 2 = omega arith in
    rw e at (part-is s a 3 h)

-- two ULIDs
four : (s : List ℕ) (a : ℕ) → a + 4 ≤ length s → get_or s a 0 ∷ get_or s (a + 1) 0 ∷ get_or s (a + 2) 0 ∷ get_or s (a + 2 + 1) 0 ∷ [] ≡ take 4 (drop a s)
unfolding rows_from
four s a h =
    let e : a + 1 + 1 ≡ a + 2 = omega arith in
    rw e at (part-is s a 4 h)

-- ---- the rows of all trees

module _ (t : LentTrees) where
  -- rows of trees, w numbers to a row
  words-stand : (words : Tree → List ℕ) (w : ℕ) (s : List ℕ) → ((i l r : ℕ) → w * i + w ≤ length s → words (tree_at t i l r) ≡ take w (drop (w * i) s))
      → (i l r n : ℕ) → w * (i + n) ≤ length s → concat_map words (trees_from t i l r n) ≡ take (w * n) (drop (w * i) s)
  unfolding concat_map trees_from
  words-stand words w s h i l r zero k = rw mul-zero
  words-stand words w s h i l r (suc n) k =
      let whole : w * (i + suc n) ≡ w * i + (w + w * n) = omega (arith, mul-add w i (suc n), mul-suc w n) in
      let next : w * (i + 1) ≡ w * i + w = omega (arith, mul-add w i 1) in
      let more : w * suc n ≡ w + w * n = omega (arith, mul-suc w n) in
      let later = words-stand words w s h (i + 1) (l + l0_count t i) (r + run_count t i) n (omega (arith, mul-add w (i + 1) n)) in
      rw (h i l r (omega arith), later, next, ← drop-drop w (w * i) s, more) (sym (take-add w (w * n) (drop (w * i) s)))

  pub trees-stand : 3 * t.count ≤ length t.trees → take (3 * t.count) t.trees ≡ concat_map tree_words (trees_of t)
  unfolding trees_of
  trees-stand h = sym (words-stand tree_words 3 t.trees words 0 0 0 t.count (omega arith))
    where
      words : (i l r : ℕ) → 3 * i + 3 ≤ length t.trees → tree_words (tree_at t i l r) ≡ take 3 (drop (3 * i) t.trees)
      words i l r k = rw (length-rows_from (l0_at t) l (l0_count t i), length-rows_from (run_at t) r (run_count t i)) (three t.trees (3 * i) k)

  pub marks-stand : 2 * t.count ≤ length t.watermark_marks → take (2 * t.count) t.watermark_marks ≡ concat_map watermark_mark_words (trees_of t)
  unfolding trees_of
  marks-stand h = sym (words-stand watermark_mark_words 2 t.watermark_marks (λ i l r k. two t.watermark_marks (2 * i) k) 0 0 0 t.count (omega arith))

  pub watermarks-stand : 4 * t.count ≤ length t.watermarks → take (4 * t.count) t.watermarks ≡ concat_map watermark_words (trees_of t)
  unfolding trees_of
  watermarks-stand h = sym (words-stand watermark_words 4 t.watermarks (λ i l r k. four t.watermarks (4 * i) k) 0 0 0 t.count (omega arith))

  pub l0-ids-stand : 4 * l0_used t ≤ length t.l0_ids → take (4 * l0_used t) t.l0_ids ≡ concat_map l0_words (l0_of (trees_of t))
  l0-ids-stand h =
      rw (l0-first t)
      (sym (words-of-rows l0_words 4 (λ v. refl) t.l0_ids (l0_at t) (λ i k. four t.l0_ids (4 * i) k) 0 (l0_used t) (omega arith)))

  pub l0-sizes-stand : l0_used t ≤ length t.l0_sizes → take (l0_used t) t.l0_sizes ≡ map (λ v. v.size) (l0_of (trees_of t))
  l0-sizes-stand h = sym (ap (map (λ (v : L0Row). v.size)) (l0-first t) ∙ map-rows_from (λ (v : L0Row). v.size) (l0_at t) 0 (l0_used t) ∙ part-is t.l0_sizes 0 (l0_used t) (omega arith))

  pub run-ids-stand : runs_used t ≤ length t.run_ids → take (runs_used t) t.run_ids ≡ map (λ r. r.id) (runs_of (trees_of t))
  run-ids-stand h = sym (ap (map (λ (r : Run). r.id)) (runs-first t) ∙ map-rows_from (λ (r : Run). r.id) (run_at t) 0 (runs_used t) ∙ part-is t.run_ids 0 (runs_used t) (omega arith))

  pub run-sizes-stand : runs_used t ≤ length t.run_sizes → take (runs_used t) t.run_sizes ≡ map (λ r. r.size) (runs_of (trees_of t))
  run-sizes-stand h = sym (ap (map (λ (r : Run). r.size)) (runs-first t) ∙ map-rows_from (λ (r : Run). r.size) (run_at t) 0 (runs_used t) ∙ part-is t.run_sizes 0 (runs_used t) (omega arith))

  -- ---- where the rows of tree i begin, and how many it has

  rows_taken : (i l r n k : ℕ) → k ≤ n → length (l0_of (take k (trees_from t i l r n))) ≡ total (rows_from (l0_count t) i k)
  unfolding concat_map trees_from rows_from total
  rows_taken i l r n zero h = refl
  rows_taken i l r zero (suc k) h = absurd (not-suc-le-zero h)
  rows_taken i l r (suc n) (suc k) h =
      omega (arith, length-append (rows_from (l0_at t) l (l0_count t i)) (l0_of (take k (trees_from t (i + 1) (l + l0_count t i) (r + run_count t i) n))), length-rows_from (l0_at t) l (l0_count t i), rows_taken (i + 1) (l + l0_count t i) (r + run_count t i) n k (le_of_suc-le-suc h))

  runs_taken : (i l r n k : ℕ) → k ≤ n → length (runs_of (take k (trees_from t i l r n))) ≡ total (rows_from (run_count t) i k)
  unfolding concat_map trees_from rows_from total
  runs_taken i l r n zero h = refl
  runs_taken i l r zero (suc k) h = absurd (not-suc-le-zero h)
  runs_taken i l r (suc n) (suc k) h =
      omega (arith, length-append (rows_from (run_at t) r (run_count t i)) (runs_of (take k (trees_from t (i + 1) (l + l0_count t i) (r + run_count t i) n))), length-rows_from (run_at t) r (run_count t i), runs_taken (i + 1) (l + l0_count t i) (r + run_count t i) n k (le_of_suc-le-suc h))

  pub rows_before_lem : (i : ℕ) → i ≤ t.count → length (l0_of (take i (trees_of t))) ≡ total (rows_from (l0_count t) 0 i)
  unfolding trees_of
  rows_before_lem i h = rows_taken 0 0 0 t.count i h

  pub runs-before : (i : ℕ) → i ≤ t.count → length (runs_of (take i (trees_of t))) ≡ total (rows_from (run_count t) 0 i)
  unfolding trees_of
  runs-before i h = runs_taken 0 0 0 t.count i h

  pub rows_of : (i : ℕ) (d : Tree) → i < t.count → length (get_or (trees_of t) i d).l0 ≡ l0_count t i
  rows_of i d h = ap (λ (x : Tree). length x.l0) (tree_is t i d h) ∙ length-rows_from (l0_at t) (total (rows_from (l0_count t) 0 i)) (l0_count t i)

  pub runs_of_lem : (i : ℕ) (d : Tree) → i < t.count → length (get_or (trees_of t) i d).runs ≡ run_count t i
  runs_of_lem i d h = ap (λ (x : Tree). length x.runs) (tree_is t i d h) ∙ length-rows_from (run_at t) (total (rows_from (run_count t) 0 i)) (run_count t i)

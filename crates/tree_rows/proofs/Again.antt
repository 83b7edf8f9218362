-- Trees laid over trees that were laid: finish and drain change a tree in steps, and the last step's trees are laid as if at
-- once.
use Prim.Native.Nat.{ℕ, ◌*◌, ◌≤◌, max}
use mathlib.Core.Path.{◌≡◌, refl, sym, ap, ◌∙◌}
use mathlib.Core.List.{List, map}
use native.Mathlib.Omega.{arith}
use lib.ListN.{length, length-map}
use Rattle.rules.specs.Lists.{concat_map}
use Rattle.rules.specs.Tables.{Tree}
use Rattle.rules.specs.Lent.{LentTrees, lent_trees, trees_of, lay_trees, laid, l0_used, runs_used, l0_of, runs_of, tree_words, watermark_mark_words, watermark_words, l0_words}
use Rattle.rules.proofs.Rows.{length-words}
use Rattle.rules.proofs.Packed.{length-trees_of, length-l0, length_runs}
use Rattle.rules.proofs.ReadBack.{trees-back}
use Rattle.rows.proofs.Laying.{laid-again}
use Rattle.tree_rows.specs.Change.{changed_at}
use Rattle.tree_rows.proofs.Changes.{changed-twice, length-changed}

-- two tables of the same slices
pub lent-eq : {n m : ℕ} {a b c d e f g a' b' c' d' e' f' g' : List ℕ} → n ≡ m → a ≡ a' → b ≡ b' → c ≡ c' → d ≡ d' → e ≡ e' → f ≡ f' → g ≡ g'
    → lent_trees n a b c d e f g ≡ lent_trees m a' b' c' d' e' f' g'
lent-eq p q r s t u v w = λ i. lent_trees (p i) (q i) (r i) (s i) (t i) (u i) (v i) (w i)

-- a laid table has as many rows in use as its trees have
module _ (t : LentTrees) (ts : List Tree) where
  pub laid-l0-used : l0_used (lay_trees t ts) ≡ length (l0_of ts)
  laid-l0-used = sym (length-l0 (lay_trees t ts)) ∙ ap (λ (us : List Tree). length (l0_of us)) (trees-back t ts)

  pub laid-runs-used : runs_used (lay_trees t ts) ≡ length (runs_of ts)
  laid-runs-used = sym (length_runs (lay_trees t ts)) ∙ ap (λ (us : List Tree). length (runs_of us)) (trees-back t ts)

again : (used m : ℕ) (new new' s : List ℕ) → m ≡ length new → length new ≤ max used (length new') → laid m new' (laid used new s) ≡ laid used new' s
again used m new new' s e h = rw e (laid-again 0 used new new' s h)

-- the trees us over the trees ts, where no slice held more than it did at first or holds at last
pub lay-again : (t : LentTrees) (ts us : List Tree) → length ts ≤ max t.count (length us) → length (l0_of ts) ≤ max (l0_used t) (length (l0_of us)) → length (runs_of ts) ≤ max (runs_used t) (length (runs_of us))
    → lay_trees (lay_trees t ts) us ≡ lay_trees t us
unfolding lay_trees
lay-again t ts us few rows runs =
    lent-eq refl
    (again (3 * t.count) (3 * length ts) (concat_map tree_words ts) (concat_map tree_words us) t.trees (sym (trees ts)) (omega (arith, trees ts, trees us)))
    (again (2 * t.count) (2 * length ts) (concat_map watermark_mark_words ts) (concat_map watermark_mark_words us) t.watermark_marks (sym (marks ts)) (omega (arith, marks ts, marks us)))
    (again (4 * t.count) (4 * length ts) (concat_map watermark_words ts) (concat_map watermark_words us) t.watermarks (sym (watermarks ts)) (omega (arith, watermarks ts, watermarks us)))
    (again (4 * l0_used t) (4 * l0_used (lay_trees t ts)) (concat_map l0_words (l0_of ts)) (concat_map l0_words (l0_of us)) t.l0_ids (omega (arith, laid-l0-used t ts, ids ts)) (omega (arith, ids ts, ids us)))
    (again (l0_used t) (l0_used (lay_trees t ts)) (map (λ v. v.size) (l0_of ts)) (map (λ v. v.size) (l0_of us)) t.l0_sizes (laid-l0-used t ts ∙ sym (length-map (l0_of ts) (λ v. v.size))) (omega (arith, length-map (l0_of ts) (λ v. v.size), length-map (l0_of us) (λ v. v.size))))
    (again (runs_used t) (runs_used (lay_trees t ts)) (map (λ r. r.id) (runs_of ts)) (map (λ r. r.id) (runs_of us)) t.run_ids (laid-runs-used t ts ∙ sym (length-map (runs_of ts) (λ r. r.id))) (omega (arith, length-map (runs_of ts) (λ r. r.id), length-map (runs_of us) (λ r. r.id))))
    (again (runs_used t) (runs_used (lay_trees t ts)) (map (λ r. r.size) (runs_of ts)) (map (λ r. r.size) (runs_of us)) t.run_sizes (laid-runs-used t ts ∙ sym (length-map (runs_of ts) (λ r. r.size))) (omega (arith, length-map (runs_of ts) (λ r. r.size), length-map (runs_of us) (λ r. r.size))))
  where
    trees : (xs : List Tree) → length (concat_map tree_words xs) ≡ 3 * length xs
    trees xs = length-words tree_words 3 (λ x. refl) xs

    marks : (xs : List Tree) → length (concat_map watermark_mark_words xs) ≡ 2 * length xs
    marks xs = length-words watermark_mark_words 2 (λ x. refl) xs

    watermarks : (xs : List Tree) → length (concat_map watermark_words xs) ≡ 4 * length xs
    watermarks xs = length-words watermark_words 4 (λ x. refl) xs

    ids : (xs : List Tree) → length (concat_map l0_words (l0_of xs)) ≡ 4 * length (l0_of xs)
    ids xs = length-words l0_words 4 (λ v. refl) (l0_of xs)

-- a change of tree i laid over another change of it is both changes laid at once
pub changed-again : (t : LentTrees) (i : ℕ) (f g : Tree → Tree)
    → length (l0_of (changed_at i f (trees_of t))) ≤ max (l0_used t) (length (l0_of (changed_at i (λ x. g (f x)) (trees_of t))))
    → length (runs_of (changed_at i f (trees_of t))) ≤ max (runs_used t) (length (runs_of (changed_at i (λ x. g (f x)) (trees_of t))))
    → lay_trees (lay_trees t (changed_at i f (trees_of t))) (changed_at i g (trees_of (lay_trees t (changed_at i f (trees_of t))))) ≡ lay_trees t (changed_at i (λ x. g (f x)) (trees_of t))
changed-again t i f g rows runs =
    let first = changed_at i f (trees_of t) in
    ap (λ (us : List Tree). lay_trees (lay_trees t first) us) (ap (changed_at i g) (trees-back t first) ∙ changed-twice i f g (trees_of t))
    ∙ lay-again t first (changed_at i (λ x. g (f x)) (trees_of t)) (omega (arith, length-changed i f (trees_of t), length-trees_of t)) rows runs

-- What finish and drain do to one tree of a table, step by step, and the flags that say which of its rows stay.
use Rattle.std.specs.Prelude.{ℕ, zero, suc, ◌≡◌, List, [], ◌∷◌, ◌++◌, map, Bool, true, take, drop}
use Rattle.rules.specs.Lists.{keep, concat_map}
use Rattle.rules.specs.declared.tables.Watermark.{Watermark}
use Rattle.rules.specs.declared.tables.Run.{Run}
use Rattle.rules.specs.Tables.{L0Row, Tree}
use Rattle.rules.specs.Lent.{LentTrees, trees_of, l0_used, runs_used}
use Rattle.rows.specs.Movers.{marked}

-- the tree at place i changed, the others as they stand
unfoldable pub changed_at : ℕ → (Tree → Tree) → List Tree → List Tree
changed_at i f [] = []
changed_at zero f (t ∷ ts) = f t ∷ ts
changed_at (suc i) f (t ∷ ts) = t ∷ changed_at i f ts

-- "remove source L0 rows, source runs and the destination run": the rows with p and the runs with q stay
abbrev pub keep_rows : (L0Row → Bool) → (Run → Bool) → Tree → Tree
keep_rows p q t = record { prefix = t.prefix; watermark = t.watermark; l0 = keep p t.l0; runs = keep q t.runs }

-- "put the output before the first old run whose id is not above it, else last": after k runs
abbrev pub put_run : ℕ → Run → Tree → Tree
put_run k out t = record {
  prefix = t.prefix;
  watermark = t.watermark;
  l0 = t.l0;
  runs = take k t.runs ++ (out ∷ drop k t.runs);
}

-- "the watermark takes it", "the watermark moves"
abbrev pub put_watermark : Watermark → Tree → Tree
put_watermark w t = record { prefix = t.prefix; watermark = w; l0 = t.l0; runs = t.runs }

-- ---- flags: one for each row in use, of all trees; a flag that is not 0 keeps its row

module _ {A : Type 0} (of : Tree → List A) where
  -- p of each row of tree i; every row of the other trees stays
  unfoldable pub kept_in : ℕ → (A → Bool) → List Tree → List Bool
  kept_in i p [] = []
  kept_in zero p (t ∷ ts) = map p (of t) ++ map (λ x. true) (concat_map of ts)
  kept_in (suc i) p (t ∷ ts) = map (λ x. true) (of t) ++ kept_in i p ts

-- the flags of the L0 rows say p of those of tree i
abbrev pub L0Flags : LentTrees → ℕ → (L0Row → Bool) → List ℕ → Type 0
L0Flags t i p flags = map marked (take (l0_used t) flags) ≡ kept_in (λ x. x.l0) i p (trees_of t)

-- the flags of the runs say q of those of tree i
abbrev pub RunFlags : LentTrees → ℕ → (Run → Bool) → List ℕ → Type 0
RunFlags t i q flags = map marked (take (runs_used t) flags) ≡ kept_in (λ x. x.runs) i q (trees_of t)

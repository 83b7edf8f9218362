-- The lent tables: how rows lie in the slices, and how they lie after a call. Rows of one width stand in one slice, row i
-- of width w from number i * w on.
use Rattle.std.specs.Prelude.{ℕ, zero, suc, ◌+◌, ◌-◌, ◌*◌, max, List, [], ◌∷◌, ◌++◌, map, length, get_or, drop, replicate}
use Rattle.rules.specs.Lists.{concat_map, total}
use Rattle.rules.specs.declared.tables.Ulid.{Ulid}
use Rattle.rules.specs.declared.tables.Watermark.{Watermark}
use Rattle.rules.specs.declared.tables.Run.{Run}
use Rattle.rules.specs.declared.tables.Source.{Source}
use Rattle.rules.specs.Tables.{L0Row, Tree, Job}

pub record LentTrees : Type 0 where
  pub count : ℕ
  pub trees : List ℕ
  pub watermark_marks : List ℕ
  pub watermarks : List ℕ
  pub l0_ids : List ℕ
  pub l0_sizes : List ℕ
  pub run_ids : List ℕ
  pub run_sizes : List ℕ

pub record LentJobs : Type 0 where
  pub count : ℕ
  pub job_ids : List ℕ
  pub job_marks : List ℕ
  pub job_specs : List ℕ
  pub source_marks : List ℕ
  pub source_runs : List ℕ
  pub source_views : List ℕ

-- the tables as a call is lent them, slice by slice
abbrev pub lent_trees : ℕ → List ℕ → List ℕ → List ℕ → List ℕ → List ℕ → List ℕ → List ℕ → LentTrees
lent_trees count trees watermark_marks watermarks l0_ids l0_sizes run_ids run_sizes = record {
  count = count;
  trees = trees;
  watermark_marks = watermark_marks;
  watermarks = watermarks;
  l0_ids = l0_ids;
  l0_sizes = l0_sizes;
  run_ids = run_ids;
  run_sizes = run_sizes;
}

abbrev pub lent_jobs : ℕ → List ℕ → List ℕ → List ℕ → List ℕ → List ℕ → List ℕ → LentJobs
lent_jobs count job_ids job_marks job_specs source_marks source_runs source_views = record {
  count = count;
  job_ids = job_ids;
  job_marks = job_marks;
  job_specs = job_specs;
  source_marks = source_marks;
  source_runs = source_runs;
  source_views = source_views;
}

-- ---- reading: "Rows stand packed from the front, those of trees in tree order, source entries in job order."

module _ {ℓ} {A : Type ℓ} where
  -- the n rows from row i on, as f reads them
  unfoldable pub rows_from : (ℕ → A) → ℕ → ℕ → List A
  rows_from f i zero = []
  rows_from f i (suc n) = f i ∷ rows_from f (i + 1) n

abbrev pub ulid_at : List ℕ → ℕ → Ulid
ulid_at s at = record { high = get_or s at 0; low = get_or s (at + 1) 0 }

abbrev pub l0_at : LentTrees → ℕ → L0Row
l0_at t i = record { view = ulid_at t.l0_ids (4 * i); sst = ulid_at t.l0_ids (4 * i + 2); size = get_or t.l0_sizes i 0 }

abbrev pub run_at : LentTrees → ℕ → Run
run_at t i = record { id = get_or t.run_ids i 0; size = get_or t.run_sizes i 0 }

abbrev pub watermark_at : LentTrees → ℕ → Watermark
watermark_at t i = record {
  view_mark = get_or t.watermark_marks (2 * i) 0;
  sst_mark = get_or t.watermark_marks (2 * i + 1) 0;
  view = ulid_at t.watermarks (4 * i);
  sst = ulid_at t.watermarks (4 * i + 2);
}

abbrev pub l0_count : LentTrees → ℕ → ℕ
l0_count t i = get_or t.trees (3 * i + 1) 0

abbrev pub run_count : LentTrees → ℕ → ℕ
run_count t i = get_or t.trees (3 * i + 2) 0

-- tree i, whose L0 rows begin at row l and whose runs at row r
abbrev pub tree_at : LentTrees → ℕ → ℕ → ℕ → Tree
tree_at t i l r = record {
  prefix = get_or t.trees (3 * i) 0;
  watermark = watermark_at t i;
  l0 = rows_from (l0_at t) l (l0_count t i);
  runs = rows_from (run_at t) r (run_count t i);
}

-- the n trees from tree i on
unfoldable pub trees_from : LentTrees → ℕ → ℕ → ℕ → ℕ → List Tree
trees_from t i l r zero = []
trees_from t i l r (suc n) = tree_at t i l r ∷ trees_from t (i + 1) (l + l0_count t i) (r + run_count t i) n

unfoldable pub trees_of : LentTrees → List Tree
trees_of t = trees_from t 0 0 0 t.count

-- a source entry: of jobs, or of one spec or job that is lent by itself
abbrev pub source_at : List ℕ → List ℕ → List ℕ → ℕ → Source
source_at marks runs views i = record { mark = get_or marks i 0; run = get_or runs i 0; view = ulid_at views (2 * i) }

abbrev pub source_count : LentJobs → ℕ → ℕ
source_count j i = get_or j.job_specs (3 * i + 2) 0

-- job i, whose source entries begin at row s
abbrev pub job_at : LentJobs → ℕ → ℕ → Job
job_at j i s = record {
  id = ulid_at j.job_ids (2 * i);
  status = get_or j.job_marks (2 * i) 0;
  drain = get_or j.job_marks (2 * i + 1) 0;
  prefix = get_or j.job_specs (3 * i) 0;
  destination = get_or j.job_specs (3 * i + 1) 0;
  sources = rows_from (source_at j.source_marks j.source_runs j.source_views) s (source_count j i);
}

-- the n jobs from job i on
unfoldable pub jobs_from : LentJobs → ℕ → ℕ → ℕ → List Job
jobs_from j i s zero = []
jobs_from j i s (suc n) = job_at j i s ∷ jobs_from j (i + 1) (s + source_count j i) n

unfoldable pub jobs_of : LentJobs → List Job
jobs_of j = jobs_from j 0 0 j.count

-- how many rows are in use: the sum of the counts
unfoldable pub l0_used : LentTrees → ℕ
l0_used t = total (rows_from (l0_count t) 0 t.count)

unfoldable pub runs_used : LentTrees → ℕ
runs_used t = total (rows_from (run_count t) 0 t.count)

unfoldable pub sources_used : LentJobs → ℕ
sources_used j = total (rows_from (source_count j) 0 j.count)

-- ---- laying

module _ {A : Type 0} where
  -- the numbers `new` at the front of a slice of which `used` numbers were in use: "Places that a call frees hold zeros;
  -- other unused places keep their bytes."
  unfoldable pub laid_with : A → ℕ → List A → List A → List A
  laid_with z used new s = new ++ (replicate (used - length new) z ++ drop (max used (length new)) s)

-- so laid, of plain numbers
abbrev pub laid : ℕ → List ℕ → List ℕ → List ℕ
laid = laid_with 0

abbrev pub ulid_words : Ulid → List ℕ
ulid_words u = u.high ∷ u.low ∷ []

abbrev pub tree_words : Tree → List ℕ
tree_words t = t.prefix ∷ length t.l0 ∷ length t.runs ∷ []

abbrev pub watermark_mark_words : Tree → List ℕ
watermark_mark_words t = t.watermark.view_mark ∷ t.watermark.sst_mark ∷ []

abbrev pub watermark_words : Tree → List ℕ
watermark_words t = ulid_words t.watermark.view ++ ulid_words t.watermark.sst

abbrev pub l0_words : L0Row → List ℕ
l0_words v = ulid_words v.view ++ ulid_words v.sst

-- the rows of all trees, in tree order
abbrev pub l0_of : List Tree → List L0Row
l0_of ts = concat_map (λ t. t.l0) ts

abbrev pub runs_of : List Tree → List Run
runs_of ts = concat_map (λ t. t.runs) ts

-- the slices with these trees in place of those that were in use
unfoldable pub lay_trees : LentTrees → List Tree → LentTrees
lay_trees t ts = record {
  count = length ts;
  trees = laid (3 * t.count) (concat_map tree_words ts) t.trees;
  watermark_marks = laid (2 * t.count) (concat_map watermark_mark_words ts) t.watermark_marks;
  watermarks = laid (4 * t.count) (concat_map watermark_words ts) t.watermarks;
  l0_ids = laid (4 * l0_used t) (concat_map l0_words (l0_of ts)) t.l0_ids;
  l0_sizes = laid (l0_used t) (map (λ v. v.size) (l0_of ts)) t.l0_sizes;
  run_ids = laid (runs_used t) (map (λ r. r.id) (runs_of ts)) t.run_ids;
  run_sizes = laid (runs_used t) (map (λ r. r.size) (runs_of ts)) t.run_sizes;
}

abbrev pub job_mark_words : Job → List ℕ
job_mark_words j = j.status ∷ j.drain ∷ []

abbrev pub job_spec_words : Job → List ℕ
job_spec_words j = j.prefix ∷ j.destination ∷ length j.sources ∷ []

-- the source entries of all jobs, in job order
abbrev pub sources_of : List Job → List Source
sources_of js = concat_map (λ j. j.sources) js

-- the slices with these jobs in place of those that were in use
unfoldable pub lay_jobs : LentJobs → List Job → LentJobs
lay_jobs j js = record {
  count = length js;
  job_ids = laid (2 * j.count) (concat_map (λ x. ulid_words x.id) js) j.job_ids;
  job_marks = laid (2 * j.count) (concat_map job_mark_words js) j.job_marks;
  job_specs = laid (3 * j.count) (concat_map job_spec_words js) j.job_specs;
  source_marks = laid (sources_used j) (map (λ s. s.mark) (sources_of js)) j.source_marks;
  source_runs = laid (sources_used j) (map (λ s. s.run) (sources_of js)) j.source_runs;
  source_views = laid (2 * sources_used j) (concat_map (λ s. ulid_words s.view) (sources_of js)) j.source_views;
}

-- Finishing and draining, of jobs of "any status": "Jobs" of document 01, last paragraph, and refusals 7 and 11 to 14.
use Rattle.std.specs.Prelude.{ℕ, List, [], ◌∷◌, ◌++◌, map, Bool, cond, ◌&&◌, ◌||◌, not, eqb, ltb, length, take, drop}
use Rattle.std.proofs.Math.Option.{Option, some, none}
use Rattle.rules.specs.Lists.{any, keep, first_with, leading, ◌given◌else◌}
use Rattle.rules.specs.declared.tables.Ulid.{Ulid}
use Rattle.rules.specs.declared.tables.Watermark.{Watermark}
use Rattle.rules.specs.declared.tables.Run.{Run}
use Rattle.rules.specs.declared.tables.SourceId.{SourceId}
use Rattle.rules.specs.declared.tables.SourceId.TheVariants.{SortedRun, SstView}
use Rattle.rules.specs.Tables.{same_ulid, L0Row, Tree, Job, among, id_of, run_id, view_id, is_drain, with_status}
use Rattle.rules.specs.Lent.{LentTrees, LentJobs, trees_of, jobs_of, runs_of}
use Rattle.rules.specs.Bounds.{max_runs, trees_outside, jobs_outside, trees_misshapen, jobs_misshapen, falling_ids}
use Rattle.rules.specs.Validation.{tree_with, is_empty}
use Rattle.rules.specs.Jobs.{job_with}

-- what a job's sources name
abbrev pub named : Job → List SourceId
named j = map id_of j.sources

-- "remove source L0 rows"
abbrev pub rows_left : List SourceId → List L0Row → List L0Row
rows_left gone vs = keep (λ v. not (among (view_id v) gone)) vs

abbrev pub runs_left : List SourceId → List Run → List Run
runs_left gone rs = keep (λ r. not (among (run_id r) gone)) rs

-- "put the output before the first old run whose id is not above it, else last": after so many old runs
abbrev pub output_place : Run → List Run → ℕ
output_place out rs = leading (λ r. ltb out.id r.id) rs

-- "remove .. source runs and the destination run; put the output .."
unfoldable pub with_output : Run → List SourceId → List Run → List Run
with_output out gone rs =
    let at = output_place out rs in
    runs_left gone (take at rs) ++ (out ∷ runs_left gone (drop at rs))

-- the row of a view
abbrev pub row_of_view : Ulid → List L0Row → Option L0Row
row_of_view u vs = first_with (λ v. same_ulid v.view u) vs

-- "an absent field that a call writes holds zeros"
abbrev pub absent : Ulid
absent = record { high = 0; low = 0 }

-- a watermark at a view, "and its SST id if the view is still there, else absent"
abbrev pub mark_at : Ulid → Option L0Row → Watermark
mark_at u none = record { view_mark = 1; sst_mark = 0; view = u; sst = absent }
mark_at u (some v) = record { view_mark = 1; sst_mark = 1; view = u; sst = v.sst }

-- "If the first source is an L0 view, the watermark takes it"
abbrev pub finish_mark : List SourceId → Tree → Watermark
finish_mark [] t = t.watermark
finish_mark (SortedRun r ∷ xs) t = t.watermark
finish_mark (SstView u ∷ xs) t = mark_at u (row_of_view u t.l0)

-- the tree after a finish
unfoldable pub finish_tree : Job → Run → Tree → Tree
finish_tree j out t = record {
  prefix = t.prefix;
  watermark = finish_mark (named j) t;
  l0 = rows_left (named j) t.l0;
  runs = with_output out (named j ++ (SortedRun j.destination ∷ [])) t.runs;
}

-- "the watermark moves to the first L0 row in table order that is a source, if any": the rows that are sources
abbrev pub drain_mark : List L0Row → Tree → Watermark
drain_mark [] t = t.watermark
drain_mark (v ∷ vs) t = mark_at v.view (some v)

-- the tree after a drain: "source rows go", L0 rows and runs
unfoldable pub drain_tree : Job → Tree → Tree
drain_tree j t = record {
  prefix = t.prefix;
  watermark = drain_mark (keep (λ v. among (view_id v) (named j)) t.l0) t;
  l0 = rows_left (named j) t.l0;
  runs = runs_left (named j) t.runs;
}

-- the tree of this prefix changed, the others as they stand
abbrev pub in_tree : ℕ → (Tree → Tree) → List Tree → List Tree
in_tree prefix f ts = map (λ t. cond (eqb t.prefix prefix) (f t) t) ts

-- the job of this id at another status, the others as they stand
abbrev pub set_status : Ulid → ℕ → List Job → List Job
set_status u n js = map (λ j. cond (same_ulid j.id u) (with_status n j) j) js

-- ---- refusals

-- 13: "finish would leave run ids not strictly falling in the tree, or the output's number is a run of another tree"
unfoldable pub misplaced : Job → Run → List Tree → Tree → Bool
misplaced j out ts t =
    not (falling_ids (finish_tree j out t).runs)
    || any (λ x. not (eqb x.prefix t.prefix) && any (λ r. eqb r.id out.id) x.runs) ts

-- 14: "the result exceeds .. 512 runs"
unfoldable pub too_many_runs : Job → Run → List Tree → Tree → Bool
too_many_runs j out ts t = ltb max_runs (length (runs_of (in_tree t.prefix (finish_tree j out) ts)))

-- "missing segment, 13, 14": a missing segment is no refusal
unfoldable pub finish_tree_refusal : Job → Run → List Tree → Option Tree → ℕ
finish_tree_refusal j out ts none = 0
finish_tree_refusal j out ts (some t) = 13 given misplaced j out ts t else 14 given too_many_runs j out ts t else 0

-- "Finish: 11, 12, 7, missing segment, 13, 14."
unfoldable pub finish_job_refusal : Run → List Tree → Option Job → ℕ
finish_job_refusal out ts none = 11
finish_job_refusal out ts (some j) =
    12 given is_drain j
    else 7 given is_empty (named j)
    else finish_tree_refusal j out ts (tree_with j.prefix ts)

unfoldable pub finish_refusal : LentTrees → LentJobs → Ulid → Run → ℕ
finish_refusal t j u out =
    1 given trees_outside t || jobs_outside j
    else 2 given trees_misshapen t || jobs_misshapen j
    else finish_job_refusal out (trees_of t) (job_with u (jobs_of j))

-- "Drain: 11, 12, missing segment."
unfoldable pub drain_job_refusal : Option Job → ℕ
drain_job_refusal none = 11
drain_job_refusal (some j) = 12 given not (is_drain j) else 0

unfoldable pub drain_refusal : LentTrees → LentJobs → Ulid → ℕ
drain_refusal t j u =
    1 given trees_outside t || jobs_outside j
    else 2 given trees_misshapen t || jobs_misshapen j
    else drain_job_refusal (job_with u (jobs_of j))

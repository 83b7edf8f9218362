-- What finish and drain leave of trees and of jobs: one tree changes, and one status.
use Prim.Native.Nat.{ℕ, ◌+◌, ◌*◌, ◌<◌}
use mathlib.Core.Path.{◌≡◌, refl, sym, ap, ap₂, ◌∙◌}
use mathlib.Core.List.{List, [], ◌∷◌, ◌++◌, map}
use mathlib.Core.Bool.{Bool, true, false, cond, not}
use mathlib.Core.Option.{some, some-injective, none-ne-some}
use native.Mathlib.Omega.{arith}
use lib.Dec.{eqb, lit<}
use lib.ListN.{length, get_or, take, drop, take-append-drop, length-map, get_or-map}
use lib.Seq.{ext_get_or}
use Rattle.rules.specs.Lists.{keep, first_with, total}
use Rattle.rules.specs.declared.tables.Ulid.{Ulid}
use Rattle.rules.specs.declared.tables.Run.{Run}
use Rattle.rules.specs.declared.tables.SourceId.TheVariants.{SortedRun}
use Rattle.rules.specs.Tables.{same_ulid, Tree, Job, among, run_id, with_status}
use Rattle.rules.specs.Lent.{LentJobs, rows_from, job_at, source_count, jobs_of, job_mark_words, lay_jobs, laid_with}
use Rattle.rules.specs.Validation.{tree_with}
use Rattle.rules.specs.Jobs.{job_with}
use Rattle.rules.specs.Finish.{named, runs_left, output_place, with_output, finish_tree, drain_tree, in_tree, set_status}
use Rattle.rules.specs.Calls.{marks_at}
use Rattle.rules.proofs.Packed.{length-jobs_of, job_is}
use Rattle.rules.proofs.ReadBack.{number}
use Rattle.rules.proofs.Records.{job-eq}
use Rattle.laws.specs.NothingLost.{others_than, StatusSet, OneTree, TreeFinished, TreeDrained, with_marks}
use Rattle.laws.proofs.Used.{keep_append}

-- ---- jobs
module _ (u : Ulid) (n : ℕ) where
  -- one job of set_status
  abbrev marked : Job → Job
  marked j = cond (same_ulid j.id u) (with_status n j) j

  marked-others : (js : List Job) → others_than u (set_status u n js) ≡ others_than u js
  unfolding keep
  marked-others [] = refl
  marked-others (j ∷ js) = go (same_ulid j.id u) refl (marked-others js)
    where
      go : (c : Bool) → same_ulid j.id u ≡ c → others_than u (set_status u n js) ≡ others_than u js
          → others_than u (cond c (with_status n j) j ∷ set_status u n js) ≡ cond (not c) (j ∷ others_than u js) (others_than u js)
      go true e ih = rw (e, ih)
      go false e ih = rw (e, ih)

  marked-records : (js : List Job) → map (with_status 0) (set_status u n js) ≡ map (with_status 0) js
  marked-records [] = refl
  marked-records (j ∷ js) =
      ap₂ ◌∷◌ (elim (same_ulid j.id u) as (λ c. with_status 0 (cond c (with_status n j) j) ≡ with_status 0 j) [ true ↦ refl | false ↦ refl ]) (marked-records js)

  marked-one : (js : List Job) (x : Job) → job_with u js ≡ some x → job_with u (set_status u n js) ≡ some (with_status n x)
  unfolding first_with
  marked-one [] x h = absurd (none-ne-some _ h)
  marked-one (j ∷ js) x h = go (same_ulid j.id u) refl h (marked-one js x)
    where
      go : (c : Bool) → same_ulid j.id u ≡ c → cond c (some j) (job_with u js) ≡ some x
          → (job_with u js ≡ some x → job_with u (set_status u n js) ≡ some (with_status n x))
          → job_with u (cond c (with_status n j) j ∷ set_status u n js) ≡ some (with_status n x)
      go true e h ih = rw e (ap (λ (y : Job). some (with_status n y)) (some-injective _ _ h))
      go false e h ih = rw e (ih h)

  pub status-set : (js : List Job) → StatusSet u n js (set_status u n js)
  status-set js = record { records = marked-records js; others = marked-others js; one = marked-one js }

  -- only marks change
  marked-is : (j : Job)
      → marked j ≡ record { id = j.id; status = (marked j).status; drain = (marked j).drain; prefix = j.prefix; destination = j.destination; sources = j.sources }
  marked-is j = go (same_ulid j.id u)
    where
      go : (c : Bool)
          → cond c (with_status n j) j
          ≡ record { id = j.id; status = (cond c (with_status n j) j).status; drain = (cond c (with_status n j) j).drain; prefix = j.prefix; destination = j.destination; sources = j.sources }
      go true = refl
      go false = refl

  -- so the lent jobs with the marks of a finish or drain are the jobs with that status
  module _ (t : LentJobs) where
    -- a job, for want of one
    abbrev no_job : Job
    no_job = job_at t 0 0

    -- mark k of job i
    mark-is : (i at k : ℕ) → i < length (set_status u n (jobs_of t)) → k < 2 → at ≡ 2 * i + k
        → get_or (marks_at n u t) at 0 ≡ get_or (job_mark_words (get_or (set_status u n (jobs_of t)) i (marked no_job))) k 0
    unfolding lay_jobs laid_with
    mark-is i at k h l e = number job_mark_words 2 (λ j. refl) (set_status u n (jobs_of t)) _ (marked no_job) i h at k l e

    pub marks-read : jobs_of (with_marks t (marks_at n u t)) ≡ set_status u n (jobs_of t)
    marks-read =
        ext_get_or (marked no_job) (jobs_of now) (set_status u n (jobs_of t)) (length-jobs_of now ∙ sym long) (λ i h. at i (rw (length-jobs_of now) at h))
      where
        now : LentJobs
        now = with_marks t (marks_at n u t)

        long : length (set_status u n (jobs_of t)) ≡ t.count
        long = length-map (jobs_of t) marked ∙ length-jobs_of t

        at : (i : ℕ) → i < t.count → get_or (jobs_of now) i (marked no_job) ≡ get_or (set_status u n (jobs_of t)) i (marked no_job)
        at i h =
            let s = total (rows_from (source_count t) 0 i) in
            let was : get_or (set_status u n (jobs_of t)) i (marked no_job) ≡ marked (job_at t i s) = get_or-map marked (jobs_of t) i no_job ∙ ap marked (job_is t i no_job h) in
            let status = mark-is i (2 * i) 0 (rw long h) (lit< tt) (omega arith) ∙ ap (λ (j : Job). j.status) was in
            let drain = mark-is i (2 * i + 1) 1 (rw long h) (lit< tt) refl ∙ ap (λ (j : Job). j.drain) was in
            job_is now i (marked no_job) h ∙ job-eq refl status drain refl refl refl ∙ sym (marked-is (job_at t i s)) ∙ sym was

-- ---- trees
module _ (k : ℕ) (f : Tree → Tree) (stays : (t : Tree) → (f t).prefix ≡ t.prefix) where
  pub one-prefixes : (ts : List Tree) → map (λ t. t.prefix) (in_tree k f ts) ≡ map (λ t. t.prefix) ts
  one-prefixes [] = refl
  one-prefixes (t ∷ ts) =
      ap₂ ◌∷◌ (elim (eqb t.prefix k) as (λ c. (cond c (f t) t).prefix ≡ t.prefix) [ true ↦ stays t | false ↦ refl ]) (one-prefixes ts)

  one-others : (ts : List Tree) → keep (λ t. not (eqb t.prefix k)) (in_tree k f ts) ≡ keep (λ t. not (eqb t.prefix k)) ts
  unfolding keep
  one-others [] = refl
  one-others (t ∷ ts) = go (eqb t.prefix k) refl (one-others ts)
    where
      others : List Tree → List Tree
      others us = keep (λ t. not (eqb t.prefix k)) us

      go : (c : Bool) → eqb t.prefix k ≡ c → others (in_tree k f ts) ≡ others ts
          → others (cond c (f t) t ∷ in_tree k f ts) ≡ cond (not c) (t ∷ others ts) (others ts)
      go true e ih = rw (stays t, e, ih)
      go false e ih = rw (e, ih)

  one-own : (ts : List Tree) (t : Tree) → tree_with k ts ≡ some t → tree_with k (in_tree k f ts) ≡ some (f t)
  unfolding first_with
  one-own [] t h = absurd (none-ne-some _ h)
  one-own (c ∷ ts) t h = go (eqb c.prefix k) refl h (one-own ts t)
    where
      go : (b : Bool) → eqb c.prefix k ≡ b → cond b (some c) (tree_with k ts) ≡ some t
          → (tree_with k ts ≡ some t → tree_with k (in_tree k f ts) ≡ some (f t))
          → tree_with k (cond b (f c) c ∷ in_tree k f ts) ≡ some (f t)
      go true e h ih = rw (ap (λ (n : ℕ). eqb n k) (stays c) ∙ e) (ap (λ (x : Tree). some (f x)) (some-injective _ _ h))
      go false e h ih = rw e (ih h)

  pub one-tree : (Changed : Tree → Tree → Type 0) → ((t : Tree) → Changed t (f t)) → (ts : List Tree)
      → OneTree k Changed ts (in_tree k f ts)
  one-tree Changed changed ts =
      record { prefixes = one-prefixes ts; others = one-others ts; own = λ t h. (f t, one-own ts t h, changed t) }

pub finished-stays : (j : Job) (out : Run) (t : Tree) → (finish_tree j out t).prefix ≡ t.prefix
unfolding finish_tree
finished-stays j out t = refl

pub tree-finished : (j : Job) (out : Run) (t : Tree) → TreeFinished j out t (finish_tree j out t)
unfolding finish_tree with_output
tree-finished j out t =
    let gone = named j ++ (SortedRun j.destination ∷ []) in
    let at = output_place out t.runs in
    record {
      rows = refl;
      before = runs_left gone (take at t.runs);
      after = runs_left gone (drop at t.runs);
      output = refl;
      runs = sym (keep_append (λ r. not (among (run_id r) gone)) (take at t.runs) (drop at t.runs)) ∙ ap (runs_left gone) (take-append-drop at t.runs);
    }

pub drained-stays : (j : Job) (t : Tree) → (drain_tree j t).prefix ≡ t.prefix
unfolding drain_tree
drained-stays j t = refl

pub tree-drained : (j : Job) (t : Tree) → TreeDrained j t (drain_tree j t)
unfolding drain_tree
tree-drained j t = record { rows = refl; runs = refl }

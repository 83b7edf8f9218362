-- The job rules of document 01: adding, merging, retention, with refusals 10 and 14.
use Rattle.std.specs.Prelude.{ℕ, suc, List, [], ◌∷◌, Bool, cond, ◌&&◌, ◌||◌, not, eqb, ltb, length, get_or}
use Rattle.std.proofs.Math.Option.{Option, some, none}
use Rattle.rules.specs.Lists.{any, first_with, ◌given◌else◌}
use Rattle.rules.specs.declared.tables.Ulid.{Ulid}
use Rattle.rules.specs.Tables.{same_ulid, ulid_below, Job, active, finished, is_drain}
use Rattle.rules.specs.Lent.{LentJobs, jobs_of, sources_of}
use Rattle.rules.specs.Bounds.{max_jobs, max_sources, jobs_outside, jobs_misshapen, jobs_refusal, good_job, lengths_agree}
use Rattle.rules.specs.Validation.{lent_sources}

-- the job of an id
abbrev pub job_with : Ulid → List Job → Option Job
job_with u js = first_with (λ j. same_ulid j.id u) js

-- the job at its place by id: "Adding an id already present replaces that record."
unfoldable pub inserted : Job → List Job → List Job
inserted j [] = j ∷ []
inserted j (k ∷ ks) =
    cond (same_ulid k.id j.id) (j ∷ ks) (cond (ulid_below j.id k.id) (j ∷ k ∷ ks) (k ∷ inserted j ks))

-- 14: "the result exceeds 64 jobs, 1,024 entries .. (entries of a job to be added count only here)"
unfoldable pub too_many : List Job → Bool
too_many js = ltb max_jobs (length js) || ltb max_sources (length (sources_of js))

-- ---- adding

pub record LentJob : Type 0 where
  pub id : Ulid
  pub status : ℕ
  pub drain : ℕ
  pub prefix : ℕ
  pub destination : ℕ
  pub marks : List ℕ
  pub runs : List ℕ
  pub views : List ℕ

unfoldable pub job_of : LentJob → Job
job_of j = record {
  id = j.id;
  status = j.status;
  drain = j.drain;
  prefix = j.prefix;
  destination = j.destination;
  sources = lent_sources j.marks j.runs j.views;
}

-- "status above 5 or a mark above 1, a job to be added .. included"
unfoldable pub job_misshapen : LentJob → Bool
job_misshapen j = not (lengths_agree j.marks j.runs j.views && good_job (job_of j))

-- 10: "job is a drain and an active drain has its prefix, or its destination is an active job's destination"
unfoldable pub clashes : Job → List Job → Bool
clashes j js =
    cond (is_drain j)
    (any (λ k. active k && is_drain k && eqb k.prefix j.prefix) js)
    (any (λ k. active k && not (is_drain k) && eqb k.destination j.destination) js)

-- "Adding: 10, 14."
unfoldable pub add_refusal : LentJobs → LentJob → ℕ
add_refusal t j =
    1 given jobs_outside t
    else 2 given jobs_misshapen t || job_misshapen j
    else 10 given clashes (job_of j) (jobs_of t)
    else 14 given too_many (inserted (job_of j) (jobs_of t))
    else 0

-- ---- merging

-- "The adoption table (local status against remote status)": a row for absent, then one for each local status from 0 to
-- 5; in it 1 where the remote status is adopted
abbrev pub adoption : List (List ℕ)
adoption =
    (1 ∷ 0 ∷ 0 ∷ 1 ∷ 1 ∷ 1 ∷ [])
    ∷ (0 ∷ 0 ∷ 0 ∷ 1 ∷ 0 ∷ 0 ∷ [])
    ∷ (0 ∷ 0 ∷ 1 ∷ 1 ∷ 0 ∷ 0 ∷ [])
    ∷ (0 ∷ 1 ∷ 1 ∷ 1 ∷ 0 ∷ 0 ∷ [])
    ∷ (0 ∷ 0 ∷ 0 ∷ 1 ∷ 0 ∷ 0 ∷ [])
    ∷ (0 ∷ 0 ∷ 0 ∷ 0 ∷ 0 ∷ 0 ∷ [])
    ∷ (0 ∷ 0 ∷ 0 ∷ 0 ∷ 0 ∷ 0 ∷ [])
    ∷ []

-- the row of a local job, or of its absence
abbrev pub adoption_row : Option Job → ℕ
adoption_row none = 0
adoption_row (some j) = suc j.status

abbrev pub adopts : Option Job → Job → Bool
adopts known remote = eqb (get_or (get_or adoption (adoption_row known) []) remote.status 0) 1

-- a remote job against the local ones: "remote record taken whole when adopted"
abbrev pub adopt : List Job → Job → List Job
adopt known remote = cond (adopts (job_with remote.id known) remote) (inserted remote known) known

-- "Local jobs missing remotely stay."
unfoldable pub merged : List Job → List Job → List Job
merged known [] = known
merged known (r ∷ rs) = merged (adopt known r) rs

-- "Merge: 1 and 2 on both job tables, then 14."
unfoldable pub merge_refusal : LentJobs → LentJobs → ℕ
merge_refusal t r =
    1 given jobs_outside t || jobs_outside r
    else 2 given jobs_misshapen t || jobs_misshapen r
    else 14 given too_many (merged (jobs_of t) (jobs_of r))
    else 0

-- ---- retention

-- "Retention keeps active jobs and the finished job of largest id.": jobs stand in rising id order
unfoldable pub retained : List Job → List Job
retained [] = []
retained (j ∷ js) = cond (active j || not (any finished js)) (j ∷ retained js) (retained js)

abbrev pub retain_refusal : LentJobs → ℕ
retain_refusal t = jobs_refusal t

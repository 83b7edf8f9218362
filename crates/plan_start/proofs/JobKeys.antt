-- The keys of jobs, one source, then one job after the other.
use Prim.Native.Nat.{ℕ, zero, suc, ◌+◌, ◌-◌, ◌*◌, ◌≤◌, ◌<◌}
use mathlib.Core.Path.{◌≡◌, refl, sym, ap, ap₂, ◌∙◌}
use mathlib.Core.List.{List, [], ◌∷◌, ◌++◌, map, append-nil, append_assoc, map-append}
use mathlib.Core.Bool.{Bool, true, false, cond, ◌&&◌, ◌||◌}
use native.Mathlib.Nat.{sub-zero}
use native.Mathlib.Omega.{arith}
use borrow.Author.Tests.{le-leb, lt-leb, eq-eqb, ne_eqb}
use lib.Dec.{eqb}
use lib.ListN.{length, get_or, length-append, length-map}
use Rattle.rules.specs.Lists.{any, keep, concat_map, total}
use Rattle.rules.specs.declared.tables.SourceId.{SourceId}
use Rattle.rules.specs.declared.tables.Source.{Source}
use Rattle.rules.specs.declared.tables.SourceId.TheVariants.{SortedRun}
use Rattle.rules.specs.Tables.{Job, among, id_of, active, is_drain, same_id}
use Rattle.rules.specs.Lent.{LentJobs, lent_jobs, rows_from, source_at, job_at, jobs_from, jobs_of, source_count, sources_used}
use Rattle.rules.specs.Windows.{job_uses, used_ids}
use Rattle.rules.proofs.Rows.{length-rows_from, rows_from-append}
use Rattle.rows.proofs.Sums.{Summed, sum-starts, sum-next, sum-ends}
use Rattle.tree_pick.specs.declared.conflict.Key.{Key}
use Rattle.tree_pick.specs.declared.conflict.UsedIds.{UsedIds}
use Rattle.tree_pick.specs.Conflict.{key_of, keys_in, used_in, holds, KeyAdded}
use Rattle.plan_start.specs.UsedByJobs.{source_keys, job_keys, AddedAll, UsedByJobs}
use Rattle.rules.proofs.Appended.{any_append}
use Rattle.tree_pick.proofs.UsedIds.{used-more, used-of-tree}

pub added_none : {u : UsedIds} → AddedAll u [] u
added_none {u} = record { same = refl; kept = refl; counted = omega arith; rows = sym (append-nil (keys_in u)) }

pub added_more : {before mid after : UsedIds} {keys : List Key} {key : Key} → AddedAll before keys mid → KeyAdded mid key after → AddedAll before (keys ++ (key ∷ [])) after
added_more {before} {keys = keys} {key} a b = record {
  same = b.same ∙ a.same;
  kept = b.kept ∙ a.kept;
  counted = omega (arith, length-append keys (key ∷ []), a.counted, b.counted);
  rows = b.rows ∙ rw a.rows (append_assoc (keys_in before) keys (key ∷ []));
}

-- ---- the sources of a job: k of them, from entry `at` on

pub record SourcesAdded (prefix : ℕ) (source : ℕ → Source) (at : ℕ) (before : UsedIds) (k : ℕ) (now : UsedIds) : Type 0 where
  pub so_far : AddedAll before (source_keys prefix (rows_from source at k)) now

module _ {prefix : ℕ} {source : ℕ → Source} {at : ℕ} {before : UsedIds} where
  pub sources-start : SourcesAdded prefix source at before 0 before
  unfolding source_keys rows_from
  sources-start = record { so_far = added_none }

  pub sources_next : {k : ℕ} {now after : UsedIds} → SourcesAdded prefix source at before k now → KeyAdded now (key_of prefix (id_of (source (at + k)))) after → SourcesAdded prefix source at before (k + 1) after
  unfolding source_keys rows_from
  sources_next {k} s a = record { so_far = rw (rows_from-append source at k 1, map-append, map-append) (added_more s.so_far a) }

  pub sources-end : {k count : ℕ} {now : UsedIds} → SourcesAdded prefix source at before k now → count ≡ k → AddedAll before (source_keys prefix (rows_from source at count)) now
  sources-end s e = rw e s.so_far

-- a key for each
pub length-keys : (prefix : ℕ) (source : ℕ → Source) (at k : ℕ) → length (source_keys prefix (rows_from source at k)) ≡ k
unfolding source_keys
length-keys prefix source at k = simp (length-map, length-rows_from)

-- ---- one job

-- a finished job uses nothing
pub idle_keys : (job : Job) → 3 < job.status → job_keys job ≡ []
unfolding job_keys
idle_keys job h = rw (lt-leb _ _ h)

-- a drain uses its sources
pub drain_keys : (job : Job) → job.status ≤ 3 → job.drain ≡ 1 → job_keys job ≡ source_keys job.prefix job.sources
unfolding job_keys source_keys
drain_keys job h d = rw (le-leb _ _ h, eq-eqb _ _ d, append-nil)

-- a tiered job its destination too
pub tiered_keys : (job : Job) → job.status ≤ 3 → (job.drain ≡ 1 → ⊥) → job_keys job ≡ source_keys job.prefix job.sources ++ (key_of job.prefix (SortedRun job.destination) ∷ [])
unfolding job_keys source_keys
tiered_keys job h d = rw (le-leb _ _ h, ne_eqb _ _ d, map-append)

-- and so what a job adds to the keys before it
module _ {before : UsedIds} (job : Job) where
  pub job-idle : 3 < job.status → AddedAll before (job_keys job) before
  job-idle h = rw (idle_keys job h) added_none

  module _ {after : UsedIds} (busy : job.status ≤ 3) (s : AddedAll before (source_keys job.prefix job.sources) after) where
    pub job-drain : job.drain ≡ 1 → AddedAll before (job_keys job) after
    job-drain d = rw (drain_keys job busy d) s

    pub job-tiered : {last : UsedIds} → (job.drain ≡ 1 → ⊥) → KeyAdded after (key_of job.prefix (SortedRun job.destination)) last → AddedAll before (job_keys job) last
    job-tiered d a = rw (tiered_keys job busy d) (added_more s a)

-- what a job adds to the keys, whichever job it is
pub ruleset job_turns = (append_assoc, append-nil, length-append, length-keys, idle_keys, drain_keys, tiered_keys)

-- no more keys than sources and a destination
keys-within : (job : Job) → length (job_keys job) ≤ length job.sources + 1
unfolding job_keys
keys-within job = go (active job) (is_drain job)
  where
    go : (b d : Bool) → length (cond b (map (key_of job.prefix) (map id_of job.sources ++ cond d [] (SortedRun job.destination ∷ []))) []) ≤ length job.sources + 1
    go false d = omega arith
    go true true = simp (append-nil, length-map) (omega arith)
    go true false = simp (length-map, length-append) (omega arith)

-- ---- all jobs: at job i, whose source entries begin at entry `at`

pub record KeysSoFar (j : LentJobs) (before : UsedIds) (i at : ℕ) (now : UsedIds) : Type 0 where
  pub up_to : i ≤ j.count
  pub same : now.keys.ghost_name ≡ before.keys.ghost_name
  pub kept : length now.keys.now ≡ length before.keys.now
  pub within : now.count ≤ at + i
  pub left : keys_in now ++ concat_map job_keys (jobs_from j i at (j.count - i)) ≡ concat_map job_keys (jobs_of j)
  pub sum : Summed (source_count j) j.count at i

module _ {j : LentJobs} {before : UsedIds} where
  pub keys-start : {now : UsedIds} → now.keys ≡ before.keys → now.count ≡ 0 → KeysSoFar j before 0 0 now
  unfolding jobs_of
  keys-start e z = record { up_to = omega arith; same = rw e; kept = rw e; within = omega arith; left = rw (z, sub-zero); sum = sum-starts (source_count j) j.count }

  module _ {i at : ℕ} {now : UsedIds} (s : KeysSoFar j before i at now) where
    -- the sources of job i stand within those in use
    pub sources-within : i < j.count → at + source_count j i ≤ total (rows_from (source_count j) 0 j.count)
    sources-within h = omega (arith, sum-next (source_count j) j.count at i (source_count j i) h refl s.sum)

    pub keys-next : {k : ℕ} {after : UsedIds} → i < j.count → AddedAll now (job_keys (job_at j i at)) after → k ≡ source_count j i → KeysSoFar j before (i + 1) (at + k) after
    unfolding jobs_from concat_map
    keys-next {k} h a e =
        let more : j.count - i ≡ suc (j.count - (i + 1)) = omega arith in
        record {
          up_to = omega arith;
          same = a.same ∙ s.same;
          kept = a.kept ∙ s.kept;
          within = omega (arith, s.within, a.counted, keys-within (job_at j i at), length-rows_from (source_at j.source_marks j.source_runs j.source_views) at (source_count j i));
          left = rw (a.rows, append_assoc, e) (rw more at s.left);
          sum = sum-next (source_count j) j.count at i k h e s.sum;
        }

    pub keys-end : j.count ≤ i → keys_in now ≡ concat_map job_keys (jobs_of j)
    unfolding jobs_from concat_map
    keys-end h =
        let none : j.count - i ≡ 0 = omega arith in
        sym (append-nil (keys_in now)) ∙ rw none at s.left

    pub count-end : j.count ≤ i → now.count ≤ sources_used j + j.count
    unfolding sources_used
    count-end h = omega (arith, s.within, s.up_to, sum-ends (source_count j) j.count at i h s.sum)

-- ---- what the keys of jobs say

no_keys : (prefix : ℕ) (x : SourceId) → used_in [] prefix x ≡ false
unfolding holds any
no_keys prefix x = refl

no-ids : (x : SourceId) → among x [] ≡ false
unfolding any
no-ids x = refl

-- one job's, of a tree
job-used : (job : Job) (prefix : ℕ) (x : SourceId) → used_in (job_keys job) prefix x ≡ (active job && eqb job.prefix prefix) && among x (job_uses job)
unfolding job_keys
job-used job prefix x = go (active job)
  where
    go : (b : Bool) → used_in (cond b (map (key_of job.prefix) (job_uses job)) []) prefix x ≡ (b && eqb job.prefix prefix) && among x (job_uses job)
    go true = used-of-tree job.prefix (job_uses job) prefix x
    go false = no_keys prefix x

-- all jobs', of a tree: what used_ids says
pub used-by-jobs : (js : List Job) (prefix : ℕ) (x : SourceId) → used_in (concat_map job_keys js) prefix x ≡ among x (used_ids js prefix)
unfolding used_ids keep concat_map
used-by-jobs [] prefix x = no_keys prefix x ∙ sym (no-ids x)
used-by-jobs (job ∷ js) prefix x =
    used-more (job_keys job) (concat_map job_keys js) prefix x
    ∙ ap₂ ◌||◌ (job-used job prefix x) (used-by-jobs js prefix x)
    ∙ go (active job && eqb job.prefix prefix) (keep (λ j. active j && eqb j.prefix prefix) js)
  where
    go : (b : Bool) (ks : List Job) → (b && among x (job_uses job)) || among x (concat_map job_uses ks) ≡ among x (concat_map job_uses (cond b (job ∷ ks) ks))
    go true ks = sym (any_append (λ y. same_id y x) (job_uses job) (concat_map job_uses ks))
    go false ks = refl

-- ids of jobs have no part in it
module _ (count : ℕ) (ids ids' marks specs source_marks source_runs source_views : List ℕ) where
  keys_from : (i s n : ℕ) → concat_map job_keys (jobs_from (lent_jobs count ids marks specs source_marks source_runs source_views) i s n) ≡ concat_map job_keys (jobs_from (lent_jobs count ids' marks specs source_marks source_runs source_views) i s n)
  unfolding jobs_from concat_map job_keys
  keys_from i s zero = refl
  keys_from i s (suc n) = ap (λ (ks : List Key). job_keys (job_at (lent_jobs count ids marks specs source_marks source_runs source_views) i s) ++ ks) (keys_from (i + 1) (s + get_or specs (3 * i + 2) 0) n)

  keys-same : concat_map job_keys (jobs_of (lent_jobs count ids marks specs source_marks source_runs source_views)) ≡ concat_map job_keys (jobs_of (lent_jobs count ids' marks specs source_marks source_runs source_views))
  unfolding jobs_of
  keys-same = keys_from 0 0 count

-- so that the keys of all jobs are the used ids of every tree, whatever their ids
pub used-by : {count : ℕ} {ids marks specs source_marks source_runs source_views : List ℕ} {before now : UsedIds} {i at : ℕ} (j : LentJobs)
    → KeysSoFar (lent_jobs count ids marks specs source_marks source_runs source_views) before i at now → count ≤ i
    → j.count ≡ count → j.job_marks ≡ marks → j.job_specs ≡ specs → j.source_marks ≡ source_marks → j.source_runs ≡ source_runs → j.source_views ≡ source_views
    → UsedByJobs j now
unfolding sources_used
used-by {ids = ids} j s h c m p sm sr sv = record {
  uses = λ prefix x.
      ap (λ (ks : List Key). used_in ks prefix x)
      (keys-end s h ∙ rw (← c, ← m, ← p, ← sm, ← sr, ← sv) (keys-same j.count ids j.job_ids j.job_marks j.job_specs j.source_marks j.source_runs j.source_views))
      ∙ used-by-jobs (jobs_of j) prefix x;
  within = rw (c, p) (count-end s h);
}

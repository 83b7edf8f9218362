-- The keys of the ids that jobs use, and the table that holds them.
use Rattle.std.specs.Prelude.{ℕ, ◌+◌, ◌*◌, ◌≤◌, ◌≡◌, List, [], ◌++◌, map, cond, length}
use Rattle.rules.specs.Lists.{total}
use Rattle.rules.specs.declared.tables.SourceId.{SourceId}
use Rattle.rules.specs.declared.tables.Source.{Source}
use Rattle.rules.specs.Tables.{Job, among, id_of, active}
use Rattle.rules.specs.Lent.{LentJobs, rows_from, jobs_of, source_count, sources_used}
use Rattle.rules.specs.Windows.{job_uses, used_ids}
use Rattle.rows.specs.declared.jobs.Jobs.{Jobs}
use Rattle.rows.specs.InSlices.{jobs_in}
use Rattle.tree_pick.specs.declared.conflict.Key.{Key}
use Rattle.tree_pick.specs.declared.conflict.UsedIds.{UsedIds}
use Rattle.tree_pick.specs.Conflict.{key_of, keys_in, used_in}

unfoldable pub source_keys : ℕ → List Source → List Key
source_keys prefix ss = map (key_of prefix) (map id_of ss)

-- "every source of its active jobs, and the destinations of its tiered ones, as run ids": none where the job is finished
unfoldable pub job_keys : Job → List Key
job_keys j = cond (active j) (map (key_of j.prefix) (job_uses j)) []

-- these keys more
pub record AddedAll (before : UsedIds) (keys : List Key) (after : UsedIds) : Type 0 where
  pub same : after.keys.ghost_name ≡ before.keys.ghost_name
  pub kept : length after.keys.now ≡ length before.keys.now
  pub counted : after.count ≡ before.count + length keys
  pub rows : keys_in after ≡ keys_in before ++ keys

-- how many source entries these jobs have
abbrev pub entries : Jobs → ℕ
entries j = total (rows_from (source_count (jobs_in j)) 0 j.count)

-- the rows that so many jobs need, and a row of used ids for each of their sources and destinations
pub record JobRoom (j : Jobs) (rows : ℕ) : Type 0 where
  pub marked : 2 * j.count ≤ length j.marks.now
  pub specified : 3 * j.count ≤ length j.specs.now
  pub sources : entries j ≤ length j.sources.marks.now
  pub runs : entries j ≤ length j.sources.runs.now
  pub views : 2 * entries j ≤ length j.sources.views.now
  pub room : entries j + j.count ≤ rows

-- the keys in use are the used ids of every tree
pub record UsedByJobs (j : LentJobs) (used : UsedIds) : Type 0 where
  pub uses : (prefix : ℕ) (x : SourceId) → used_in (keys_in used) prefix x ≡ among x (used_ids (jobs_of j) prefix)
  pub within : used.count ≤ sources_used j + j.count

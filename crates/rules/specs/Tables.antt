-- "Tables" of document 01: rows as records. A part that a mark makes idle is a field like any other, so that copying a
-- record copies its idle parts as they stand. ULIDs, watermarks, runs, sources, what a source names, statuses and kinds are
-- types of the code too, and are declared there (src/tables.rt).
use Rattle.std.specs.Prelude.{ℕ, List, Bool, false, cond, ◌&&◌, ◌||◌, eqb, ltb, leb}
use Rattle.rules.specs.Lists.{any}
use Rattle.rules.specs.declared.tables.Ulid.{Ulid}
use Rattle.rules.specs.declared.tables.Watermark.{Watermark}
use Rattle.rules.specs.declared.tables.Run.{Run}
use Rattle.rules.specs.declared.tables.Source.{Source}
use Rattle.rules.specs.declared.tables.SourceId.{SourceId}
use Rattle.rules.specs.declared.tables.SourceId.TheVariants.{SortedRun, SstView}
use Rattle.rules.specs.declared.tables.Status.{Status}
use Rattle.rules.specs.declared.tables.Status.TheVariants.{Submitted, Scheduled, Running, Compacted, Completed, Failed}
use Rattle.rules.specs.declared.tables.Kind.{Kind}
use Rattle.rules.specs.declared.tables.Kind.TheVariants.{Tiered, Drain}

-- "A ULID is two u64, high word first, compared in that order."
abbrev pub same_ulid : Ulid → Ulid → Bool
same_ulid a b = eqb a.high b.high && eqb a.low b.low

abbrev pub ulid_below : Ulid → Ulid → Bool
ulid_below a b = ltb a.high b.high || (eqb a.high b.high && ltb a.low b.low)

-- "L0 rows newest first (view id, SST id, size)"
pub record L0Row : Type 0 where
  pub view : Ulid
  pub sst : Ulid
  pub size : ℕ

-- "A tree has a u32 prefix number .., L0 rows .. and runs ... It has a watermark"
pub record Tree : Type 0 where
  pub prefix : ℕ
  pub watermark : Watermark
  pub l0 : List L0Row
  pub runs : List Run

-- "A job has an id, spec, status. Jobs stand in rising id order."; "A spec is tiered (prefix, sources, destination) or drain (prefix, sources)."
pub record Job : Type 0 where
  pub id : Ulid
  pub status : ℕ
  pub drain : ℕ
  pub prefix : ℕ
  pub destination : ℕ
  pub sources : List Source

-- ---- what a source names

abbrev pub same_id : SourceId → SourceId → Bool
same_id (SortedRun a) (SortedRun b) = eqb a b
same_id (SortedRun a) (SstView v) = false
same_id (SstView u) (SortedRun b) = false
same_id (SstView u) (SstView v) = same_ulid u v

-- x is one of xs
abbrev pub among : SourceId → List SourceId → Bool
among x xs = any (λ y. same_id y x) xs

-- "a source's 1 is a run", "Parts that a mark makes idle are not looked at"
abbrev pub id_of : Source → SourceId
id_of s = cond (eqb s.mark 1) (SortedRun s.run) (SstView s.view)

abbrev pub run_id : Run → SourceId
run_id r = SortedRun r.id

abbrev pub view_id : L0Row → SourceId
view_id v = SstView v.view

-- ---- the numbers of statuses and kinds, which the code names

-- "Status 0 Submitted, 1 Scheduled, 2 Running, 3 Compacted, 4 Completed, 5 Failed."
abbrev pub status_of : Status → ℕ
status_of Submitted = 0
status_of Scheduled = 1
status_of Running = 2
status_of Compacted = 3
status_of Completed = 4
status_of Failed = 5

-- "a spec's 1 a drain"
abbrev pub mark_of : Kind → ℕ
mark_of Tiered = 0
mark_of Drain = 1

-- ---- "Active: 0 to 3. Finished: 4, 5. Slots are held by 0, 1, 2."

abbrev pub active : Job → Bool
active j = leb j.status 3

abbrev pub finished : Job → Bool
finished j = leb 4 j.status && leb j.status 5

abbrev pub holds_slot : Job → Bool
holds_slot j = leb j.status 2

-- "a spec's 1 a drain"
abbrev pub is_drain : Job → Bool
is_drain j = eqb j.drain 1

-- the job at another status, all else as it stands
abbrev pub with_status : ℕ → Job → Job
with_status n j = record {
  id = j.id;
  status = n;
  drain = j.drain;
  prefix = j.prefix;
  destination = j.destination;
  sources = j.sources;
}

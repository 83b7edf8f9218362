-- What merging finds out beforehand is right: the flags, and refusal 14 by the sums over the jobs with a flag.
use Prim.Native.Nat.{ℕ, ◌+◌, ◌*◌}
use mathlib.Core.Path.{◌≡◌, refl, sym, ap, ◌∙◌}
use mathlib.Core.List.{List}
use mathlib.Core.Bool.{true, cond, ◌||◌}
use lib.Dec.{ltb}
use lib.ListN.{length, get_or}
use Rattle.rules.specs.Lists.{keep, linked, total}
use Rattle.rules.specs.Tables.{ulid_below, Job}
use Rattle.rules.specs.Lent.{LentJobs, rows_from, ulid_at, source_count, jobs_of, sources_of}
use Rattle.rules.specs.Bounds.{max_jobs, max_sources}
use Rattle.rules.specs.Jobs.{merged, too_many}
use Rattle.rules.proofs.Inserting.{rising}
use Rattle.rows.specs.Movers.{marked}
use Rattle.rows.proofs.Shapes.{linked-map, ids-are}
use Rattle.merging.specs.Merge.{adopted, stays, Flags, GoodRows, HasRows}
use Rattle.merging.proofs.Merged.{merged-takes, too_many_lem}
use Rattle.merging.proofs.Flagged.{jobs-flagged, entries-flagged}

-- a table has its own slices
pub own-rows : (j : LentJobs) → HasRows j j
own-rows j = record { jobs = refl; id_rows = refl; mark_rows = refl; spec_rows = refl }

-- "Jobs stand in rising id order.", by their ids as they lie in the slice
rising-rows : (j : LentJobs) → linked ulid_below (rows_from (λ k. ulid_at j.job_ids (2 * k)) 0 j.count) ≡ rising (jobs_of j)
unfolding jobs_of
rising-rows j = ap (linked ulid_below) (sym (ids-are j 0 0 j.count)) ∙ linked-map (λ (x : Job). x.id) ulid_below (jobs_of j)

pub rows-rise : (j t : LentJobs) → HasRows j t → GoodRows t → rising (jobs_of j) ≡ true
rows-rise j t h g = sym (rising-rows j) ∙ rw (h.jobs, h.id_rows) (rising-rows t ∙ g.rises)

module _ (l r : LentJobs) {t u : LentJobs} (here : HasRows l t) (there : HasRows r u) (good : GoodRows t) (good_there : GoodRows u) {taken staying : List ℕ} where
  -- refusal 14, by the sums over the jobs with a flag
  pub planned-fits : {staying_jobs taken_jobs staying_entries taken_entries refusal : ℕ}
      → Flags (adopted (jobs_of l)) (jobs_of r) taken
      → Flags (stays (adopted (jobs_of l)) (jobs_of r)) (jobs_of l) staying
      → staying_jobs ≡ total (rows_from (λ k. cond (marked (get_or staying k 0)) 1 0) 0 t.count)
      → taken_jobs ≡ total (rows_from (λ k. cond (marked (get_or taken k 0)) 1 0) 0 u.count)
      → staying_entries ≡ total (rows_from (λ k. cond (marked (get_or staying k 0)) (source_count t k) 0) 0 t.count)
      → taken_entries ≡ total (rows_from (λ k. cond (marked (get_or taken k 0)) (source_count u k) 0) 0 u.count)
      → refusal ≡ cond (ltb max_jobs (staying_jobs + taken_jobs) || ltb max_sources (staying_entries + taken_entries)) 14 0
      → refusal ≡ cond (too_many (merged (jobs_of l) (jobs_of r))) 14 0
  planned-fits {staying_jobs} {taken_jobs} {staying_entries} {taken_entries} f s sj tj se te e =
      let takes = merged-takes (jobs_of l) (jobs_of r) (rows-rise l t here good) (rows-rise r u there good_there) in
      let jobs : staying_jobs ≡ length (keep (stays (adopted (jobs_of l)) (jobs_of r)) (jobs_of l)) = sj ∙ rw (← here.jobs) (jobs-flagged l s) in
      let more : taken_jobs ≡ length (keep (adopted (jobs_of l)) (jobs_of r)) = tj ∙ rw (← there.jobs) (jobs-flagged r f) in
      let entries : staying_entries ≡ length (sources_of (keep (stays (adopted (jobs_of l)) (jobs_of r)) (jobs_of l))) = se ∙ rw (← here.jobs, ← here.spec_rows) (entries-flagged l s) in
      let more_entries : taken_entries ≡ length (sources_of (keep (adopted (jobs_of l)) (jobs_of r))) = te ∙ rw (← there.jobs, ← there.spec_rows) (entries-flagged r f) in
      e ∙ rw (jobs, more, entries, more_entries, too_many_lem takes)

-- Jobs by their marks and specs alone, row by row: what does not look at ids and sources need not know where these begin.
use Prim.Native.Nat.{ℕ, zero, suc, ◌+◌, ◌*◌}
use mathlib.Core.Path.{◌≡◌, refl, ap, ap₂}
use mathlib.Core.List.{List, [], ◌∷◌, map}
use mathlib.Core.Bool.{Bool, true, false, cond, ◌&&◌, not}
use lib.ListN.{length, get_or, length-map}
use Rattle.rules.specs.Lists.{keep}
use Rattle.rules.specs.Tables.{Job, active, holds_slot, is_drain}
use Rattle.rules.specs.Lent.{LentJobs, rows_from, ulid_at, job_at, jobs_from, jobs_of, source_count}

-- job i, its id and its sources left out
abbrev pub bare_job : List ℕ → List ℕ → ℕ → Job
bare_job marks specs i = record {
  id = ulid_at [] 0;
  status = get_or marks (2 * i) 0;
  drain = get_or marks (2 * i + 1) 0;
  prefix = get_or specs (3 * i) 0;
  destination = get_or specs (3 * i + 1) 0;
  sources = [];
}

module _ (j : LentJobs) (specs : List ℕ) (p : Job → Bool) (g : Job → ℕ) (same-p : (i s : ℕ) → p (job_at j i s) ≡ p (bare_job j.job_marks specs i)) (same-g : (i s : ℕ) → g (job_at j i s) ≡ g (bare_job j.job_marks specs i)) where
  -- a number of each job with p, where both look at no more than that
  pub kept-bare : (i s n : ℕ) → map g (keep p (jobs_from j i s n)) ≡ map g (keep p (rows_from (bare_job j.job_marks specs) i n))
  unfolding keep jobs_from rows_from
  kept-bare i s zero = refl
  kept-bare i s (suc n) = rw (same-p i s) (go (p (bare_job j.job_marks specs i)) _ _ (kept-bare (i + 1) (s + source_count j i) n))
    where
      go : (b : Bool) (xs ys : List Job) → map g xs ≡ map g ys → map g (cond b (job_at j i s ∷ xs) xs) ≡ map g (cond b (bare_job j.job_marks specs i ∷ ys) ys)
      go true xs ys e = ap₂ ◌∷◌ (same-g i s) e
      go false xs ys e = e

module _ (j : LentJobs) where
  -- the jobs that hold slots, by their marks
  pub held-bare : length (keep holds_slot (jobs_of j)) ≡ length (keep holds_slot (rows_from (bare_job j.job_marks []) 0 j.count))
  unfolding jobs_of
  held-bare = simp length-map at (ap length (kept-bare j [] holds_slot (λ x. x.status) (λ i s. refl) (λ i s. refl) 0 0 j.count))

  -- the active destinations, by marks and specs
  pub destinations-bare : map (λ x. x.destination) (keep (λ x. active x && not (is_drain x)) (jobs_of j)) ≡ map (λ x. x.destination) (keep (λ x. active x && not (is_drain x)) (rows_from (bare_job j.job_marks j.job_specs) 0 j.count))
  unfolding jobs_of
  destinations-bare = kept-bare j j.job_specs (λ x. active x && not (is_drain x)) (λ x. x.destination) (λ i s. refl) (λ i s. refl) 0 0 j.count

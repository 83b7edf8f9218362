-- Refusal 10's rule on jobs, slice by slice.
use Prim.Native.Nat.{ℕ, zero, suc, ◌+◌}
use mathlib.Core.Path.{◌≡◌, refl}
use mathlib.Core.Bool.{Bool, true, false, cond, ◌&&◌, not}
use lib.Dec.{eqb}
use Rattle.rules.specs.Lists.{any}
use Rattle.rules.specs.Tables.{Job, active, is_drain}
use Rattle.rules.specs.Lent.{LentJobs, rows_from, source_count, jobs_from, jobs_of}
use Rattle.rules.specs.Jobs.{clashes}
use Rattle.compactor_state.specs.Clash.{clash_at}

module _ (j : LentJobs) (x : Job) where
  drain-clash : (i s n : ℕ) → eqb x.drain 1 ≡ true → any (λ k. active k && is_drain k && eqb k.prefix x.prefix) (jobs_from j i s n) ≡ any (clash_at j.job_marks j.job_specs x.drain x.prefix x.destination) (rows_from (λ k. k) i n)
  unfolding any jobs_from rows_from clash_at
  drain-clash i s zero d = refl
  drain-clash i s (suc n) d = rw (d, drain-clash (i + 1) (s + source_count j i) n d)

  tiered-clash : (i s n : ℕ) → eqb x.drain 1 ≡ false → any (λ k. active k && not (is_drain k) && eqb k.destination x.destination) (jobs_from j i s n) ≡ any (clash_at j.job_marks j.job_specs x.drain x.prefix x.destination) (rows_from (λ k. k) i n)
  unfolding any jobs_from rows_from clash_at
  tiered-clash i s zero d = refl
  tiered-clash i s (suc n) d = rw (d, tiered-clash (i + 1) (s + source_count j i) n d)

  pub flat-clashes : clashes x (jobs_of j) ≡ any (clash_at j.job_marks j.job_specs x.drain x.prefix x.destination) (rows_from (λ k. k) 0 j.count)
  unfolding clashes jobs_of
  flat-clashes = go (eqb x.drain 1) refl
    where
      go : (b : Bool) → eqb x.drain 1 ≡ b → cond b (any (λ k. active k && is_drain k && eqb k.prefix x.prefix) (jobs_from j 0 0 j.count)) (any (λ k. active k && not (is_drain k) && eqb k.destination x.destination) (jobs_from j 0 0 j.count)) ≡ any (clash_at j.job_marks j.job_specs x.drain x.prefix x.destination) (rows_from (λ k. k) 0 j.count)
      go true d = drain-clash 0 0 j.count d
      go false d = tiered-clash 0 0 j.count d

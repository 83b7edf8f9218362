-- The output's place: what the look-ups and the counts find, slice by slice.
use Prim.Native.Nat.{ℕ, zero, suc, ◌+◌, ◌-◌, ◌≤◌, ◌<◌}
use mathlib.Core.Path.{◌≡◌, sym, ap, ◌∙◌}
use mathlib.Core.List.{List}
use mathlib.Core.Bool.{Bool, true, false, cond, not}
use native.Mathlib.Nat.{sub-zero}
use native.Mathlib.Omega.{arith}
use lib.Dec.{eqb, leb}
use lib.ListN.{length, get_or, take, drop, length-take}
use borrow.Author.Tests.{lt-ltb, le-ltb, le-leb, lt-leb}
use Rattle.rules.specs.Lists.{leading, keep}
use Rattle.rules.specs.Lent.{rows_from}
use Rattle.rules.specs.Bounds.{max_runs}
use Rattle.rows.specs.Movers.{marked}
use Rattle.std.specs.declared.result.Result.TheVariants.{Ok, Err}
use Rattle.rules.specs.declared.answers.Refusal.TheVariants.{RunsOutOfOrder, TableFull}
use Rattle.finishing.specs.Placing.{run_of, clash_in, old_place, place_in}
use Rattle.tree_rows.proofs.Room.{keep-fewer}
use Rattle.finishing.proofs.Marks.{marked-is}

module _ (run_ids : List ℕ) (used : ℕ) (kept : List ℕ) (n same : ℕ) (place : same ≡ leading (λ x. not (eqb x n)) (rows_from (λ k. get_or run_ids k 0) 0 (used - 0))) where
  run-of : same ≡ run_of run_ids used n
  run-of = place ∙ ap (λ (m : ℕ). leading (λ x. not (eqb x n)) (rows_from (λ k. get_or run_ids k 0) 0 m)) (sub-zero used)

  -- no run has the number
  pub clash-none : used ≤ same → false ≡ clash_in run_ids used kept n
  clash-none h = rw (← run-of, le-ltb same used h)

  -- the run that has it stays or goes
  pub clash-by : same < used → not (eqb (get_or kept same 0) 0) ≡ clash_in run_ids used kept n
  clash-by h = rw (← run-of, lt-ltb same used h) (sym (marked-is (get_or kept same 0)))

-- no more rows pass than there are
rows-leading : {A : Type 0} (p : A → Bool) (f : ℕ → A) (i n : ℕ) → leading p (rows_from f i n) ≤ n
unfolding leading rows_from
rows-leading p f i zero = omega arith
rows-leading p f i (suc n) = go (p (f i)) (rows-leading p f (i + 1) n)
  where
    go : (b : Bool) → leading p (rows_from f (i + 1) n) ≤ n → cond b (suc (leading p (rows_from f (i + 1) n))) 0 ≤ suc n
    go true h = omega arith
    go false h = omega arith

pub old-within : (run_ids : List ℕ) (first runs n : ℕ) {m : ℕ} → m ≡ old_place run_ids first runs n → m ≤ runs
old-within run_ids first runs n e = omega (arith, rows-leading (λ x. not (leb x n)) (λ k. get_or run_ids k 0) first runs)

-- a part of the flags keeps no more than it has
pub part-few : (s : List ℕ) (a n : ℕ) {m : ℕ} → m ≡ length (keep marked (take n (drop a s))) → m ≤ n
part-few s a n h = omega (arith, h, keep-fewer marked (take n (drop a s)), length-take n (drop a s))

module _ (run_ids : List ℕ) (used first runs : ℕ) (kept : List ℕ) (n : ℕ) where
  -- 13
  pub place-clash : {b : Bool} → b ≡ clash_in run_ids used kept n → b ≡ true → Err RunsOutOfOrder ≡ place_in run_ids used first runs kept n
  unfolding place_in
  place-clash e h = rw (sym e ∙ h)

  -- so many stay
  module _ {b : Bool} (e : b ≡ clash_in run_ids used kept n) (h : b ≡ false) {v : ℕ} (counted : v ≡ length (keep marked (take (used - 0) (drop 0 kept)))) where
    stay : v ≡ length (keep marked (take used kept))
    stay = counted ∙ ap (λ (m : ℕ). length (keep marked (take m kept))) (sub-zero used)

    -- 14
    pub place_full : max_runs ≤ v → Err TableFull ≡ place_in run_ids used first runs kept n
    unfolding place_in
    place_full l = rw (sym e ∙ h, le-leb max_runs (length (keep marked (take used kept))) (rw stay at l))

    pub place-there : v < max_runs → {m x : ℕ} → m ≡ old_place run_ids first runs n → x ≡ length (keep marked (take (first + m - first) (drop first kept))) → Ok (first + x) ≡ place_in run_ids used first runs kept n
    unfolding place_in
    place-there l {m} {x} p g =
        let own : first + m - first ≡ m = omega arith in
        rw (sym e ∙ h, lt-leb max_runs (length (keep marked (take used kept))) (rw stay at l), ← p) (ap (λ (k : ℕ). Ok (first + k)) (g ∙ ap (λ (k : ℕ). length (keep marked (take k (drop first kept)))) own))

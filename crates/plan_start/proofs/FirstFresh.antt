-- The first fresh number, by the rows of run ids and by the active destinations.
use Prim.Native.Nat.{ℕ, ◌≤◌, min, max}
use mathlib.Core.Path.{◌≡◌, ap}
use mathlib.Core.List.{List, map}
use mathlib.Core.Bool.{◌&&◌, not}
use lib.ListN.{length, take}
use native.Mathlib.Omega.{arith}
use Rattle.rules.specs.Lists.{keep, one_above}
use Rattle.rules.specs.declared.tables.Run.{Run}
use Rattle.rules.specs.Tables.{Job, active, is_drain}
use Rattle.rules.specs.Lent.{LentTrees, run_at, runs_used, trees_of, runs_of}
use Rattle.rules.specs.Pick.{ids_of, last_run}
use Rattle.rules.specs.Plan.{first_fresh}
use Rattle.rules.proofs.Rows.{map-rows_from, part-is}
use Rattle.rules.proofs.Packed.{runs-first}
use Rattle.rules.proofs.Appended.{above-append}

-- the larger of the two, stopped
pub fresh-is : (t : LentTrees) (js : List Job) → runs_used t ≤ length t.run_ids
    → first_fresh (trees_of t) js ≡ min (max (one_above (take (runs_used t) t.run_ids)) (one_above (map (λ x. x.destination) (keep (λ x. active x && not (is_drain x)) js)))) last_run
unfolding first_fresh
fresh-is t js h =
    rw (← part-is t.run_ids 0 (runs_used t) (omega arith), ← map-rows_from (λ (x : Run). x.id) (run_at t) 0 (runs_used t), ← runs-first t)
    (ap (λ (n : ℕ). min n last_run) (above-append (ids_of (runs_of (trees_of t))) (map (λ (x : Job). x.destination) (keep (λ x. active x && not (is_drain x)) js))))

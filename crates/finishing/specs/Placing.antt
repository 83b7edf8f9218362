-- Where a finish puts its output, as the code finds it.
use Rattle.std.specs.Prelude.{ℕ, ◌+◌, List, Bool, cond, ◌&&◌, not, eqb, leb, ltb, length, get_or, take, drop, Result}
use Rattle.std.specs.declared.result.Result.TheVariants.{Ok, Err}
use Rattle.rules.specs.Lists.{leading, keep}
use Rattle.rules.specs.Lent.{rows_from}
use Rattle.rules.specs.Bounds.{max_runs}
use Rattle.rows.specs.Movers.{marked}
use Rattle.rules.specs.declared.answers.Refusal.{Refusal}
use Rattle.rules.specs.declared.answers.Refusal.TheVariants.{RunsOutOfOrder, TableFull}

-- the first run in use of a number, if one has it
abbrev pub run_of : List ℕ → ℕ → ℕ → ℕ
run_of run_ids used n = leading (λ x. not (eqb x n)) (rows_from (λ k. get_or run_ids k 0) 0 used)

-- it is there, and it stays
abbrev pub clash_in : List ℕ → ℕ → List ℕ → ℕ → Bool
clash_in run_ids used kept n = ltb (run_of run_ids used n) used && marked (get_or kept (run_of run_ids used n) 0)

-- "put the output before the first old run whose id is not above it": after so many old runs
abbrev pub old_place : List ℕ → ℕ → ℕ → ℕ → ℕ
old_place run_ids first runs n = leading (λ x. not (leb x n)) (rows_from (λ k. get_or run_ids k 0) first runs)

-- 13, 14, or the place among the runs that stay
unfoldable pub place_in : List ℕ → ℕ → ℕ → ℕ → List ℕ → ℕ → Result ℕ Refusal
place_in run_ids used first runs kept n =
    cond (clash_in run_ids used kept n) (Err RunsOutOfOrder)
    (cond (leb max_runs (length (keep marked (take used kept)))) (Err TableFull)
    (Ok (first + length (keep marked (take (old_place run_ids first runs n) (drop first kept))))))

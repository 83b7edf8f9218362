-- Refusal 2's rules on trees and jobs, as they are read off the slices.
use Rattle.std.specs.Prelude.{ℕ, zero, suc, ◌+◌, ◌*◌, List, Bool, true, ◌&&◌, eqb, ltb, leb, get_or}
use Rattle.rules.specs.Lists.{all, linked, distinct, total}
use Rattle.rules.specs.Tables.{same_ulid, ulid_below}
use Rattle.rules.specs.Lent.{rows_from, ulid_at}
use Rattle.rules.specs.Bounds.{is_mark}

-- the runs of each of the n trees from tree i on fall, where those of tree i begin at run r
unfoldable pub falling_from : List ℕ → List ℕ → ℕ → ℕ → ℕ → Bool
falling_from trees ids i r zero = true
falling_from trees ids i r (suc n) =
    linked (λ a b. ltb b a) (rows_from (λ k. get_or ids k 0) r (get_or trees (3 * i + 2) 0))
    && falling_from trees ids (i + 1) (r + get_or trees (3 * i + 2) 0) n

-- job k's status and kind
abbrev pub good_marks_at : List ℕ → ℕ → Bool
good_marks_at marks k = leb (get_or marks (2 * k) 0) 5 && is_mark (get_or marks (2 * k + 1) 0)

-- `good_trees` of trees that lie in these slices (`flat-trees`)
unfoldable pub flat_trees : ℕ → List ℕ → List ℕ → List ℕ → List ℕ → Bool
flat_trees count trees watermark_marks l0_ids run_ids =
    eqb (get_or trees 0 0) 0
    && distinct eqb (rows_from (λ k. get_or trees (3 * k) 0) 0 count)
    && falling_from trees run_ids 0 0 count
    && distinct eqb (rows_from (λ k. get_or run_ids (1 * k) 0) 0 (total (rows_from (λ k. get_or trees (3 * k + 2) 0) 0 count)))
    && distinct same_ulid (rows_from (λ k. ulid_at l0_ids (4 * k)) 0 (total (rows_from (λ k. get_or trees (3 * k + 1) 0) 0 count)))
    && all is_mark (rows_from (λ k. get_or watermark_marks k 0) 0 (2 * count))

-- `good_jobs` of jobs that lie in these slices (`flat-jobs`)
unfoldable pub flat_jobs : ℕ → List ℕ → List ℕ → List ℕ → List ℕ → Bool
flat_jobs count job_ids job_marks job_specs source_marks =
    linked ulid_below (rows_from (λ k. ulid_at job_ids (2 * k)) 0 count)
    && (all (good_marks_at job_marks) (rows_from (λ k. k) 0 count)
    && all is_mark (rows_from (λ k. get_or source_marks k 0) 0 (total (rows_from (λ k. get_or job_specs (3 * k + 2) 0) 0 count))))

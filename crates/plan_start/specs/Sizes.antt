-- Refusal 4's rule, as it is read off the slices.
use Rattle.std.specs.Prelude.{ℕ, zero, suc, ◌+◌, ◌*◌, ◌^◌, List, Bool, false, ◌||◌, leb, get_or, take, drop}
use Rattle.rules.specs.Lists.{total}

-- the sizes of one of the n trees from tree i on sum above 2^64 - 1, where its L0 rows begin at row l and its runs at run r
unfoldable pub over_from : List ℕ → List ℕ → List ℕ → ℕ → ℕ → ℕ → ℕ → Bool
over_from trees l0_sizes run_sizes i l r zero = false
over_from trees l0_sizes run_sizes i l r (suc n) =
    leb (2 ^ 64) (total (take (get_or trees (3 * i + 1) 0) (drop l l0_sizes)))
    || leb (2 ^ 64) (total (take (get_or trees (3 * i + 2) 0) (drop r run_sizes)))
    || over_from trees l0_sizes run_sizes (i + 1) (l + get_or trees (3 * i + 1) 0) (r + get_or trees (3 * i + 2) 0) n

-- Refusal 10's rule, as it is read off the slices (`flat-clashes`).
use Rattle.std.specs.Prelude.{ℕ, ◌+◌, ◌*◌, List, Bool, cond, ◌&&◌, not, leb, eqb, get_or}

-- job k is active and a drain of this prefix, or active and tiered to this destination
unfoldable pub clash_at : List ℕ → List ℕ → ℕ → ℕ → ℕ → ℕ → Bool
clash_at marks specs drain prefix destination k =
    cond (eqb drain 1)
    (leb (get_or marks (2 * k) 0) 3 && eqb (get_or marks (2 * k + 1) 0) 1 && eqb (get_or specs (3 * k) 0) prefix)
    (leb (get_or marks (2 * k) 0) 3 && not (eqb (get_or marks (2 * k + 1) 0) 1) && eqb (get_or specs (3 * k + 1) 0) destination)

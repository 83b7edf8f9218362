-- Holding back, by what it meets at the next run.
use Prim.Native.Nat.{ℕ, ◌≤◌, ◌<◌}
use mathlib.Core.Path.{◌≡◌}
use mathlib.Core.List.{List}
use mathlib.Core.Bool.{false}
use borrow.Author.Tests.{le-leb, lt-leb}
use lib.Dec.{leb}
use lib.ListN.{length, drop, get_or, drop_of_length-le}
use lib.Seq.{drop-cons}
use Rattle.rules.specs.Chain.{chain, held_back}

module _ (lim : ℕ → ℕ) (most size : ℕ) (sizes : List ℕ) (i : ℕ) where
  -- no next run exists
  pub none-next : length sizes ≤ i → false ≡ held_back lim most size (drop i sizes)
  unfolding held_back
  none-next h = rw (drop_of_length-le sizes h)

  -- it is too large
  pub next-large : i < length sizes → lim size < get_or sizes i 0 → false ≡ held_back lim most size (drop i sizes)
  unfolding held_back
  next-large h g = rw (drop-cons sizes i 0, lt-leb _ _ g)

  -- its chain decides
  pub next-chain : i < length sizes → get_or sizes i 0 ≤ lim size → leb most (chain lim (drop i sizes)) ≡ held_back lim most size (drop i sizes)
  unfolding held_back
  next-chain h g = rw (drop-cons sizes i 0, le-leb _ _ g)

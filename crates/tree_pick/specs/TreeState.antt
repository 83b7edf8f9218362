-- What a window is chosen from: slatedb's TreeState, as lent.
use Rattle.std.specs.Prelude.{ℕ, ◌^◌, ◌<◌, ◌≡◌, length}
use Rattle.rules.specs.Lists.{total}
use Rattle.tree_pick.specs.declared.tree.TreePart.{TreePart}
use Rattle.tree_pick.specs.Backpressure.{Chains}

-- a size and a chain length for each run id; the sum is refusal 4's: "one tree's .. run sizes, sum above 2^64 - 1"
pub record TreeState (lim : ℕ → ℕ) (p : TreePart) : Type 0 where
  pub sized : length p.run_ids.now ≡ length p.run_sizes.now
  pub summed : total p.run_sizes.now < 2 ^ 64
  pub chained : Chains lim p.run_sizes.now p.chains.now

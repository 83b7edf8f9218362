-- The table of chain lengths, from which holding back reads "the chain from that run, used ids ignored".
use Rattle.std.specs.Prelude.{ℕ, ◌≡◌, List, length, take, drop}
use Rattle.rules.specs.Lent.{rows_from}
use Rattle.rules.specs.Chain.{chain}

-- the length of the chain from each run
unfoldable pub chains_of : (ℕ → ℕ) → List ℕ → List ℕ
chains_of lim sizes = rows_from (λ i. chain lim (drop i sizes)) 0 (length sizes)

-- the table holds them, from its front
pub record Chains (lim : ℕ → ℕ) (sizes chains : List ℕ) : Type 0 where
  pub holds : take (length sizes) chains ≡ chains_of lim sizes

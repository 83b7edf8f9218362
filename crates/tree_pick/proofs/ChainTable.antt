-- The table of chain lengths, as a call fills it and reads it at a run.
use Prim.Native.Nat.{ℕ, ◌≤◌, ◌<◌}
use mathlib.Core.Path.{◌≡◌, sym, ap, ◌∙◌}
use mathlib.Core.List.{List, ◌++◌}
use native.Mathlib.Nat.{zero-add}
use native.Mathlib.Omega.{arith}
use lib.ListN.{length, drop, get_or, length-take}
use lib.Seq.{get_or-take, take_at}
use Rattle.rules.specs.Chain.{chain}
use Rattle.rules.proofs.Rows.{length-rows_from, get_or-rows_from}
use Rattle.tree_pick.specs.Backpressure.{chains_of, Chains}

-- a table that was filled holds them
pub chains-stand : (lim : ℕ → ℕ) (sizes rest : List ℕ) → Chains lim sizes (chains_of lim sizes ++ rest)
unfolding chains_of
chains-stand lim sizes rest = record { holds = take_at (chains_of lim sizes) rest (length sizes) (length-rows_from (λ i. chain lim (drop i sizes)) 0 (length sizes)) }

module _ {lim : ℕ → ℕ} {sizes chains : List ℕ} (t : Chains lim sizes chains) where
  -- there is a place for each run
  pub chains-fit : length sizes ≤ length chains
  unfolding chains_of
  chains-fit = omega (arith, length-take (length sizes) chains, ap length t.holds ∙ length-rows_from (λ i. chain lim (drop i sizes)) 0 (length sizes))

  -- what stands at run i's
  pub chain-at : (i : ℕ) → i < length sizes → get_or chains i 0 ≡ chain lim (drop i sizes)
  unfolding chains_of
  chain-at i h =
      sym (get_or-take (length sizes) chains i 0 h)
      ∙ ap (λ (s : List ℕ). get_or s i 0) t.holds
      ∙ get_or-rows_from (λ i. chain lim (drop i sizes)) 0 (length sizes) i 0 h
      ∙ ap (λ (k : ℕ). chain lim (drop k sizes)) (zero-add i)

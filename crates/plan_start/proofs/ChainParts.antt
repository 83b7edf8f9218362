-- The chains of one tree after the other, each in its own part of the table.
use Prim.Native.Nat.{ℕ, ◌+◌, ◌-◌, ◌*◌, ◌≤◌, ◌<◌}
use mathlib.Core.Path.{◌≡◌, refl, sym, ap, ◌∙◌}
use mathlib.Core.List.{List, ◌++◌}
use mathlib.Core.Logic.{◌⊎◌, inl, inr}
use native.Mathlib.Nat.{not-suc-le-zero, eq-or-lt_of_le}
use native.Mathlib.Omega.{arith}
use lib.ListN.{length, get_or, take, drop, length-append, length-drop, take-append-drop}
use lib.Seq.{take-append-le, drop-append-le, length-take-le, take_at, drop_at}
use Rattle.rules.specs.Lists.{total}
use Rattle.rules.specs.Lent.{rows_from}
use Rattle.rules.specs.Chain.{chain}
use Rattle.rules.proofs.Rows.{length-rows_from}
use Rattle.rows.proofs.Sums.{part-within, total-last}
use Rattle.tree_pick.specs.Backpressure.{chains_of, Chains}
use Rattle.tree_pick.proofs.ChainTable.{chains-stand}
use Rattle.plan_start.specs.ChainTable.{runs_of_tree, first_run, ChainsFilled}

-- a part that stands before place r, whatever comes behind
part-before : (s x : List ℕ) (r f c : ℕ) → r ≤ length s → f + c ≤ r → take c (drop f (take r s ++ x)) ≡ take c (drop f s)
part-before s x r f c l h = front x ∙ sym (front (drop r s)) ∙ ap (λ (y : List ℕ). take c (drop f y)) (take-append-drop r s)
  where
    size : length (take r s) ≡ r
    size = length-take-le r s l

    front : (y : List ℕ) → take c (drop f (take r s ++ y)) ≡ take c (drop f (take r s))
    front y =
        rw (drop-append-le f (take r s) y (omega (arith, size)))
        (take-append-le c (drop f (take r s)) y (omega (arith, size, length-drop f (take r s))))

-- at tree i, whose runs begin at run r
pub record ChainsSoFar (lim : ℕ → ℕ) (trees run_sizes before : List ℕ) (n i r : ℕ) (now : List ℕ) : Type 0 where
  pub up_to : i ≤ n
  pub first : r ≡ first_run trees i
  pub filled : ChainsFilled lim trees run_sizes i now
  pub kept : length now ≡ length before

module _ {lim : ℕ → ℕ} {trees run_sizes before : List ℕ} {n : ℕ} where
  pub chains-start : ChainsSoFar lim trees run_sizes before n 0 0 before
  unfolding rows_from total
  chains-start = record { up_to = omega arith; first = refl; filled = record { at = λ i h. absurd (not-suc-le-zero h) }; kept = refl }

  module _ {i r : ℕ} {now : List ℕ} (s : ChainsSoFar lim trees run_sizes before n i r now) where
    -- its runs stand within those of all
    pub run-within : i < n → r + runs_of_tree trees i ≤ first_run trees n
    run-within h = omega (arith, s.first, part-within (runs_of_tree trees) i n h)

    -- the chains of tree i in their part of the table: `own`, its sizes, and `ys`, what is put there
    module _ {d : ℕ} (h : i < n) (e : d ≡ runs_of_tree trees i) (fits : r + d ≤ length run_sizes) (room : length run_sizes ≤ length before) {ys : List ℕ}
        (is : ys ≡ chains_of lim (take (r + d - r) (drop r run_sizes)) ++ drop (length (take (r + d - r) (drop r run_sizes))) (take (r + d - r) (drop r now))) where
      abbrev own : List ℕ
      own = take (r + d - r) (drop r run_sizes)

      abbrev after : List ℕ
      after = take r now ++ (ys ++ drop (r + d - r) (drop r now))

      many : r + d - r ≡ d
      many = omega arith

      there : r + d ≤ length now
      there = omega (arith, s.kept)

      put : length ys ≡ d
      unfolding chains_of
      put =
          omega
          (arith, many, there, ap length is, length-append (chains_of lim own) (drop (length own) (take (r + d - r) (drop r now))), length-rows_from (λ k. chain lim (drop k own)) 0 (length own), length-drop (length own) (take (r + d - r) (drop r now)), length-take-le (r + d - r) (drop r now) (omega (arith, there, length-drop r now)), length-take-le (r + d - r) (drop r run_sizes) (omega (arith, length-drop r run_sizes)))

      -- those of the trees before it stay
      older : (m : ℕ) → m < i → Chains lim (take (runs_of_tree trees m) (drop (first_run trees m) run_sizes)) (take (runs_of_tree trees m) (drop (first_run trees m) after))
      older m l =
          rw (part-before now (ys ++ drop (r + d - r) (drop r now)) r (first_run trees m) (runs_of_tree trees m) (omega (arith, there)) (omega (arith, s.first, part-within (λ k. get_or trees (3 * k + 2) 0) m i l)))
          (s.filled.at m l)

      newer : Chains lim (take (runs_of_tree trees i) (drop (first_run trees i) run_sizes)) (take (runs_of_tree trees i) (drop (first_run trees i) after))
      newer =
          rw (← s.first, ← e, drop_at (take r now) (ys ++ drop (r + d - r) (drop r now)) r (length-take-le r now (omega (arith, there))), take_at ys (drop (r + d - r) (drop r now)) d put, is, many)
          (chains-stand lim (take d (drop r run_sizes)) (drop (length (take d (drop r run_sizes))) (take d (drop r now))))

      pub chains-next : ChainsSoFar lim trees run_sizes before n (i + 1) (r + d) after
      chains-next = record {
        up_to = omega arith;
        first = omega (arith, s.first, total-last (λ k. get_or trees (3 * k + 2) 0) i);
        filled = record { at = λ m l. go m (eq-or-lt_of_le (omega arith)) };
        kept = omega (arith, s.kept, put, there, length-append (take r now) (ys ++ drop (r + d - r) (drop r now)), length-append ys (drop (r + d - r) (drop r now)), length-take-le r now (omega (arith, there)), length-drop (r + d - r) (drop r now), length-drop r now);
      }
        where
          go : (m : ℕ) → (m ≡ i) ⊎ (m < i) → Chains lim (take (runs_of_tree trees m) (drop (first_run trees m) run_sizes)) (take (runs_of_tree trees m) (drop (first_run trees m) after))
          go m (inl q) = rw q newer
          go m (inr l) = older m l

    pub chains-end : n ≤ i → ChainsFilled lim trees run_sizes n now
    chains-end h =
        let all : i ≡ n = omega (arith, s.up_to) in
        rw all at s.filled

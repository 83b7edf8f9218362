-- The beginnings of windows at run a, one run at a time: what the loop of the checked builder keeps, and its two ways out.
use Prim.Native.Nat.{ℕ, suc, ◌+◌, ◌≤◌, ◌<◌}
use mathlib.Core.Path.{◌≡◌, refl, sym, ◌∙◌}
use mathlib.Core.List.{List, [], ◌∷◌, map, map-append}
use mathlib.Core.Bool.{Bool, true, false, ◌&&◌, not, and-false}
use native.Mathlib.Numerals.{add-one}
use native.Mathlib.Omega.{arith}
use borrow.Author.Tests.{le-leb, lt-leb}
use lib.Dec.{leb}
use lib.ListN.{length, take, drop, get_or, length-drop}
use lib.Seq.{take-suc, get_or-drop, drop-drop}
use Rattle.rules.specs.Lists.{all, total}
use Rattle.rules.specs.declared.tables.SourceId.{SourceId}
use Rattle.rules.specs.declared.tables.SourceId.TheVariants.{SortedRun}
use Rattle.rules.specs.Chain.{chain}
use Rattle.rules.specs.Windows.{passes, beginning_passes, up_to, lasting, greatest}
use Rattle.rules.proofs.Appended.{all_append}
use Rattle.rules.proofs.Lookups.{and_left}
use Rattle.tree_pick.proofs.Appended.{last-append, total-split, total-suc}
use Rattle.tree_pick.proofs.Chains.{chain_fits}
use Rattle.tree_pick.proofs.Greatest.{up_to-past, greatest-is}

-- the beginnings of length 1 to k passed, the last of them of this size
pub record Begun (lim : ℕ → ℕ) (most : ℕ) (used : SourceId → Bool) (ids sizes : List ℕ) (a size k : ℕ) : Type 0 where
  pub fits : a + chain lim (drop a sizes) ≤ length sizes
  pub within : k ≤ chain lim (drop a sizes)
  pub summed : size ≡ total (take k (drop a sizes))
  pub passed : up_to (beginning_passes lim most used (drop a ids) (drop a sizes)) k ≡ true
  pub free : all (λ x. not (used x)) (map SortedRun (take k (drop a ids))) ≡ true

-- the destination is the last source
twice : (a b : Bool) → ((a && true) && (a && true)) && b ≡ (a && (a && true)) && b
twice true b = refl
twice false b = refl

-- what the builder is to find at run a
abbrev pub longest : (ℕ → ℕ) → ℕ → (SourceId → Bool) → List ℕ → List ℕ → ℕ → ℕ
longest lim most used ids sizes a = greatest (lasting lim most used (drop a ids) (drop a sizes)) (length (drop a ids))

-- what it tries: run i, as the last of a beginning of this size
abbrev passing : (ℕ → ℕ) → ℕ → (SourceId → Bool) → List ℕ → List ℕ → ℕ → ℕ → Bool
passing lim most used ids sizes size i = passes lim most used (SortedRun (get_or ids i 0) ∷ []) (get_or ids i 0) size (drop (i + 1) sizes)

module _ {lim : ℕ → ℕ} {most : ℕ} {used : SourceId → Bool} {ids sizes : List ℕ} {a : ℕ} where
  -- before the first run is tried
  pub nothing-begun : a ≤ length sizes → Begun lim most used ids sizes a 0 0
  unfolding up_to all total
  nothing-begun h = record { fits = chain_fits lim sizes a h; within = omega arith; summed = refl; passed = refl; free = refl }

  module _ {size k : ℕ} (b : Begun lim most used ids sizes a size k) (same : length ids ≡ length sizes) where
    -- no longer window lasts
    ends : k ≤ length (drop a ids) → ((j : ℕ) → k < j → lasting lim most used (drop a ids) (drop a sizes) j ≡ false) → k ≡ longest lim most used ids sizes a
    unfolding lasting
    ends h above = sym (greatest-is (lasting lim most used (drop a ids) (drop a sizes)) (length (drop a ids)) k h (λ _. rw (le-leb _ _ b.within, b.passed)) above)

    -- no run of the chain is left
    pub begun-ends : chain lim (drop a sizes) ≤ k → k ≡ longest lim most used ids sizes a
    unfolding lasting
    begun-ends h = ends (omega (arith, length-drop a ids)) (λ j l. rw (lt-leb j (chain lim (drop a sizes)) (omega arith)))

    -- the run at a + k is tried
    module _ (l : k < chain lim (drop a sizes)) where
      -- its size can be added
      pub size_fits : size + get_or sizes (a + k) 0 ≤ total sizes
      size_fits =
          omega (arith, b.summed, total-split a sizes, total-split (suc k) (drop a sizes), total-suc (drop a sizes) k (omega (arith, length-drop a sizes)), get_or-drop a sizes k 0)

      module _ {grown : ℕ} (s : grown ≡ size + get_or sizes (a + k) 0) where
        -- the size of the longer beginning
        sum : total (take (suc k) (drop a sizes)) ≡ grown
        sum = omega (arith, b.summed, total-suc (drop a sizes) k (omega (arith, length-drop a sizes)), get_or-drop a sizes k 0)

        -- it passes if its last run does
        one_more : beginning_passes lim most used (drop a ids) (drop a sizes) (suc k) ≡ passing lim most used ids sizes grown (a + k)
        unfolding beginning_passes passes all
        one_more =
            let there : k < length (drop a ids) = omega (arith, length-drop a ids) in
            let next : a + suc k ≡ a + k + 1 = omega arith in
            rw (take-suc (drop a ids) k 0, last-append, get_or-drop, map-append, all_append, all_append, b.free, sum, drop-drop, next)
            (twice (not (used (SortedRun (get_or ids (a + k) 0)))) _)

        -- it fails: no longer window is tried
        pub begun-blocked : passing lim most used ids sizes grown (a + k) ≡ false → k ≡ longest lim most used ids sizes a
        unfolding lasting
        begun-blocked e =
            ends (omega (arith, length-drop a ids))
            (λ j m. rw (up_to-past (beginning_passes lim most used (drop a ids) (drop a sizes)) k j (one_more ∙ e) m) (and-false (leb j (chain lim (drop a sizes)))))

        -- it passes
        pub begun-next : passing lim most used ids sizes grown (a + k) ≡ true → Begun lim most used ids sizes a grown (k + 1)
        unfolding up_to all passes
        begun-next e =
            let there : k < length (drop a ids) = omega (arith, length-drop a ids) in
            let new : not (used (SortedRun (get_or ids (a + k) 0))) ≡ true = and_left _ _ (and_left _ _ e) in
            record {
              fits = b.fits;
              within = omega arith;
              summed = rw add-one (sym sum);
              passed = rw (add-one, b.passed, one_more, e);
              free = rw (add-one, take-suc (drop a ids) k 0, get_or-drop, map-append, all_append, b.free, new);
            }

-- The window at the least run that has one, as a loop that is at run i finds it.
use Prim.Native.Nat.{ℕ, zero, suc, ◌+◌, ◌≤◌, ◌<◌}
use mathlib.Core.Path.{◌≡◌, refl, sym, ap, ◌∙◌}
use mathlib.Core.List.{List, [], ◌∷◌}
use mathlib.Core.Bool.{Bool, cond}
use native.Mathlib.Numerals.{add-one}
use native.Mathlib.Omega.{arith}
use borrow.Author.Tests.{le-leb, lt-leb}
use lib.Dec.{leb}
use lib.ListN.{length, take, drop, get_or, length-drop, drop_of_length-le}
use lib.Seq.{drop-cons, drop-drop, length-take-le}
use Rattle.rules.specs.declared.tables.SourceId.{SourceId}
use Rattle.rules.specs.Windows.{lasting, eligible, greatest, or_later, window}
use Rattle.tree_pick.specs.Window.{Lies}
use Rattle.tree_pick.proofs.Beginnings.{longest}
use Rattle.tree_pick.proofs.Greatest.{greatest-within, greatest-from}

-- no run before run i has a window
pub record NoneYet (lim : ℕ → ℕ) (least most : ℕ) (used : SourceId → Bool) (ids sizes : List ℕ) (i : ℕ) : Type 0 where
  pub within : i ≤ length ids
  pub left : window lim least most used (drop i ids) (drop i sizes) ≡ window lim least most used ids sizes

-- a window that is there is taken
taken : (k : ℕ) (here later : List ℕ) → 0 < k → or_later k here later ≡ take k here
taken zero here later h = absurd (omega arith)
taken (suc k) here later h = refl

module _ (lim : ℕ → ℕ) (least most : ℕ) (used : SourceId → Bool) where
  -- the window at the first of these runs, or a later one
  first_run : (x : ℕ) (ids sizes : List ℕ) {k : ℕ} → k ≡ greatest (lasting lim most used (x ∷ ids) sizes) (length (x ∷ ids)) → window lim least most used (x ∷ ids) sizes ≡ or_later (cond (leb least k) k 0) (x ∷ ids) (window lim least most used ids (drop 1 sizes))
  unfolding window eligible
  first_run x ids sizes e = rw (greatest-from (lasting lim most used (x ∷ ids) sizes) least (length (x ∷ ids)), ← e)

  -- the same, at run i of the tree
  run-at : (ids sizes : List ℕ) (i : ℕ) {k : ℕ} → i < length ids → k ≡ longest lim most used ids sizes i → window lim least most used (drop i ids) (drop i sizes) ≡ or_later (cond (leb least k) k 0) (drop i ids) (window lim least most used (drop (i + 1) ids) (drop (i + 1) sizes))
  run-at ids sizes i h e =
      rw (← drop-drop 1 i sizes, add-one, drop-cons ids i 0) (first_run (get_or ids i 0) (drop (suc i) ids) (drop i sizes) (rw (drop-cons ids i 0) at e))

module _ {lim : ℕ → ℕ} {least most : ℕ} {used : SourceId → Bool} {ids sizes : List ℕ} where
  -- before run 0
  pub search-starts : NoneYet lim least most used ids sizes 0
  search-starts = record { within = omega arith; left = refl }

  module _ {i : ℕ} (s : NoneYet lim least most used ids sizes i) where
    -- `k` runs at run i last
    module _ (h : i < length ids) {k : ℕ} (e : k ≡ longest lim most used ids sizes i) where
      -- they are too few
      pub search-next : k < least → NoneYet lim least most used ids sizes (i + 1)
      search-next g = record {
        within = omega arith;
        left = sym (rw (lt-leb least k g) at (run-at lim least most used ids sizes i h e)) ∙ s.left;
      }

      -- they are the window
      lies : 0 < least → least ≤ k → Lies ids i k (window lim least most used ids sizes)
      lies z g = record {
        within = omega (arith, length-drop i ids, greatest-within (lasting lim most used (drop i ids) (drop i sizes)) (length (drop i ids)));
        is = sym (rw (le-leb least k g, taken k (drop i ids) _ (omega arith)) at (run-at lim least most used ids sizes i h e)) ∙ s.left;
      }

      pub search-finds : 0 < least → least ≤ k → (0 < length (window lim least most used ids sizes)) × Lies ids i k (window lim least most used ids sizes)
      search-finds z g =
          let l = lies z g in
          (omega (arith, sym (ap length l.is) ∙ length-take-le k (drop i ids) (omega (arith, l.within, length-drop i ids))), l)

    -- no run has one
    pub search-ends : length ids ≤ i → window lim least most used ids sizes ≡ []
    unfolding window
    search-ends h = sym (rw (drop_of_length-le ids h) at s.left)

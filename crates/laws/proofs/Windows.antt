-- Windows: they go by old ids alone, and all that a window takes is free.
use Prim.Native.Nat.{ℕ, zero, suc, ◌≤◌, ◌<◌}
use mathlib.Core.Path.{◌≡◌, refl, ap, ap₂, fun_ext, subst}
use mathlib.Core.List.Memᴰ
use mathlib.Core.List.{List, [], ◌∷◌, ◌++◌, map, nil≢cons, Memᴰ}
use mathlib.Core.Bool.{Bool, true, false, cond, ◌&&◌, not}
use native.Mathlib.Omega.{arith}
use lib.Dec.{leb}
use lib.ListN.{length, take, drop, take-append-drop}
use Rattle.rules.specs.Lists.{total}
use Rattle.rules.specs.declared.tables.SourceId.{SourceId}
use Rattle.rules.specs.declared.tables.SourceId.TheVariants.{SortedRun}
use Rattle.rules.specs.Chain.{chain, held_back}
use Rattle.rules.specs.Windows.{passes, last, beginning_passes, up_to, lasting, eligible, greatest, or_later, window}
use Rattle.rules.proofs.Lookups.{and_left, and_right}
use Rattle.laws.proofs.Used.{AllOld, old-append, Same, unused, unused-same}

-- ---- run ids below the first fresh number

-- a list of such ids
abbrev pub Below : ℕ → List ℕ → Type 0
Below first [] = Unit {0}
Below first (i ∷ ids) = (i < first) × Below first ids

-- as ids they are no fresh numbers
pub below_old : (first : ℕ) (ids : List ℕ) → Below first ids → AllOld first (map SortedRun ids)
below_old first [] b = tt
below_old first (i ∷ ids) b = (b.0, below_old first ids b.1)

-- the first of them
below-take : (first k : ℕ) (ids : List ℕ) → Below first ids → Below first (take k ids)
below-take first zero ids b = tt
below-take first (suc k) [] b = tt
below-take first (suc k) (i ∷ ids) b = (b.0, below-take first k ids b.1)

-- the last of them
pub below-drop : (first k : ℕ) (ids : List ℕ) → Below first ids → Below first (drop k ids)
below-drop first zero ids b = b
below-drop first (suc k) [] b = tt
below-drop first (suc k) (i ∷ ids) b = below-drop first k ids b.1

-- the very last
pub below_last : (first i : ℕ) (ids : List ℕ) → Below first (i ∷ ids) → last (i ∷ ids) < first
unfolding last
below_last first i [] b = b.0
below_last first i (j ∷ ids) b = below_last first j ids b.1

-- each of some ids below a number is below it
pub below-mem : {first i : ℕ} {ids : List ℕ} → Below first ids → Memᴰ i ids → i < first
below-mem {first} b (Memᴰ.head e) = rw e b.0
below-mem b (Memᴰ.tail m) = below-mem b.1 m

-- the last id is one of them
pub last_mem : (ids : List ℕ) → 1 ≤ length ids → Memᴰ (last ids) ids
unfolding last
last_mem [] h = absurd (omega arith)
last_mem (i ∷ []) h = Memᴰ.head refl
last_mem (i ∷ (j ∷ ids)) h = Memᴰ.tail (last_mem (j ∷ ids) (omega arith))

-- the last of the first ids is one of all
last-in : (k i : ℕ) (ids : List ℕ) → Memᴰ (SortedRun (last (take (suc k) (i ∷ ids)))) (map SortedRun (i ∷ ids))
last-in k i ids =
    let front = take (suc k) (i ∷ ids) in
    Memᴰ.map SortedRun (subst (Memᴰ (last front)) (take-append-drop (suc k) (i ∷ ids)) (Memᴰ.append_left (drop (suc k) (i ∷ ids)) (last_mem front (omega arith))))

-- a run window, with its destination
abbrev pub window_uses : List ℕ → List SourceId
window_uses w = map SortedRun w ++ (SortedRun (last w) ∷ [])

-- the greatest k with p has p
greatest-has : (p : ℕ → Bool) (n k : ℕ) → greatest p n ≡ suc k → p (suc k) ≡ true
unfolding greatest
greatest-has p zero k e = absurd (let z : ◌≡◌ {A = ℕ} 0 1 = cc in omega arith)
greatest-has p (suc n) k e = go (p (suc n)) refl e (greatest-has p n k)
  where
    go : (c : Bool) → p (suc n) ≡ c → cond c (suc n) (greatest p n) ≡ suc k → (greatest p n ≡ suc k → p (suc k) ≡ true)
        → p (suc k) ≡ true
    go true h e ih = rw e at h
    go false h e ih = ih e

module _ (lim : ℕ → ℕ) (least most : ℕ) where
  -- ---- two tests that say the same of old ids have the same window
  module _ {first : ℕ} {u v : SourceId → Bool} (same : Same first u v) where
    -- a beginning passes by both or by none
    beginning-same : (i : ℕ) (ids sizes : List ℕ) (k : ℕ) → Below first (i ∷ ids)
        → beginning_passes lim most u (i ∷ ids) sizes (suc k) ≡ beginning_passes lim most v (i ∷ ids) sizes (suc k)
    unfolding beginning_passes passes
    beginning-same i ids sizes k b =
        let t = below-take first (suc k) (i ∷ ids) b in
        ap (λ (c : Bool). c && not (held_back lim most (total (take (suc k) sizes)) (drop (suc k) sizes)))
        (unused-same (window_uses (take (suc k) (i ∷ ids))) same
        (old-append first (map SortedRun (take (suc k) (i ∷ ids))) _ (below_old first (take (suc k) (i ∷ ids)) t) (below_last first i (take k ids) t)))

    -- and so all beginnings up to k
    beginnings-same : (i : ℕ) (ids sizes : List ℕ) (k : ℕ) → Below first (i ∷ ids)
        → up_to (beginning_passes lim most u (i ∷ ids) sizes) k ≡ up_to (beginning_passes lim most v (i ∷ ids) sizes) k
    unfolding up_to
    beginnings-same i ids sizes zero b = refl
    beginnings-same i ids sizes (suc k) b = ap₂ ◌&&◌ (beginnings-same i ids sizes k b) (beginning-same i ids sizes k b)

    -- the same lengths are eligible
    eligible-same : (i : ℕ) (ids sizes : List ℕ) → Below first (i ∷ ids)
        → eligible lim least most u (i ∷ ids) sizes ≡ eligible lim least most v (i ∷ ids) sizes
    unfolding eligible lasting
    eligible-same i ids sizes b = fun_ext (λ k. ap (λ (c : Bool). leb least k && (leb k (chain lim sizes) && c)) (beginnings-same i ids sizes k b))

    -- so the same window is picked
    pub window_same : (ids sizes : List ℕ) → Below first ids
        → window lim least most u ids sizes ≡ window lim least most v ids sizes
    unfolding window
    window_same [] sizes b = refl
    window_same (i ∷ ids) sizes b =
        ap₂ (λ (e : ℕ → Bool) (w : List ℕ). or_later (greatest e (length (i ∷ ids))) (i ∷ ids) w) (eligible-same i ids sizes b) (window_same ids (drop 1 sizes) b.1)

  -- ---- a window is made of free runs of the tree
  module _ (u : SourceId → Bool) where
    -- what is eligible is unused
    eligible-free : (ids sizes : List ℕ) (k : ℕ) → eligible lim least most u ids sizes (suc k) ≡ true
        → unused u (window_uses (take (suc k) ids)) ≡ true
    unfolding eligible lasting up_to beginning_passes passes
    eligible-free ids sizes k e =
        and_left (unused u (window_uses (take (suc k) ids))) (not (held_back lim most (total (take (suc k) sizes)) (drop (suc k) sizes)))
        (and_right (up_to (beginning_passes lim most u ids sizes) k) _ (and_right (leb (suc k) (chain lim sizes)) _ (and_right (leb least (suc k)) _ e)))

    -- its last run is one of these ids, and it uses nothing that is used
    abbrev pub Free : List ℕ → List ℕ → Type 0
    Free ids w = Memᴰ (SortedRun (last w)) (map SortedRun ids) × (unused u (window_uses w) ≡ true)

    -- so a window is free
    pub window-free : (ids sizes : List ℕ) (i : ℕ) (w : List ℕ) → window lim least most u ids sizes ≡ i ∷ w → Free ids (i ∷ w)
    unfolding window
    window-free [] sizes i w e = absurd (nil≢cons e)
    window-free (j ∷ ids) sizes i w e = go (greatest (eligible lim least most u (j ∷ ids) sizes) (length (j ∷ ids))) refl e (window-free ids (drop 1 sizes) i w)
      where
        go : (k : ℕ) → greatest (eligible lim least most u (j ∷ ids) sizes) (length (j ∷ ids)) ≡ k
            → or_later k (j ∷ ids) (window lim least most u ids (drop 1 sizes)) ≡ i ∷ w
            → (window lim least most u ids (drop 1 sizes) ≡ i ∷ w → Free ids (i ∷ w)) → Free (j ∷ ids) (i ∷ w)
        go zero h e ih = let x = ih e in (Memᴰ.tail x.0, x.1)
        go (suc k) h e ih =
            subst (Free (j ∷ ids)) e
            (last-in k j ids, eligible-free (j ∷ ids) sizes k (greatest-has (eligible lim least most u (j ∷ ids) sizes) (length (j ∷ ids)) k h))

    -- a window of such ids has such ids
    pub window-below : (first : ℕ) (ids sizes : List ℕ) → Below first ids → Below first (window lim least most u ids sizes)
    unfolding window
    window-below first [] sizes b = tt
    window-below first (i ∷ ids) sizes b =
        elim (greatest (eligible lim least most u (i ∷ ids) sizes) (length (i ∷ ids)))
        as (λ k. Below first (or_later k (i ∷ ids) (window lim least most u ids (drop 1 sizes))))
        [ zero ↦ window-below first ids (drop 1 sizes) b.1 | suc k ↦ below-take first (suc k) (i ∷ ids) b ]

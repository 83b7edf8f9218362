-- What is used, as a test on ids: when two tests say the same of all ids but fresh numbers, and how many ids are free.
use Prim.Native.Nat.{ℕ, suc, ◌≤◌, ◌<◌}
use mathlib.Core.Path.{◌≡◌, refl, sym, ap, ap₂}
use mathlib.Core.List.{List, [], ◌∷◌, ◌++◌, Memᴰ}
use mathlib.Core.Bool.{Bool, true, false, cond, ◌&&◌, ◌||◌, not, or-true, and-false, false≢true}
use native.Mathlib.Omega.{arith}
use lib.ListN.{length}
use borrow.Author.Tests.{eqb-true, eq-eqb, ne_eqb}
use Rattle.rules.specs.Lists.{any, all, keep}
use Rattle.rules.specs.declared.tables.SourceId.{SourceId}
use Rattle.rules.specs.declared.tables.SourceId.TheVariants.{SortedRun, SstView}
use Rattle.rules.specs.Tables.{same_id, among}
use Rattle.rules.proofs.Appended.{any_append}
use Rattle.rules.proofs.Lookups.{and_left, and_right, same-ulid, ulid-same}

-- ---- tests over lists

module _ {A : Type 0} (p : A → Bool) where
  -- what holds of all holds of each
  pub all-mem : {x : A} {xs : List A} → all p xs ≡ true → Memᴰ x xs → p x ≡ true
  unfolding all
  all-mem h (Memᴰ.head {x = y} {xs} e) = rw e (and_left (p y) (all p xs) h)
  all-mem h (Memᴰ.tail {x = y} {xs} m) = all-mem (and_right (p y) (all p xs) h) m

  -- what holds of one holds of some
  pub any-mem : {x : A} {xs : List A} → Memᴰ x xs → p x ≡ true → any p xs ≡ true
  unfolding any
  any-mem (Memᴰ.head {x = y} {xs} e) h = rw (← e, h)
  any-mem (Memᴰ.tail {x = y} {xs} m) h = rw (any-mem m h) (or-true (p y))

  -- and back: what holds of some holds of one
  pub mem-any : (xs : List A) → any p xs ≡ true → (x : A) × Memᴰ x xs × (p x ≡ true)
  unfolding any
  mem-any [] h = absurd (false≢true h)
  mem-any (x ∷ xs) h = go (p x) refl h (mem-any xs)
    where
      go : (c : Bool) → p x ≡ c → (c || any p xs) ≡ true → (any p xs ≡ true → (y : A) × Memᴰ y xs × (p y ≡ true))
          → (y : A) × Memᴰ y (x ∷ xs) × (p y ≡ true)
      go true e h ih = (x, Memᴰ.head refl, e)
      go false e h ih = let r = ih h in (r.0, Memᴰ.tail r.1, r.2)

  -- the kept entries of two lists
  pub keep_append : (xs ys : List A) → keep p (xs ++ ys) ≡ keep p xs ++ keep p ys
  unfolding keep
  keep_append [] ys = refl
  keep_append (x ∷ xs) ys =
      rw (keep_append xs ys)
      (elim (p x) as (λ c. cond c (x ∷ (keep p xs ++ keep p ys)) (keep p xs ++ keep p ys) ≡ cond c (x ∷ keep p xs) (keep p xs) ++ keep p ys)
      [ true ↦ refl | false ↦ refl ])

-- ---- ids in lists

-- an id is the same as itself
pub same_self : (x : SourceId) → same_id x x ≡ true
same_self (SortedRun n) = eq-eqb n n refl
same_self (SstView v) = ulid-same v v refl

-- ids that test the same are the same
pub same_id_lem : (x y : SourceId) → same_id x y ≡ true → x ≡ y
same_id_lem (SortedRun a) (SortedRun b) h = ap SortedRun (eqb-true a b h)
same_id_lem (SortedRun a) (SstView v) h = absurd (false≢true h)
same_id_lem (SstView u) (SortedRun b) h = absurd (false≢true h)
same_id_lem (SstView u) (SstView v) h = ap SstView (same-ulid u v h)

-- an id among two lists
pub among-append : (x : SourceId) (u w : List SourceId) → among x (u ++ w) ≡ (among x u || among x w)
among-append x u w = any_append (λ y. same_id y x) u w

-- a member is among them
pub mem-among : {x : SourceId} {xs : List SourceId} → Memᴰ x xs → among x xs ≡ true
mem-among {x} m = any-mem (λ y. same_id y x) m (same_self x)

-- ---- ids that are no fresh number

-- a view, or a run below the first fresh number
abbrev pub Old : ℕ → SourceId → Type 0
Old first (SortedRun n) = n < first
Old first (SstView v) = Unit {0}

-- a list of such ids
abbrev pub AllOld : ℕ → List SourceId → Type 0
AllOld first [] = Unit {0}
AllOld first (x ∷ xs) = Old first x × AllOld first xs

-- one more of them
pub old-append : (first : ℕ) (xs : List SourceId) (x : SourceId) → AllOld first xs → Old first x → AllOld first (xs ++ (x ∷ []))
old-append first [] x o p = (p, tt)
old-append first (y ∷ xs) x o p = (o.0, old-append first xs x o.1 p)

-- such an id is no fresh number
pub old-not-fresh : {first f : ℕ} (x : SourceId) → Old first x → first ≤ f → same_id (SortedRun f) x ≡ false
old-not-fresh {first} {f} (SortedRun n) o h = ne_eqb f n (λ e. omega arith)
old-not-fresh (SstView v) o h = refl

-- no fresh number is among old ids
pub fresh-none : {first f : ℕ} (xs : List SourceId) → AllOld first xs → first ≤ f → among (SortedRun f) xs ≡ false
unfolding any
fresh-none [] o h = refl
fresh-none {first} {f} (SortedRun n ∷ xs) o h = rw (ne_eqb n f (λ e. omega (arith, o.0))) (fresh-none xs o.1 h)
fresh-none (SstView v ∷ xs) o h = fresh-none xs o.1 h

-- two tests that say the same of all old ids
pub record Same (first : ℕ) (u v : SourceId → Bool) : Type 0 where
  pub at : (x : SourceId) → Old first x → u x ≡ v x

-- no id of a list is used
abbrev pub unused : (SourceId → Bool) → List SourceId → Bool
unused u xs = all (λ x. not (u x)) xs

-- then the same lists are unused
pub unused-same : {first : ℕ} {u v : SourceId → Bool} (xs : List SourceId) → Same first u v → AllOld first xs
    → unused u xs ≡ unused v xs
unfolding all
unused-same [] s o = refl
unused-same (x ∷ xs) s o = ap₂ (λ (a b : Bool). not a && b) (s.at x o.0) (unused-same xs s o.1)

-- ---- more that is used

-- what u says is used, and what w says
abbrev pub plus : (SourceId → Bool) → (SourceId → Bool) → SourceId → Bool
plus u w x = u x || w x

-- the laws of not
neither : (a b c d : Bool) → (not (a || b) && (c && d)) ≡ ((not a && c) && (not b && d))
neither true b c d = refl
neither false true c d = sym (and-false c)
neither false false c d = refl

-- unused of both is unused of each
pub unused-plus : (u w : SourceId → Bool) (xs : List SourceId) → unused (plus u w) xs ≡ (unused u xs && unused w xs)
unfolding all
unused-plus u w [] = refl
unused-plus u w (x ∷ xs) = rw (unused-plus u w xs) (neither (u x) (w x) (unused u xs) (unused w xs))

-- how many ids of a list are free
unfoldable pub free : (SourceId → Bool) → List SourceId → ℕ
free u [] = 0
free u (x ∷ xs) = cond (u x) (free u xs) (suc (free u xs))

-- no more than all
pub free-length : (u : SourceId → Bool) (xs : List SourceId) → free u xs ≤ length xs
unfolding free
free-length u [] = omega arith
free-length u (x ∷ xs) =
    elim (u x) as (λ c. cond c (free u xs) (suc (free u xs)) ≤ suc (length xs)) [ true ↦ omega (arith, free-length u xs) | false ↦ omega (arith, free-length u xs) ]

module _ (u w : SourceId → Bool) where
  -- what is used more leaves less free
  pub free-le : (xs : List SourceId) → free (plus u w) xs ≤ free u xs
  unfolding free
  free-le [] = omega arith
  free-le (x ∷ xs) = go (u x) (w x) (free-le xs)
    where
      go : (c d : Bool) → free (plus u w) xs ≤ free u xs
          → cond (c || d) (free (plus u w) xs) (suc (free (plus u w) xs)) ≤ cond c (free u xs) (suc (free u xs))
      go true d h = h
      go false true h = omega arith
      go false false h = omega arith

  -- one that was free is used now: fewer are free
  pub free-lt : {x : SourceId} {xs : List SourceId} → Memᴰ x xs → u x ≡ false → w x ≡ true → free (plus u w) xs < free u xs
  unfolding free
  free-lt {x} (Memᴰ.head {x = y} {xs = xs} e) h g = rw (← e, h, g) (omega (arith, free-le xs))
  free-lt {x} (Memᴰ.tail {x = y} {xs = xs} m) h g = go (u y) (w y) (free-lt m h g)
    where
      go : (c d : Bool) → free (plus u w) xs < free u xs
          → cond (c || d) (free (plus u w) xs) (suc (free (plus u w) xs)) < cond c (free u xs) (suc (free u xs))
      go true d h = h
      go false true h = omega arith
      go false false h = omega arith

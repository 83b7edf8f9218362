-- The tree at a place changed (`changed_at`): the list in parts, what stays, two changes one after the other, and the tree of a
-- prefix.
use Prim.Native.Nat.{ℕ, zero, suc, ◌<◌}
use mathlib.Core.Path.{◌≡◌, refl, sym, ap}
use mathlib.Core.List.{List, [], ◌∷◌, ◌++◌, map}
use mathlib.Core.Bool.{true, false, not}
use native.Mathlib.Nat.{le_of_suc-le-suc, not-suc-le-zero}
use lib.Dec.{eqb}
use lib.ListN.{length, get_or, take, drop, length-map, get_or-map}
use borrow.Author.Tests.{eq-eqb, ne_eqb, eqb-false, not-true}
use Rattle.rules.specs.Lists.{any, concat_map, distinct}
use Rattle.rules.specs.Tables.{Tree}
use Rattle.rules.specs.Finish.{in_tree}
use Rattle.rules.proofs.Lookups.{and_left, and_right, or_left, or_right, none-at}
use Rattle.tree_rows.specs.Change.{changed_at}

-- the trees before it, it, and those after it
pub changed-parts : (i : ℕ) (f : Tree → Tree) (ts : List Tree) (d : Tree) → i < length ts → changed_at i f ts ≡ take i ts ++ (f (get_or ts i d) ∷ drop (suc i) ts)
unfolding changed_at
changed-parts i f [] d h = absurd (not-suc-le-zero h)
changed-parts zero f (t ∷ ts) d h = refl
changed-parts (suc i) f (t ∷ ts) d h = ap (λ (r : List Tree). t ∷ r) (changed-parts i f ts d (le_of_suc-le-suc h))

-- as many trees as before
pub length-changed : (i : ℕ) (f : Tree → Tree) (ts : List Tree) → length (changed_at i f ts) ≡ length ts
unfolding changed_at
length-changed i f [] = refl
length-changed zero f (t ∷ ts) = refl
length-changed (suc i) f (t ∷ ts) = ap suc (length-changed i f ts)

-- what a change leaves to each tree, it leaves to all
pub changed-keeps : {B : Type 0} (of : Tree → List B) (f : Tree → Tree) → ((t : Tree) → of (f t) ≡ of t) → (i : ℕ) (ts : List Tree) → concat_map of (changed_at i f ts) ≡ concat_map of ts
unfolding changed_at concat_map
changed-keeps of f h i [] = refl
changed-keeps of f h zero (t ∷ ts) = rw (h t)
changed-keeps {B} of f h (suc i) (t ∷ ts) = ap (λ (r : List B). of t ++ r) (changed-keeps of f h i ts)

-- two changes of one tree are one
pub changed-twice : (i : ℕ) (f g : Tree → Tree) (ts : List Tree) → changed_at i g (changed_at i f ts) ≡ changed_at i (λ t. g (f t)) ts
unfolding changed_at
changed-twice i f g [] = refl
changed-twice zero f g (t ∷ ts) = refl
changed-twice (suc i) f g (t ∷ ts) = ap (λ (r : List Tree). t ∷ r) (changed-twice i f g ts)

-- two changes that do the same to the tree at the place
pub changed-same : (i : ℕ) (f g : Tree → Tree) (ts : List Tree) (d : Tree) → f (get_or ts i d) ≡ g (get_or ts i d) → changed_at i f ts ≡ changed_at i g ts
unfolding changed_at
changed-same i f g [] d e = refl
changed-same zero f g (t ∷ ts) d e = ap (λ (x : Tree). x ∷ ts) e
changed-same (suc i) f g (t ∷ ts) d e = ap (λ (r : List Tree). t ∷ r) (changed-same i f g ts d e)

-- the tree at the place, after the change
pub changed-there : (i : ℕ) (f : Tree → Tree) (ts : List Tree) (d : Tree) → i < length ts → get_or (changed_at i f ts) i d ≡ f (get_or ts i d)
unfolding changed_at
changed-there i f [] d h = absurd (not-suc-le-zero h)
changed-there zero f (t ∷ ts) d h = refl
changed-there (suc i) f (t ∷ ts) d h = changed-there i f ts d (le_of_suc-le-suc h)

-- no tree has the prefix: none is changed
none-changed : (prefix : ℕ) (f : Tree → Tree) (ts : List Tree) → any (eqb prefix) (map (λ x. x.prefix) ts) ≡ false → in_tree prefix f ts ≡ ts
unfolding any
none-changed prefix f [] h = refl
none-changed prefix f (t ∷ ts) h =
    let other : eqb t.prefix prefix ≡ false = turned prefix t.prefix (or_left (eqb prefix t.prefix) (any (eqb prefix) (map (λ x. x.prefix) ts)) h) in
    rw other (ap (λ (r : List Tree). t ∷ r) (none-changed prefix f ts (or_right (eqb prefix t.prefix) (any (eqb prefix) (map (λ x. x.prefix) ts)) h)))
  where
    turned : (a b : ℕ) → eqb a b ≡ false → eqb b a ≡ false
    turned a b h = ne_eqb b a (λ e. eqb-false a b h (sym e))

-- "a prefix twice" is refused: the tree of tree i's prefix is tree i
pub in-tree : (i : ℕ) (f : Tree → Tree) (ts : List Tree) (d : Tree) → i < length ts → distinct eqb (map (λ x. x.prefix) ts) ≡ true
    → in_tree (get_or ts i d).prefix f ts ≡ changed_at i f ts
unfolding changed_at distinct
in-tree i f [] d h u = absurd (not-suc-le-zero h)
in-tree zero f (t ∷ ts) d h u =
    let others = map (λ (x : Tree). x.prefix) ts in
    rw (eq-eqb t.prefix t.prefix refl)
    (ap (λ (r : List Tree). f t ∷ r) (none-changed t.prefix f ts (not-true (any (eqb t.prefix) others) (and_left (not (any (eqb t.prefix) others)) (distinct eqb others) u))))
in-tree (suc i) f (t ∷ ts) d h u =
    let others = map (λ (x : Tree). x.prefix) ts in
    let apart = none-at (eqb t.prefix) d.prefix others (not-true (any (eqb t.prefix) others) (and_left (not (any (eqb t.prefix) others)) (distinct eqb others) u)) i (rw length-map (le_of_suc-le-suc h)) in
    rw (rw (get_or-map (λ (x : Tree). x.prefix) ts i d) at apart)
    (ap (λ (r : List Tree). t ∷ r) (in-tree i f ts d (le_of_suc-le-suc h) (and_right (not (any (eqb t.prefix) others)) (distinct eqb others) u)))
